-- What passes as a definition is spelled in one way and may follow, and what may follow passes.
use Rattle.std.proofs.Common.{◌≡◌, ℕ, ◌+◌, ◌<◌, ◌≤◌, ◌^◌, Bool, true, false, eqb, ltb, leb, List, [], ◌∷◌, ◌++◌, length, refl, sym, ap, subst, ◌∙◌, arith, inl, inr}
use Rattle.std.specs.Prelude.{MatchBool, All, IsTrue, slice_index}
use Rattle.std.specs.List.{list_any, flat_map}
use Rattle.std.proofs.lemmas.Bool.{eqb-true, ltb-false, le-ltb}
use Rattle.std.proofs.lemmas.Bool.Decides.{nat_tests}
use Rattle.wr_io.specs.declared.fault.Code.TheVariants as code
use Rattle.wr_geom.specs.Bounds.{Bounds}
use Rattle.wr_geom.specs.Sides.{IsSmallCorner, square}
use Rattle.field_forms.specs.Form.{done, bind, Passes}
use Rattle.field_forms.specs.Fields.{reference}
use Rattle.field_forms.specs.Facts.{IsReference, IsOptionalReference}
use Rattle.field_forms.specs.Spelling.{u16_bytes, u32_bytes, i32_bytes, optional_bytes, flag_bytes, rectangle_bytes}
use Rattle.field_forms.proofs.Passing.{HasSpelling, with_fact, refuse_if_spelling, times_spelling, when_true, when_false, either, by_true, by_false, joined, alone, at_end}
use Rattle.field_forms.proofs.Spelled.{byte_bytes, byte_spelling, u16_spelling, flag_spelling, reference_spelling, optional_reference_spelling, optional_number_spelling, coordinate_spelling, rectangle_spelling}
use Rattle.display_list.specs.declared.node.Node.{Node}
use Rattle.display_list.specs.declared.node.Node.TheVariants as node
use Rattle.display_list.specs.declared.node.ClipDef.{ClipDef}
use Rattle.display_list.specs.declared.node.ChainDef.{ChainDef}
use Rattle.display_list.specs.declared.token.Part.{Part}
use Rattle.display_list.specs.declared.token.Part.TheVariants as part
use Rattle.display_list.specs.Levels.{parent_of, has_scroll, inherited}
use Rattle.display_list.specs.PartialList.{PartialList, takes_nodes, takes_clips, takes_chains}
use Rattle.display_list.specs.Facts.{AreRadii, IsNode, IsClip}
use Rattle.display_list.specs.Following.{IsNewScroll, NodeFollows, ClipFollows, ChainFollows, CanFollow}
use Rattle.display_list.specs.Parts.{parent_node, reference_frame, scroll_number, scroll_frame, rect_clip, round_clip, clip_count, chain, node_part, clip_part, chain_part, definition}
use Rattle.display_list.specs.Spelling.{node_fields, node_tag, node_bytes, rect_clip_fields, round_clip_fields, clip_bytes, chain_fields, radii_bytes, part_bytes}
use Rattle.display_list.proofs.FieldForms.{scroll_side_spelling, corner_radii_spelling}

below_64 : (k : ℕ) → leb 64 k ≡ false → k < 64
below_64 k e = grind (arith, nat_tests)

not_64 : (k : ℕ) → k < 64 → leb 64 k ≡ false
not_64 k h = grind (arith, nat_tests)

-- ---- nodes

-- a node's parent, of which the level is below 64
record IsParent (s : PartialList) (n : ℕ) : Type 0 where
  defined : IsReference (length s.levels) n
  level : slice_index s.levels n < 64

parent_node_spelling : (s : PartialList) → HasSpelling (parent_node s) u16_bytes (IsParent s)
unfolding parent_node
parent_node_spelling s =
    with_fact (IsParent s) (refuse_if_spelling (λ n. leb 64 (slice_index s.levels n)) code.Limit (reference_spelling (length s.levels)))
    (λ n h. record { defined = h.0; level = below_64 (slice_index s.levels n) h.1 })
    (λ n h. (h.defined, not_64 (slice_index s.levels n) h.level))

-- a scroll number that no node has yet
record IsScrollNumber (s : PartialList) (sid : ℕ) : Type 0 where
  fits : sid < 2 ^ 16
  new : list_any (has_scroll sid) s.nodes ≡ false

scroll_number_spelling : (s : PartialList) → HasSpelling (scroll_number s) u16_bytes (IsScrollNumber s)
unfolding scroll_number
scroll_number_spelling s =
    with_fact (IsScrollNumber s) (refuse_if_spelling (λ sid. list_any (has_scroll sid) s.nodes) code.BadRef u16_spelling)
    (λ n h. record { fits = h.0; new = h.1 })
    (λ n h. (h.fits, h.new))

-- what stands as a node, after its tag
record NodeIs (s : PartialList) (tag : ℕ) (bytes : List ℕ) (n : Node) : Type 0 where
  tag_is : node_tag n ≡ tag
  spelled : bytes ≡ node_fields n
  parent : IsParent s (parent_of n)
  new : IsNewScroll s.nodes n
  fields : IsNode n

reference_frame_spelled : (s : PartialList) (at : ℕ) (bytes : List ℕ) (x : Node) → Passes (reference_frame s) at bytes x → NodeIs s 1 bytes x
unfolding reference_frame
reference_frame_spelled s at bytes x (p, _, _, e0, p0, (h, _, _, e1, p1, (v, _, _, e2, p2, (o, _, _, e3, p3, (z, w))))) =
    let a = (parent_node_spelling s).spelled _ _ p p0 in
    let b = coordinate_spelling.spelled _ _ h p1 in
    let c = coordinate_spelling.spelled _ _ v p2 in
    let d = optional_number_spelling.spelled _ _ o p3 in
    subst (NodeIs s 1 bytes) (sym w) (record {
      tag_is = refl;
      spelled = joined e0 a.0 (joined e1 b.0 (joined e2 c.0 (joined e3 d.0 z)));
      parent = a.1;
      new = tt;
      fields = (b.1, c.1, d.1);
    })

scroll_frame_spelled : (s : PartialList) (at : ℕ) (bytes : List ℕ) (x : Node) → Passes (scroll_frame s) at bytes x → NodeIs s 2 bytes x
unfolding scroll_frame
scroll_frame_spelled s at bytes x (p, _, _, e0, p0, (n, _, _, e1, p1, (vw, _, _, e2, p2, (vh, _, _, e3, p3, (cw, _, _, e4, p4, (ch, _, _, e5, p5, (z, w))))))) =
    let a = (parent_node_spelling s).spelled _ _ p p0 in
    let b = (scroll_number_spelling s).spelled _ _ n p1 in
    let c = scroll_side_spelling.spelled _ _ vw p2 in
    let d = scroll_side_spelling.spelled _ _ vh p3 in
    let f = scroll_side_spelling.spelled _ _ cw p4 in
    let g = scroll_side_spelling.spelled _ _ ch p5 in
    subst (NodeIs s 2 bytes) (sym w) (record {
      tag_is = refl;
      spelled = joined e0 a.0 (joined e1 b.0 (joined e2 c.0 (joined e3 d.0 (joined e4 f.0 (joined e5 g.0 z)))));
      parent = a.1;
      new = b.1.new;
      fields = (b.1.fits, c.1, d.1, f.1, g.1);
    })

reference_frame_passes : (s : PartialList) (at p : ℕ) (x y : _) (o : _) → IsParent s p → IsNode (node.Reference p x y o)
    → Passes (reference_frame s) at (node_fields (node.Reference p x y o)) (node.Reference p x y o)
unfolding reference_frame
reference_frame_passes s at p x y o h k = (
  p,
  u16_bytes p,
  _,
  refl,
  (parent_node_spelling s).passes _ p h,
  (
    x,
    i32_bytes x,
    _,
    refl,
    coordinate_spelling.passes _ x k.0,
    (y, i32_bytes y, _, refl, coordinate_spelling.passes _ y k.1, (o, optional_bytes o, _, refl, optional_number_spelling.passes _ o k.2, (refl, refl))),
  ),
)

scroll_frame_passes : (s : PartialList) (at p n vw vh cw ch : ℕ) → IsParent s p → IsScrollNumber s n → IsNode (node.Scroll p n vw vh cw ch)
    → Passes (scroll_frame s) at (node_fields (node.Scroll p n vw vh cw ch)) (node.Scroll p n vw vh cw ch)
unfolding scroll_frame
scroll_frame_passes s at p n vw vh cw ch h i k = (
  p,
  u16_bytes p,
  _,
  refl,
  (parent_node_spelling s).passes _ p h,
  (
    n,
    u16_bytes n,
    _,
    refl,
    (scroll_number_spelling s).passes _ n i,
    (
      vw,
      u32_bytes vw,
      _,
      refl,
      scroll_side_spelling.passes _ vw k.1,
      (
        vh,
        u32_bytes vh,
        _,
        refl,
        scroll_side_spelling.passes _ vh k.2,
        (cw, u32_bytes cw, _, refl, scroll_side_spelling.passes _ cw k.3, (ch, u32_bytes ch, _, refl, scroll_side_spelling.passes _ ch k.4, (refl, refl))),
      ),
    ),
  ),
)

-- ---- clips

-- what stands as a clip, with its tag
record ClipIs (s : PartialList) (bytes : List ℕ) (c : ClipDef) : Type 0 where
  spelled : bytes ≡ clip_bytes c
  clip : IsClip (length s.levels) c

no_corners : (b : Bounds) → AreRadii b square
no_corners b =
    let none : IsSmallCorner (0, 0) = record { across = omega arith; down = omega arith } in
    record { small = record { tl = none; tr = none; br = none; bl = none }; fit = record { top = omega arith; bottom = omega arith; left = omega arith; right = omega arith } }

rect_clip_spelled : (s : PartialList) (at : ℕ) (bytes : List ℕ) (x : ClipDef) → Passes (rect_clip s) at bytes x → ClipIs s (3 ∷ bytes) x
unfolding rect_clip
rect_clip_spelled s at bytes x (n, _, _, e0, p0, (r, _, _, e1, p1, (z, w))) =
    let a = (reference_spelling (length s.levels)).spelled _ _ n p0 in
    let b = rectangle_spelling.spelled _ _ r p1 in
    subst (ClipIs s (3 ∷ bytes)) (sym w) (record {
      spelled = ap (λ (o : List ℕ). 3 ∷ o) (joined e0 a.0 (joined e1 b.0 z));
      clip = record { node = a.1; rect = b.1; radii = no_corners r; plain = λ _. (refl, refl) };
    })

round_clip_spelled : (s : PartialList) (at : ℕ) (bytes : List ℕ) (x : ClipDef) → Passes (round_clip s) at bytes x → ClipIs s (4 ∷ bytes) x
unfolding round_clip
round_clip_spelled s at bytes x (n, _, _, e0, p0, (o, _, _, e1, p1, (r, _, _, e2, p2, (c, _, _, e3, p3, (z, w))))) =
    let a = (reference_spelling (length s.levels)).spelled _ _ n p0 in
    let f = flag_spelling.spelled _ _ o p1 in
    let b = rectangle_spelling.spelled _ _ r p2 in
    let d = (corner_radii_spelling r).spelled _ _ c p3 in
    subst (ClipIs s (4 ∷ bytes)) (sym w) (record {
      spelled = ap (λ (q : List ℕ). 4 ∷ q) (joined e0 a.0 (joined e1 f.0 (joined e2 b.0 (joined e3 d.0 z))));
      clip = record { node = a.1; rect = b.1; radii = d.1; plain = λ h. absurd cc };
    })

-- a clip that isn't round, by what it keeps
abbrev plain_clip : ℕ → Bounds → ClipDef
plain_clip n r = record { node = n; out = false; round = false; rect = r; radii = square }

rect_clip_passes : (s : PartialList) (at : ℕ) (c : ClipDef) → c.round ≡ false → IsClip (length s.levels) c → Passes (rect_clip s) at (rect_clip_fields c) c
unfolding rect_clip
rect_clip_passes s at c flat h =
    let p = h.plain flat in
    let same : c ≡ plain_clip c.node c.rect = λ i. record { node = c.node; out = p.0 i; round = flat i; rect = c.rect; radii = p.1 i } in (
      c.node,
      u16_bytes c.node,
      _,
      refl,
      (reference_spelling (length s.levels)).passes _ c.node h.node,
      (c.rect, rectangle_bytes c.rect, _, refl, rectangle_spelling.passes _ c.rect h.rect, (refl, same)),
    )

round_clip_passes : (s : PartialList) (at : ℕ) (c : ClipDef) → c.round ≡ true → IsClip (length s.levels) c → Passes (round_clip s) at (round_clip_fields c) c
unfolding round_clip
round_clip_passes s at c round h =
    let whole : ClipDef = record { node = c.node; out = c.out; round = true; rect = c.rect; radii = c.radii } in
    let same : c ≡ whole = λ i. record { node = c.node; out = c.out; round = round i; rect = c.rect; radii = c.radii } in (
      c.node,
      u16_bytes c.node,
      _,
      refl,
      (reference_spelling (length s.levels)).passes _ c.node h.node,
      (
        c.out,
        flag_bytes c.out,
        _,
        refl,
        flag_spelling.passes _ c.out tt,
        (
          c.rect,
          rectangle_bytes c.rect,
          _,
          refl,
          rectangle_spelling.passes _ c.rect h.rect,
          (c.radii, radii_bytes c.radii, _, refl, (corner_radii_spelling c.rect).passes _ c.radii h.radii, (refl, same)),
        ),
      ),
    )

-- ---- chains

-- how many clips a chain has of its own
record IsClipCount (more n : ℕ) : Type 0 where
  fits : n < 256
  total : more + n ≤ 255

clip_count_spelling : (more : ℕ) → HasSpelling (clip_count more) byte_bytes (IsClipCount more)
unfolding clip_count
clip_count_spelling more =
    with_fact (IsClipCount more) (refuse_if_spelling (λ n. ltb 255 (more + n)) code.Limit byte_spelling)
    (λ n h. record { fits = h.0; total = ltb-false 255 (more + n) h.1 })
    (λ n h. (h.fits, le-ltb 255 (more + n) h.total))

-- what stands as a chain, after its tag
record ChainIs (s : PartialList) (bytes : List ℕ) (c : ChainDef) : Type 0 where
  spelled : bytes ≡ chain_fields c
  parent : IsOptionalReference (length s.totals) c.parent
  total : inherited s.totals c.parent + length c.clips ≤ 255
  clips : All (IsReference (length s.clips)) c.clips

chain_spelled : (s : PartialList) (at : ℕ) (bytes : List ℕ) (x : ChainDef) → Passes (chain s) at bytes x → ChainIs s bytes x
unfolding chain
chain_spelled s at bytes x (p, _, _, e0, p0, (n, _, _, e1, p1, (cs, _, _, e2, p2, (z, w)))) =
    let a = (optional_reference_spelling (length s.totals)).spelled _ _ p p0 in
    let b = (clip_count_spelling (inherited s.totals p)).spelled _ _ n p1 in
    let c = (times_spelling (reference (length s.clips)) u16_bytes (IsReference (length s.clips)) (reference_spelling (length s.clips)) n).spelled _ _ cs p2 in
    let count : length cs ≡ n = c.1.0 in
    subst (ChainIs s bytes) (sym w) (record {
      spelled = joined e0 a.0 (joined e1 (b.0 ∙ ap (λ (k : ℕ). k ∷ []) (sym count)) (joined e2 c.0 z));
      parent = a.1;
      total = let t = b.1.total in omega arith;
      clips = c.1.1;
    })

chain_passes : (s : PartialList) (at : ℕ) (c : ChainDef) → IsOptionalReference (length s.totals) c.parent → inherited s.totals c.parent + length c.clips ≤ 255
    → All (IsReference (length s.clips)) c.clips → Passes (chain s) at (chain_fields c) c
unfolding chain
chain_passes s at c h t k = (
  c.parent,
  optional_bytes c.parent,
  _,
  refl,
  (optional_reference_spelling (length s.totals)).passes _ c.parent h,
  (
    length c.clips,
    length c.clips ∷ [],
    _,
    refl,
    (clip_count_spelling (inherited s.totals c.parent)).passes _ (length c.clips) (record { fits = omega arith; total = t }),
    (
      c.clips,
      flat_map u16_bytes c.clips,
      _,
      refl,
      (times_spelling (reference (length s.clips)) u16_bytes (IsReference (length s.clips)) (reference_spelling (length s.clips)) (length c.clips)).passes _ c.clips (refl, k),
      (refl, refl),
    ),
  ),
)

-- ---- definitions in their sections

is_true : (b : Bool) → b ≡ true → IsTrue b
is_true b e = grind arith

from_true : (b : Bool) → IsTrue b → b ≡ true
from_true b h = grind arith

record HasRoom (in_section : Bool) (count : ℕ) : Type 0 where
  section : IsTrue in_section
  room : count < 4096

below_4096 : (k : ℕ) → leb 4096 k ≡ false → k < 4096
below_4096 k e = grind (arith, nat_tests)

not_4096 : (k : ℕ) → k < 4096 → leb 4096 k ≡ false
not_4096 k h = grind (arith, nat_tests)

-- what passes in its section
in_section_passes : {P : Type 0} (b : Bool) (count : ℕ) → MatchBool b (MatchBool (leb 4096 count) ⊥ P) ⊥ → HasRoom b count × P
in_section_passes b count h =
    let c = when_true b h in
    let d = when_false (leb 4096 count) c.1 in
    (record { section = is_true b c.0; room = below_4096 count d.0 }, d.1)

-- what may stand in its section passes there
passes_in_section : {P : Type 0} (b : Bool) (count : ℕ) → IsTrue b → count < 4096 → P → MatchBool b (MatchBool (leb 4096 count) ⊥ P) ⊥
passes_in_section b count h room p = by_true _ b (from_true b h) (by_false _ (leb 4096 count) (not_4096 count room) p)

-- a part with its tag
pub record PartIs (min_pipeline : ℕ) (s : PartialList) (bytes : List ℕ) (p : Part) : Type 0 where
  pub spelled : bytes ≡ part_bytes p
  pub follows : CanFollow min_pipeline s p

node_bytes_from : (tag : ℕ) (bytes : List ℕ) (n : Node) → node_tag n ≡ tag → bytes ≡ node_fields n → tag ∷ bytes ≡ node_bytes n
node_bytes_from tag bytes n e f = ap (λ (k : ℕ). k ∷ bytes) (sym e) ∙ ap (λ (o : List ℕ). node_tag n ∷ o) f

tag_one : (tag : ℕ) → 0 < tag → tag ≤ 2 → eqb tag 1 ≡ false → tag ≡ 2
tag_one tag h k e = grind (arith, nat_tests)

node_is : (m : ℕ) (s : PartialList) (tag k : ℕ) (bytes : List ℕ) (n : Node) → HasRoom (takes_nodes s.section) (length s.nodes) → tag ≡ k → NodeIs s k bytes n → PartIs m s (tag ∷ bytes) (part.Node n)
node_is m s tag k bytes n room e h = record {
  spelled = node_bytes_from tag bytes n (h.tag_is ∙ sym e) h.spelled;
  follows = record { section = room.section; room = room.room; parent = h.parent.defined; level = h.parent.level; new = h.new; fields = h.fields };
}

node_part_spelled : (m : ℕ) (s : PartialList) (position tag : ℕ) → 0 < tag → tag ≤ 2 → (at : ℕ) (bytes : List ℕ) (x : Node) → Passes (node_part s position tag) at bytes x
    → PartIs m s (tag ∷ bytes) (part.Node x)
unfolding node_part
node_part_spelled m s position tag lo hi at bytes x h =
    let c = in_section_passes (takes_nodes s.section) (length s.nodes) h in
    elim (either (eqb tag 1) c.1) [
      | inl d ↦ node_is m s tag 1 bytes x c.0 (eqb-true tag 1 d.0) (reference_frame_spelled s at bytes x d.1)
      | inr d ↦ node_is m s tag 2 bytes x c.0 (tag_one tag lo hi d.0) (scroll_frame_spelled s at bytes x d.1)
    ]

node_part_passes : (s : PartialList) (position at : ℕ) (n : Node) → NodeFollows s n → Passes (node_part s position (node_tag n)) at (node_fields n) n
unfolding node_part
node_part_passes s position at (node.Reference p x y o) h =
    passes_in_section (takes_nodes s.section) (length s.nodes) h.section h.room (reference_frame_passes s at p x y o (record { defined = h.parent; level = h.level }) h.fields)
node_part_passes s position at (node.Scroll p n vw vh cw ch) h =
    passes_in_section (takes_nodes s.section) (length s.nodes) h.section h.room
    (scroll_frame_passes s at p n vw vh cw ch (record { defined = h.parent; level = h.level }) (record { fits = h.fields.0; new = h.new }) h.fields)

tag_three : (tag : ℕ) → 2 < tag → tag ≤ 4 → eqb tag 3 ≡ false → tag ≡ 4
tag_three tag h k e = grind (arith, nat_tests)

clip_is : (m : ℕ) (s : PartialList) (tag k : ℕ) (bytes : List ℕ) (c : ClipDef) → HasRoom (takes_clips s.section) (length s.clips) → tag ≡ k → ClipIs s (k ∷ bytes) c → PartIs m s (tag ∷ bytes) (part.Clip c)
clip_is m s tag k bytes c room e h = record {
  spelled = ap (λ (t : ℕ). t ∷ bytes) e ∙ h.spelled;
  follows = record { section = room.section; room = room.room; clip = h.clip };
}

clip_part_spelled : (m : ℕ) (s : PartialList) (position tag : ℕ) → 2 < tag → tag ≤ 4 → (at : ℕ) (bytes : List ℕ) (x : ClipDef) → Passes (clip_part s position tag) at bytes x
    → PartIs m s (tag ∷ bytes) (part.Clip x)
unfolding clip_part
clip_part_spelled m s position tag lo hi at bytes x h =
    let c = in_section_passes (takes_clips s.section) (length s.clips) h in
    elim (either (eqb tag 3) c.1) [
      | inl d ↦ clip_is m s tag 3 bytes x c.0 (eqb-true tag 3 d.0) (rect_clip_spelled s at bytes x d.1)
      | inr d ↦ clip_is m s tag 4 bytes x c.0 (tag_three tag lo hi d.0) (round_clip_spelled s at bytes x d.1)
    ]

rect_clip_part_passes : (s : PartialList) (position at : ℕ) (c : ClipDef) → c.round ≡ false → ClipFollows s c → Passes (clip_part s position 3) at (rect_clip_fields c) c
unfolding clip_part
rect_clip_part_passes s position at c flat h = passes_in_section (takes_clips s.section) (length s.clips) h.section h.room (rect_clip_passes s at c flat h.clip)

round_clip_part_passes : (s : PartialList) (position at : ℕ) (c : ClipDef) → c.round ≡ true → ClipFollows s c → Passes (clip_part s position 4) at (round_clip_fields c) c
unfolding clip_part
round_clip_part_passes s position at c round h = passes_in_section (takes_clips s.section) (length s.clips) h.section h.room (round_clip_passes s at c round h.clip)

chain_part_spelled : (m : ℕ) (s : PartialList) (position at : ℕ) (bytes : List ℕ) (x : ChainDef) → Passes (chain_part s position) at bytes x
    → PartIs m s (5 ∷ bytes) (part.Chain x)
unfolding chain_part
chain_part_spelled m s position at bytes x h =
    let c = in_section_passes (takes_chains s.section) (length s.chains) h in
    let n = chain_spelled s at bytes x c.1 in
    record {
      spelled = ap (λ (o : List ℕ). 5 ∷ o) n.spelled;
      follows = record { section = c.0.section; room = c.0.room; parent = n.parent; total = n.total; clips = n.clips };
    }

chain_part_passes : (s : PartialList) (position at : ℕ) (c : ChainDef) → ChainFollows s c → Passes (chain_part s position) at (chain_fields c) c
unfolding chain_part
chain_part_passes s position at c h = passes_in_section (takes_chains s.section) (length s.chains) h.section h.room (chain_passes s at c h.parent h.total h.clips)

within : (tag k : ℕ) → leb tag k ≡ true → tag ≤ k
within tag k e = grind (arith, nat_tests)

beyond : (tag k : ℕ) → leb tag k ≡ false → k < tag
beyond tag k e = grind (arith, nat_tests)

five : (tag : ℕ) → 4 < tag → tag ≤ 5 → tag ≡ 5
five tag h k = omega arith

-- a part that is only renamed
pub renamed : {bytes one two : List ℕ} (m : ℕ) (s : PartialList) (tag : ℕ) (p q : Part) → bytes ≡ one ++ two → two ≡ [] → q ≡ p → PartIs m s (tag ∷ one) p → PartIs m s (tag ∷ bytes) q
renamed {one = one} m s tag p q e z w h =
    record {
      spelled = ap (λ (o : List ℕ). tag ∷ o) (alone e refl z) ∙ h.spelled ∙ ap part_bytes (sym w);
      follows = subst (CanFollow m s) (sym w) h.follows;
    }

pub definition_spelled : (m : ℕ) (s : PartialList) (position tag : ℕ) → 0 < tag → tag ≤ 5 → (at : ℕ) (bytes : List ℕ) (x : Part) → Passes (definition s position tag) at bytes x
    → PartIs m s (tag ∷ bytes) x
unfolding definition
definition_spelled m s position tag lo hi at bytes x h =
    elim (either (leb tag 2) h) [
      | inl c ↦ nodes c.1 (within tag 2 c.0)
      | inr c ↦ elim (either (leb tag 4) c.1) [
        | inl d ↦ clips d.1 (beyond tag 2 c.0) (within tag 4 d.0)
        | inr d ↦ chains d.1 (five tag (beyond tag 4 d.0) hi)
      ]
    ]
  where
    nodes : Passes (bind (node_part s position tag) (λ n. done (part.Node n))) at bytes x → tag ≤ 2 → PartIs m s (tag ∷ bytes) x
    nodes (n, one, two, e, p, (z, w)) k = renamed m s tag (part.Node n) x e z w (node_part_spelled m s position tag lo k at one n p)

    clips : Passes (bind (clip_part s position tag) (λ n. done (part.Clip n))) at bytes x → 2 < tag → tag ≤ 4 → PartIs m s (tag ∷ bytes) x
    clips (n, one, two, e, p, (z, w)) j k = renamed m s tag (part.Clip n) x e z w (clip_part_spelled m s position tag j k at one n p)

    chains : Passes (bind (chain_part s position) (λ n. done (part.Chain n))) at bytes x → tag ≡ 5 → PartIs m s (tag ∷ bytes) x
    chains (n, one, two, e, p, (z, w)) k =
        renamed m s tag (part.Chain n) x e z w (subst (λ (t : ℕ). PartIs m s (t ∷ one) (part.Chain n)) (sym k) (chain_part_spelled m s position at one n p))

-- ---- the other direction, by kind

pub node_passes : (s : PartialList) (position at : ℕ) (n : Node) → NodeFollows s n → Passes (definition s position (node_tag n)) at (node_fields n) (part.Node n)
unfolding definition
node_passes s position at (node.Reference p x y o) h =
    let n : Node = node.Reference p x y o in
    (n, node_fields n, [], at_end (node_fields n), node_part_passes s position at n h, (refl, refl))
node_passes s position at (node.Scroll p k vw vh cw ch) h =
    let n : Node = node.Scroll p k vw vh cw ch in
    (n, node_fields n, [], at_end (node_fields n), node_part_passes s position at n h, (refl, refl))

pub rect_clip_definition : (s : PartialList) (position at : ℕ) (c : ClipDef) → c.round ≡ false → ClipFollows s c → Passes (definition s position 3) at (rect_clip_fields c) (part.Clip c)
unfolding definition
rect_clip_definition s position at c flat h =
    (c, rect_clip_fields c, [], at_end (rect_clip_fields c), rect_clip_part_passes s position at c flat h, (refl, refl))

pub round_clip_definition : (s : PartialList) (position at : ℕ) (c : ClipDef) → c.round ≡ true → ClipFollows s c → Passes (definition s position 4) at (round_clip_fields c) (part.Clip c)
unfolding definition
round_clip_definition s position at c round h =
    (c, round_clip_fields c, [], at_end (round_clip_fields c), round_clip_part_passes s position at c round h, (refl, refl))

pub chain_definition : (s : PartialList) (position at : ℕ) (c : ChainDef) → ChainFollows s c → Passes (definition s position 5) at (chain_fields c) (part.Chain c)
unfolding definition
chain_definition s position at c h = (c, chain_fields c, [], at_end (chain_fields c), chain_part_passes s position at c h, (refl, refl))
