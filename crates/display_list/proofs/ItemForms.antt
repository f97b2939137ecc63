-- What passes as an item is spelled in one way and may follow, and what may follow passes.
use Rattle.std.proofs.Common.{◌≡◌, ℕ, zero, suc, ◌<◌, ◌≤◌, ◌^◌, true, false, eqb, ltb, leb, List, [], ◌∷◌, length, refl, sym, ap, subst, ◌∙◌, arith, inl, inr, ◌⊎◌}
use Rattle.std.specs.List.{flat_map}
use Rattle.std.proofs.lemmas.Bool.{eqb-true, ltb-false, le-ltb}
use Rattle.std.proofs.lemmas.Bool.Decides.{nat_tests}
use Rattle.wr_io.specs.declared.fault.Code.TheVariants as code
use Rattle.blend_rules.specs.declared.colour.Px.{Px}
use Rattle.blend_rules.specs.Colour.{mode_number, colour_bytes}
use Rattle.blend_rules.specs.declared.mode.Mode.{Mode}
use Rattle.blend_rules.specs.declared.mode.Mode.TheVariants.{Normal, Multiply, Screen, Overlay, Darken, Lighten, HardLight, Difference, Exclusion}
use Rattle.wr_geom.specs.declared.sides.Radii.{Radii}
use Rattle.wr_geom.specs.declared.sides.Widths.{Widths}
use Rattle.field_forms.specs.Form.{done, bind, Passes}
use Rattle.field_forms.specs.Spelling.{u16_bytes, u32_bytes, optional_bytes, flag_bytes}
use Rattle.field_forms.proofs.Passing.{HasSpelling, with_fact, refuse_if_spelling, made_spelling, times_spelling, when_true, when_false, either, by_false, joined, alone, at_end}
use Rattle.field_forms.proofs.Spelled.{byte_bytes, byte_spelling, u16_spelling, u32_spelling, flag_spelling, reference_spelling, optional_reference_spelling, optional_number_spelling, colour_spelling}
use Rattle.display_list.specs.declared.item.Spot.{Spot}
use Rattle.display_list.specs.declared.item.GlyphAt.{GlyphAt}
use Rattle.display_list.specs.declared.token.Token.{Token}
use Rattle.display_list.specs.declared.token.Token.TheVariants as token
use Rattle.display_list.specs.declared.token.Push as push_
use Rattle.display_list.specs.Fields.{glyph}
use Rattle.display_list.specs.PartialList.{PartialList}
use Rattle.display_list.specs.Facts.{IsGlyph, IsContext, IsToken}
use Rattle.display_list.specs.Following.{ItemFollows}
use Rattle.display_list.specs.Parts.{solid, image, border, text, mode_of, blend_mode, push_fields, push, pop, pipeline, iframe, hit_area, primitive, item}
use Rattle.display_list.specs.Spelling.{spot_bytes, widths_bytes, radii_bytes, glyph_bytes, push_fields_bytes, token_tag, token_fields, token_bytes}
use Rattle.display_list.proofs.FieldForms.{spot_spelling, border_widths_spelling, corner_radii_spelling, glyph_spelling}

-- what stands as an item, of so many nodes and chains, after its tag
record TokenIs (nodes chains tag : ℕ) (bytes : List ℕ) (t : Token) : Type 0 where
  tag_is : token_tag t ≡ tag
  spelled : bytes ≡ token_fields t
  token : IsToken nodes chains t

-- ---- primitives

solid_spelled : (n c at : ℕ) (bytes : List ℕ) (x : Token) → Passes (solid n c) at bytes x → TokenIs n c 6 bytes x
unfolding solid
solid_spelled n c at bytes x (o, _, _, e0, p0, (q, _, _, e1, p1, (z, w))) =
    let a = (spot_spelling n c).spelled _ _ o p0 in
    let b = colour_spelling.spelled _ _ q p1 in
    subst (TokenIs n c 6 bytes) (sym w) (record { tag_is = refl; spelled = joined e0 a.0 (joined e1 b.0 z); token = (a.1, b.1) })

solid_passes : (n c at : ℕ) (o : Spot) (q : Px) → IsToken n c (token.Solid o q) → Passes (solid n c) at (token_fields (token.Solid o q)) (token.Solid o q)
unfolding solid
solid_passes n c at o q h = (o, spot_bytes o, _, refl, (spot_spelling n c).passes _ o h.0, (q, colour_bytes q, _, refl, colour_spelling.passes _ q h.1, (refl, refl)))

image_spelled : (n c at : ℕ) (bytes : List ℕ) (x : Token) → Passes (image n c) at bytes x → TokenIs n c 7 bytes x
unfolding image
image_spelled n c at bytes x (o, _, _, e0, p0, (k, _, _, e1, p1, (u, _, _, e2, p2, (v, _, _, e3, p3, (z, w))))) =
    let a = (spot_spelling n c).spelled _ _ o p0 in
    let b = u32_spelling.spelled _ _ k p1 in
    let d = u16_spelling.spelled _ _ u p2 in
    let f = u16_spelling.spelled _ _ v p3 in
    subst (TokenIs n c 7 bytes) (sym w) (record { tag_is = refl; spelled = joined e0 a.0 (joined e1 b.0 (joined e2 d.0 (joined e3 f.0 z))); token = (a.1, b.1, d.1, f.1) })

image_passes : (n c at : ℕ) (o : Spot) (k u v : ℕ) → IsToken n c (token.Image o k u v) → Passes (image n c) at (token_fields (token.Image o k u v)) (token.Image o k u v)
unfolding image
image_passes n c at o k u v h = (
  o,
  spot_bytes o,
  _,
  refl,
  (spot_spelling n c).passes _ o h.0,
  (k, u32_bytes k, _, refl, u32_spelling.passes _ k h.1, (u, u16_bytes u, _, refl, u16_spelling.passes _ u h.2, (v, u16_bytes v, _, refl, u16_spelling.passes _ v h.3, (refl, refl)))),
)

border_spelled : (n c at : ℕ) (bytes : List ℕ) (x : Token) → Passes (border n c) at bytes x → TokenIs n c 8 bytes x
unfolding border
border_spelled n c at bytes x (o, _, _, e0, p0, (v, _, _, e1, p1, (c1, _, _, e2, p2, (c2, _, _, e3, p3, (c3, _, _, e4, p4, (c4, _, _, e5, p5, (r, _, _, e6, p6, (z, w)))))))) =
    let a = (spot_spelling n c).spelled _ _ o p0 in
    let b = (border_widths_spelling o.rect).spelled _ _ v p1 in
    let d = colour_spelling.spelled _ _ c1 p2 in
    let f = colour_spelling.spelled _ _ c2 p3 in
    let g = colour_spelling.spelled _ _ c3 p4 in
    let i = colour_spelling.spelled _ _ c4 p5 in
    let j = (corner_radii_spelling o.rect).spelled _ _ r p6 in
    subst (TokenIs n c 8 bytes) (sym w) (record {
      tag_is = refl;
      spelled = joined e0 a.0 (joined e1 b.0 (joined e2 d.0 (joined e3 f.0 (joined e4 g.0 (joined e5 i.0 (joined e6 j.0 z))))));
      token = (a.1, record { small = b.1.0; fit = b.1.1; radii = j.1 }, d.1, f.1, g.1, i.1);
    })

border_passes : (n c at : ℕ) (o : Spot) (v : Widths) (c1 c2 c3 c4 : Px) (r : Radii) → IsToken n c (token.Border o v c1 c2 c3 c4 r)
    → Passes (border n c) at (token_fields (token.Border o v c1 c2 c3 c4 r)) (token.Border o v c1 c2 c3 c4 r)
unfolding border
border_passes n c at o v c1 c2 c3 c4 r h = (
  o,
  spot_bytes o,
  _,
  refl,
  (spot_spelling n c).passes _ o h.0,
  (
    v,
    widths_bytes v,
    _,
    refl,
    (border_widths_spelling o.rect).passes _ v (h.1.small, h.1.fit),
    (
      c1,
      colour_bytes c1,
      _,
      refl,
      colour_spelling.passes _ c1 h.2,
      (
        c2,
        colour_bytes c2,
        _,
        refl,
        colour_spelling.passes _ c2 h.3,
        (
          c3,
          colour_bytes c3,
          _,
          refl,
          colour_spelling.passes _ c3 h.4,
          (c4, colour_bytes c4, _, refl, colour_spelling.passes _ c4 h.5, (r, radii_bytes r, _, refl, (corner_radii_spelling o.rect).passes _ r h.1.radii, (refl, refl))),
        ),
      ),
    ),
  ),
)

text_spelled : (n c at : ℕ) (bytes : List ℕ) (x : Token) → Passes (text n c) at bytes x → TokenIs n c 9 bytes x
unfolding text
text_spelled n c at bytes x (o, _, _, e0, p0, (f, _, _, e1, p1, (q, _, _, e2, p2, (k, _, _, e3, p3, (gs, _, _, e4, p4, (z, w)))))) =
    let a = (spot_spelling n c).spelled _ _ o p0 in
    let b = u16_spelling.spelled _ _ f p1 in
    let d = colour_spelling.spelled _ _ q p2 in
    let i = u16_spelling.spelled _ _ k p3 in
    let j = (times_spelling glyph glyph_bytes IsGlyph glyph_spelling k).spelled _ _ gs p4 in
    let count : length gs ≡ k = j.1.0 in
    subst (TokenIs n c 9 bytes) (sym w) (record {
      tag_is = refl;
      spelled = joined e0 a.0 (joined e1 b.0 (joined e2 d.0 (joined e3 (i.0 ∙ ap u16_bytes (sym count)) (joined e4 j.0 z))));
      token = (a.1, b.1, d.1, subst (λ (m : ℕ). m < 2 ^ 16) (sym count) i.1, j.1.1);
    })

text_passes : (n c at : ℕ) (o : Spot) (f : ℕ) (q : Px) (gs : List GlyphAt) → IsToken n c (token.Text o f q gs) → Passes (text n c) at (token_fields (token.Text o f q gs)) (token.Text o f q gs)
unfolding text
text_passes n c at o f q gs h = (
  o,
  spot_bytes o,
  _,
  refl,
  (spot_spelling n c).passes _ o h.0,
  (
    f,
    u16_bytes f,
    _,
    refl,
    u16_spelling.passes _ f h.1,
    (
      q,
      colour_bytes q,
      _,
      refl,
      colour_spelling.passes _ q h.2,
      (
        length gs,
        u16_bytes (length gs),
        _,
        refl,
        u16_spelling.passes _ (length gs) h.3,
        (gs, flat_map glyph_bytes gs, _, refl, (times_spelling glyph glyph_bytes IsGlyph glyph_spelling (length gs)).passes _ gs (refl, h.4), (refl, refl)),
      ),
    ),
  ),
)

-- ---- contexts

mode_again : (n : ℕ) → n ≤ 8 → mode_number (mode_of n) ≡ n
mode_again zero h = refl
mode_again (suc zero) h = refl
mode_again (suc (suc zero)) h = refl
mode_again (suc (suc (suc zero))) h = refl
mode_again (suc (suc (suc (suc zero)))) h = refl
mode_again (suc (suc (suc (suc (suc zero))))) h = refl
mode_again (suc (suc (suc (suc (suc (suc zero)))))) h = refl
mode_again (suc (suc (suc (suc (suc (suc (suc zero))))))) h = refl
mode_again (suc (suc (suc (suc (suc (suc (suc (suc zero)))))))) h = refl
mode_again (suc (suc (suc (suc (suc (suc (suc (suc (suc n))))))))) h = absurd (omega arith)

mode_back : (m : Mode) → ((mode_number m < 256) × (ltb 8 (mode_number m) ≡ false)) × (m ≡ mode_of (mode_number m))
mode_back Normal = ((omega arith, refl), refl)
mode_back Multiply = ((omega arith, refl), refl)
mode_back Screen = ((omega arith, refl), refl)
mode_back Overlay = ((omega arith, refl), refl)
mode_back Darken = ((omega arith, refl), refl)
mode_back Lighten = ((omega arith, refl), refl)
mode_back HardLight = ((omega arith, refl), refl)
mode_back Difference = ((omega arith, refl), refl)
mode_back Exclusion = ((omega arith, refl), refl)

abbrev mode_bytes : Mode → List ℕ
mode_bytes m = mode_number m ∷ []

blend_mode_spelling : HasSpelling blend_mode mode_bytes (λ _. Unit {0})
unfolding blend_mode
blend_mode_spelling =
    made_spelling mode_of mode_number mode_bytes (λ _. Unit {0}) (refuse_if_spelling (ltb 8) code.BadMode byte_spelling)
    (λ n h. (tt, ap (λ (k : ℕ). k ∷ []) (sym (mode_again n (ltb-false 8 n h.1)))))
    (λ m _. let b = mode_back m in (b.0, b.1, refl))

push_fields_spelling : (n c : ℕ) → HasSpelling (push_fields n c) push_fields_bytes (IsContext n c)
unfolding push_fields
push_fields_spelling n c = record {
  spelled = λ at bytes x (k, _, _, e0, p0, (l, _, _, e1, p1, (o, _, _, e2, p2, (r, _, _, e3, p3, (m, _, _, e4, p4, (i, _, _, e5, p5, (z, w))))))).
      let a = (reference_spelling n).spelled _ _ k p0 in
      let b = (optional_reference_spelling c).spelled _ _ l p1 in
      let d = byte_spelling.spelled _ _ o p2 in
      let f = optional_number_spelling.spelled _ _ r p3 in
      let g = blend_mode_spelling.spelled _ _ m p4 in
      let h = flag_spelling.spelled _ _ i p5 in
      subst (λ (v : push_.Push). (bytes ≡ push_fields_bytes v) × IsContext n c v) (sym w)
      (joined e0 a.0 (joined e1 b.0 (joined e2 d.0 (joined e3 f.0 (joined e4 g.0 (joined e5 h.0 z))))), record { node = a.1; chain = b.1; opacity = d.1; prop = f.1 });
  passes = λ at x h. (
    x.node,
    u16_bytes x.node,
    _,
    refl,
    (reference_spelling n).passes _ x.node h.node,
    (
      x.chain,
      optional_bytes x.chain,
      _,
      refl,
      (optional_reference_spelling c).passes _ x.chain h.chain,
      (
        x.opacity,
        x.opacity ∷ [],
        _,
        refl,
        byte_spelling.passes _ x.opacity h.opacity,
        (
          x.prop,
          optional_bytes x.prop,
          _,
          refl,
          optional_number_spelling.passes _ x.prop h.prop,
          (
            x.mode,
            mode_bytes x.mode,
            _,
            refl,
            blend_mode_spelling.passes _ x.mode tt,
            (x.isolate, flag_bytes x.isolate, _, refl, flag_spelling.passes _ x.isolate tt, (refl, refl)),
          ),
        ),
      ),
    ),
  );
}

-- an item that may follow, after its tag
record ItemIs (m : ℕ) (s : PartialList) (tag : ℕ) (bytes : List ℕ) (t : Token) : Type 0 where
  tag_is : token_tag t ≡ tag
  spelled : bytes ≡ token_fields t
  follows : ItemFollows m s t

abbrev nodes_of : PartialList → ℕ
nodes_of s = length s.levels

abbrev chains_of : PartialList → ℕ
chains_of s = length s.chains

below_64 : (k : ℕ) → leb 64 k ≡ false → k < 64
below_64 k e = grind (arith, nat_tests)

not_64 : (k : ℕ) → k < 64 → leb 64 k ≡ false
not_64 k h = grind (arith, nat_tests)

push_spelled : (m : ℕ) (s : PartialList) (position at : ℕ) (bytes : List ℕ) (x : Token) → Passes (push s position) at bytes x → ItemIs m s 10 bytes x
unfolding push
push_spelled m s position at bytes x h = with_room (when_false (leb 64 s.depth) h)
  where
    with_room : (leb 64 s.depth ≡ false) × Passes (bind (push_fields (nodes_of s) (chains_of s)) (λ p. done (token.Push p))) at bytes x → ItemIs m s 10 bytes x
    with_room (room, (p, _, _, e0, p0, (z, w))) =
        let a = (push_fields_spelling (nodes_of s) (chains_of s)).spelled _ _ p p0 in
        subst (ItemIs m s 10 bytes) (sym w) (record { tag_is = refl; spelled = alone e0 a.0 z; follows = record { token = a.1; nest = below_64 s.depth room; named = tt } })

push_passes : (m : ℕ) (s : PartialList) (position at : ℕ) (p : push_.Push) → ItemFollows m s (token.Push p) → Passes (push s position) at (push_fields_bytes p) (token.Push p)
unfolding push
push_passes m s position at p h =
    by_false _ (leb 64 s.depth) (not_64 s.depth h.nest)
    (p, push_fields_bytes p, [], at_end (push_fields_bytes p), (push_fields_spelling (nodes_of s) (chains_of s)).passes _ p h.token, (refl, refl))

some_depth : (k : ℕ) → eqb k 0 ≡ false → 0 < k
some_depth k e = grind (arith, nat_tests)

not_zero : (k : ℕ) → 0 < k → eqb k 0 ≡ false
not_zero k h = grind (arith, nat_tests)

pop_spelled : (m : ℕ) (s : PartialList) (position at : ℕ) (bytes : List ℕ) (x : Token) → Passes (pop s.depth position) at bytes x → ItemIs m s 11 bytes x
unfolding pop
pop_spelled m s position at bytes x h =
    let c = when_false (eqb s.depth 0) h in
    subst (ItemIs m s 11 bytes) (sym c.1.1) (record { tag_is = refl; spelled = c.1.0; follows = record { token = tt; nest = some_depth s.depth c.0; named = tt } })

pop_passes : (m : ℕ) (s : PartialList) (position at : ℕ) → ItemFollows m s token.Pop → Passes (pop s.depth position) at [] token.Pop
unfolding pop
pop_passes m s position at h = by_false _ (eqb s.depth 0) (not_zero s.depth h.nest) (refl, refl)

-- ---- other items

-- a pipeline that may be named
record IsPipeline (m n : ℕ) : Type 0 where
  range : n ≤ 63
  named : m ≤ n

pipeline_spelling : (m : ℕ) → HasSpelling (pipeline m) byte_bytes (IsPipeline m)
unfolding pipeline
pipeline_spelling m =
    with_fact (IsPipeline m) (refuse_if_spelling (λ n. ltb n m) code.IframeOrder (refuse_if_spelling (ltb 63) code.BadNumber byte_spelling))
    (λ n h. record { range = ltb-false 63 n h.0.1; named = ltb-false n m h.1 })
    (λ n h. let r = h.range in ((omega arith, le-ltb 63 n h.range), le-ltb n m h.named))

iframe_spelled : (m : ℕ) (s : PartialList) (at : ℕ) (bytes : List ℕ) (x : Token) → Passes (iframe m (nodes_of s) (chains_of s)) at bytes x → ItemIs m s 12 bytes x
unfolding iframe
iframe_spelled m s at bytes x (o, _, _, e0, p0, (n, _, _, e1, p1, (z, w))) =
    let a = (spot_spelling (nodes_of s) (chains_of s)).spelled _ _ o p0 in
    let b = (pipeline_spelling m).spelled _ _ n p1 in
    subst (ItemIs m s 12 bytes) (sym w) (record {
      tag_is = refl;
      spelled = joined e0 a.0 (joined e1 b.0 z);
      follows = record { token = (a.1, b.1.range); nest = tt; named = b.1.named };
    })

iframe_passes : (m : ℕ) (s : PartialList) (at : ℕ) (o : Spot) (n : ℕ) → ItemFollows m s (token.Iframe o n)
    → Passes (iframe m (nodes_of s) (chains_of s)) at (token_fields (token.Iframe o n)) (token.Iframe o n)
unfolding iframe
iframe_passes m s at o n h = (
  o,
  spot_bytes o,
  _,
  refl,
  (spot_spelling (nodes_of s) (chains_of s)).passes _ o h.token.0,
  (n, n ∷ [], _, refl, (pipeline_spelling m).passes _ n (record { range = h.token.1; named = h.named }), (refl, refl)),
)

hit_area_spelled : (n c at : ℕ) (bytes : List ℕ) (x : Token) → Passes (hit_area n c) at bytes x → TokenIs n c 13 bytes x
unfolding hit_area
hit_area_spelled n c at bytes x (o, _, _, e0, p0, (k, _, _, e1, p1, (z, w))) =
    let a = (spot_spelling n c).spelled _ _ o p0 in
    let b = u32_spelling.spelled _ _ k p1 in
    subst (TokenIs n c 13 bytes) (sym w) (record { tag_is = refl; spelled = joined e0 a.0 (joined e1 b.0 z); token = (a.1, b.1) })

hit_area_passes : (n c at : ℕ) (o : Spot) (k : ℕ) → IsToken n c (token.HitArea o k) → Passes (hit_area n c) at (token_fields (token.HitArea o k)) (token.HitArea o k)
unfolding hit_area
hit_area_passes n c at o k h = (o, spot_bytes o, _, refl, (spot_spelling n c).passes _ o h.0, (k, u32_bytes k, _, refl, u32_spelling.passes _ k h.1, (refl, refl)))

-- ---- by the tag

-- an item that opens and closes no context and names no pipeline follows where its fields do
follows_if : (m : ℕ) (s : PartialList) (tag : ℕ) (bytes : List ℕ) (x : Token) → (tag ≤ 9 ⊎ tag ≡ 13) → TokenIs (nodes_of s) (chains_of s) tag bytes x → ItemIs m s tag bytes x
follows_if m s tag bytes (token.Solid o q) k h = record { tag_is = h.tag_is; spelled = h.spelled; follows = record { token = h.token; nest = tt; named = tt } }
follows_if m s tag bytes (token.Image o q u v) k h = record { tag_is = h.tag_is; spelled = h.spelled; follows = record { token = h.token; nest = tt; named = tt } }
follows_if m s tag bytes (token.Border o w t r b l c) k h = record { tag_is = h.tag_is; spelled = h.spelled; follows = record { token = h.token; nest = tt; named = tt } }
follows_if m s tag bytes (token.Text o f q gs) k h = record { tag_is = h.tag_is; spelled = h.spelled; follows = record { token = h.token; nest = tt; named = tt } }
follows_if m s tag bytes (token.Push p) (inl k) h = let e = h.tag_is in absurd (omega arith)
follows_if m s tag bytes (token.Push p) (inr k) h = let e = h.tag_is in absurd (omega arith)
follows_if m s tag bytes token.Pop (inl k) h = let e = h.tag_is in absurd (omega arith)
follows_if m s tag bytes token.Pop (inr k) h = let e = h.tag_is in absurd (omega arith)
follows_if m s tag bytes (token.Iframe o n) (inl k) h = let e = h.tag_is in absurd (omega arith)
follows_if m s tag bytes (token.Iframe o n) (inr k) h = let e = h.tag_is in absurd (omega arith)
follows_if m s tag bytes (token.HitArea o n) k h = record { tag_is = h.tag_is; spelled = h.spelled; follows = record { token = h.token; nest = tt; named = tt } }

at_tag : (m : ℕ) (s : PartialList) (tag k : ℕ) (bytes : List ℕ) (x : Token) → tag ≡ k → ItemIs m s k bytes x → ItemIs m s tag bytes x
at_tag m s tag k bytes x e h = subst (λ (t : ℕ). ItemIs m s t bytes x) (sym e) h

nine : (k : ℕ) → 5 < k → k ≤ 9 → eqb k 6 ≡ false → eqb k 7 ≡ false → eqb k 8 ≡ false → k ≡ 9
nine k lo hi c d f = grind (arith, nat_tests)

primitive_spelled : (m : ℕ) (s : PartialList) (tag : ℕ) → 5 < tag → tag ≤ 9 → (at : ℕ) (bytes : List ℕ) (x : Token) → Passes (primitive (nodes_of s) (chains_of s) tag) at bytes x
    → ItemIs m s tag bytes x
unfolding primitive
primitive_spelled m s tag lo hi at bytes x h =
    elim (either (eqb tag 6) h) [
      | inl c ↦ at_tag m s tag 6 bytes x (eqb-true tag 6 c.0) (follows_if m s 6 bytes x (inl (omega arith)) (solid_spelled _ _ at bytes x c.1))
      | inr c ↦ elim (either (eqb tag 7) c.1) [
        | inl d ↦ at_tag m s tag 7 bytes x (eqb-true tag 7 d.0) (follows_if m s 7 bytes x (inl (omega arith)) (image_spelled _ _ at bytes x d.1))
        | inr d ↦ elim (either (eqb tag 8) d.1) [
          | inl f ↦ at_tag m s tag 8 bytes x (eqb-true tag 8 f.0) (follows_if m s 8 bytes x (inl (omega arith)) (border_spelled _ _ at bytes x f.1))
          | inr f ↦ at_tag m s tag 9 bytes x (nine tag lo hi c.0 d.0 f.0) (follows_if m s 9 bytes x (inl (omega arith)) (text_spelled _ _ at bytes x f.1))
        ]
      ]
    ]

within : (k : ℕ) → leb k 9 ≡ true → k ≤ 9
within k e = grind (arith, nat_tests)

item_is : (m : ℕ) (s : PartialList) (position tag : ℕ) → 5 < tag → (at : ℕ) (bytes : List ℕ) (x : Token) → Passes (item m s position tag) at bytes x → ItemIs m s tag bytes x
unfolding item
item_is m s position tag lo at bytes x h =
    elim (either (leb tag 9) h) [
      | inl c ↦ primitive_spelled m s tag lo (within tag c.0) at bytes x c.1
      | inr c ↦ elim (either (eqb tag 10) c.1) [
        | inl d ↦ at_tag m s tag 10 bytes x (eqb-true tag 10 d.0) (push_spelled m s position at bytes x d.1)
        | inr d ↦ elim (either (eqb tag 11) d.1) [
          | inl f ↦ at_tag m s tag 11 bytes x (eqb-true tag 11 f.0) (pop_spelled m s position at bytes x f.1)
          | inr f ↦ elim (either (eqb tag 12) f.1) [
            | inl g ↦ at_tag m s tag 12 bytes x (eqb-true tag 12 g.0) (iframe_spelled m s at bytes x g.1)
            | inr g ↦ let i = when_true (eqb tag 13) g.1 in
                at_tag m s tag 13 bytes x (eqb-true tag 13 i.0) (follows_if m s 13 bytes x (inr refl) (hit_area_spelled _ _ at bytes x i.1))
          ]
        ]
      ]
    ]

-- an item that may follow, with its tag
pub record FollowsAs (m : ℕ) (s : PartialList) (bytes : List ℕ) (t : Token) : Type 0 where
  pub spelled : bytes ≡ token_bytes t
  pub follows : ItemFollows m s t

pub item_spelled : (m : ℕ) (s : PartialList) (position tag : ℕ) → 5 < tag → (at : ℕ) (bytes : List ℕ) (x : Token) → Passes (item m s position tag) at bytes x → FollowsAs m s (tag ∷ bytes) x
item_spelled m s position tag lo at bytes x p =
    let h = item_is m s position tag lo at bytes x p in
    record { spelled = ap (λ (k : ℕ). k ∷ bytes) (sym h.tag_is) ∙ ap (λ (o : List ℕ). token_tag x ∷ o) h.spelled; follows = h.follows }

pub item_passes : (m : ℕ) (s : PartialList) (position at : ℕ) (t : Token) → ItemFollows m s t → Passes (item m s position (token_tag t)) at (token_fields t) t
unfolding item primitive
item_passes m s position at (token.Solid o q) h = solid_passes _ _ at o q h.token
item_passes m s position at (token.Image o k u v) h = image_passes _ _ at o k u v h.token
item_passes m s position at (token.Border o w t r b l c) h = border_passes _ _ at o w t r b l c h.token
item_passes m s position at (token.Text o f q gs) h = text_passes _ _ at o f q gs h.token
item_passes m s position at (token.Push p) h = push_passes m s position at p h
item_passes m s position at token.Pop h = pop_passes m s position at h
item_passes m s position at (token.Iframe o n) h = iframe_passes m s at o n h
item_passes m s position at (token.HitArea o k) h = hit_area_passes _ _ at o k h.token
