-- The spelling of each operation, in both directions.
use Rattle.std.proofs.Common.{◌≡◌, ℕ, ℤ, ◌*◌, ◌<◌, ◌≤◌, ◌^◌, Bool, true, false, ◌&&◌, eqb, ltb, leb, List, [], ◌∷◌, length, refl, sym, ap, subst, ◌∙◌, arith, inl, inr}
use Rattle.std.proofs.lemmas.Bool.{eqb-true}
use Rattle.std.proofs.lemmas.Bool.Decides.{nat_tests}
use Rattle.blend_rules.specs.declared.colour.Px.{Px}
use Rattle.blend_rules.specs.Colour.{colour_bytes}
use Rattle.wr_io.specs.declared.fault.Code.{Code}
use Rattle.wr_io.specs.declared.fault.Code.TheVariants as code
use Rattle.field_forms.specs.Form.{AreBytes, piece, Passes}
use Rattle.field_forms.specs.Spelling.{u16_bytes, u32_bytes, i32_bytes}
use Rattle.field_forms.proofs.Passing.{HasSpelling, with_fact, refuse_if_spelling, refuse_unless_spelling, either, by_true, joined, alone, at_end}
use Rattle.field_forms.proofs.Spelled.{byte_spelling, u16_spelling, u32_spelling, coordinate_spelling, flag_spelling, colour_spelling}
use Rattle.txn_format.specs.Txn.{OpModel, set_list, remove_pipeline, scroll, set_offset, set_opacity, add_image, update_image, delete_image, add_glyph, delete_font, set_view, tile_policy, drop_tiles}
use Rattle.txn_format.specs.Forms.{is_from_to, u16_between, property_id, set_list_form, scroll_form, set_offset_form, set_opacity_form, set_property_form, image_side, add_image_form, update_image_form, delete_image_form, add_glyph_form, delete_font_form, view_side, set_view_form, tile_side, tile_budget, tile_policy_form, scene_op_form, resource_op_form, root_op_form, op_form}
use Rattle.txn_format.specs.Spelling.{op_tag, op_fields}
use Rattle.txn_format.specs.Checks.{IsFromTo, IsOp}

-- ---- fields

both_true : (a b : Bool) → (a && b) ≡ true → (a ≡ true) × (b ≡ true)
both_true true b e = (refl, e)
both_true false b e = absurd cc

at_most : (a b : ℕ) → leb a b ≡ true → a ≤ b
at_most a b e = grind (arith, nat_tests)

at_most_test : (a b : ℕ) → a ≤ b → leb a b ≡ true
at_most_test a b h = grind (arith, nat_tests)

between_so : (low high n : ℕ) → is_from_to low high n ≡ true → IsFromTo low high n
unfolding is_from_to
between_so low high n e = let p = both_true (leb low n) (leb n high) e in record { at_least = at_most low n p.0; at_most = at_most n high p.1 }

between_test : (low high n : ℕ) → IsFromTo low high n → is_from_to low high n ≡ true
unfolding is_from_to
between_test low high n h = λ i. at_most_test low n h.at_least i && at_most_test n high h.at_most i

u16_between_spelling : (low high : ℕ) (c : Code) → high < 2 ^ 16 → HasSpelling (u16_between low high c) u16_bytes (IsFromTo low high)
unfolding u16_between
u16_between_spelling low high c fits =
    with_fact (IsFromTo low high) (refuse_unless_spelling (is_from_to low high) c u16_spelling)
    (λ n h. between_so low high n h.1)
    (λ n h. let k = h.at_most in (omega arith, between_test low high n h))

image_side_spelling : HasSpelling image_side u16_bytes (IsFromTo 1 4096)
unfolding image_side
image_side_spelling = u16_between_spelling 1 4096 code.Limit (omega arith)

view_side_spelling : HasSpelling view_side u16_bytes (IsFromTo 1 4096)
unfolding view_side
view_side_spelling = u16_between_spelling 1 4096 code.BadNumber (omega arith)

tile_side_spelling : HasSpelling tile_side u16_bytes (IsFromTo 64 1024)
unfolding tile_side
tile_side_spelling = u16_between_spelling 64 1024 code.BadNumber (omega arith)

is_some_id : (n : ℕ) → n < 2 ^ 16 → eqb n 65535 ≡ false → n < 65535
is_some_id n h e = grind (arith, nat_tests)

some_id_test : (n : ℕ) → n < 65535 → eqb n 65535 ≡ false
some_id_test n h = grind (arith, nat_tests)

property_id_spelling : HasSpelling property_id u16_bytes (λ n. n < 65535)
unfolding property_id
property_id_spelling =
    with_fact (λ n. n < 65535) (refuse_if_spelling (λ n. eqb n 65535) code.BadNumber u16_spelling)
    (λ n h. is_some_id n h.0 h.1) (λ n h. (omega arith, some_id_test n h))

tile_budget_spelling : (tw th : ℕ) → HasSpelling (tile_budget tw th) u32_bytes (λ n. IsFromTo 1 65536 n × (tw * th * n ≤ 2 ^ 28))
unfolding tile_budget
tile_budget_spelling tw th =
    with_fact (λ n. IsFromTo 1 65536 n × (tw * th * n ≤ 2 ^ 28))
    (refuse_unless_spelling (λ n. leb (tw * th * n) (2 ^ 28)) code.Limit (refuse_unless_spelling (is_from_to 1 65536) code.BadNumber u32_spelling))
    (λ n h. (between_so 1 65536 n h.0.1, at_most (tw * th * n) (2 ^ 28) h.1))
    (λ n h. let k = h.0.at_most in ((omega arith, between_test 1 65536 n h.0), at_most_test (tw * th * n) (2 ^ 28) h.1))

-- so many bytes as they are
abbrev as_they_are : List ℕ → List ℕ
as_they_are bytes = bytes

piece_spelling : (n : ℕ) → HasSpelling (piece n) as_they_are (λ bytes. (length bytes ≡ n) × AreBytes bytes)
piece_spelling n = record {
  spelled = λ at bytes x (long, are, same). (sym same, subst (λ (o : List ℕ). (length o ≡ n) × AreBytes o) (sym same) (long, are));
  passes = λ at bytes h. (h.0, h.1, refl);
}

-- ---- what passes is spelled so

-- behind a tag, the bytes are the fields of an operation of that tag, and it meets its checks
pub record IsSpelledOp (pipeline tag : ℕ) (bytes : List ℕ) (op : OpModel) : Type 0 where
  pub tag_is : op_tag op ≡ tag
  pub bytes_are : bytes ≡ op_fields op
  pub checks : IsOp pipeline op

set_list_spelled : (pl at : ℕ) (bytes : List ℕ) (v : OpModel) → Passes set_list_form at bytes v → IsSpelledOp pl 1 bytes v
unfolding set_list_form
set_list_spelled pl at bytes v (epoch, _, _, e0, p0, (len, _, _, e1, p1, (list, _, _, e2, p2, (z, w)))) =
    let a = u32_spelling.spelled _ _ epoch p0 in
    let b = u32_spelling.spelled _ _ len p1 in
    let c = (piece_spelling len).spelled at _ list p2 in
    let long : len ≡ length list = sym c.1.0 in
    subst (IsSpelledOp pl 1 bytes) (sym w) (record {
      tag_is = refl;
      bytes_are = joined e0 a.0 (joined e1 (b.0 ∙ ap u32_bytes long) (joined e2 c.0 z));
      checks = (a.1, subst (λ (n : ℕ). n < 2 ^ 32) long b.1, c.1.1);
    })

scroll_spelled : (pl at : ℕ) (bytes : List ℕ) (v : OpModel) → Passes scroll_form at bytes v → IsSpelledOp pl 3 bytes v
unfolding scroll_form
scroll_spelled pl at bytes v (sid, _, _, e0, p0, (x, _, _, e1, p1, (y, _, _, e2, p2, (z, w)))) =
    let a = u16_spelling.spelled _ _ sid p0 in
    let b = coordinate_spelling.spelled _ _ x p1 in
    let c = coordinate_spelling.spelled _ _ y p2 in
    subst (IsSpelledOp pl 3 bytes) (sym w) (record { tag_is = refl; bytes_are = joined e0 a.0 (joined e1 b.0 (joined e2 c.0 z)); checks = (a.1, b.1, c.1) })

set_property_spelled : (pl at : ℕ) (bytes : List ℕ) (v : OpModel) → Passes set_property_form at bytes v → IsSpelledOp pl 4 bytes v
unfolding set_property_form set_offset_form set_opacity_form
set_property_spelled pl at bytes v (true, _, _, e0, p0, (id, _, _, e1, p1, (opacity, _, _, e2, p2, (z, w)))) =
    let a = flag_spelling.spelled _ _ true p0 in
    let b = property_id_spelling.spelled _ _ id p1 in
    let c = byte_spelling.spelled _ _ opacity p2 in
    subst (IsSpelledOp pl 4 bytes) (sym w) (record { tag_is = refl; bytes_are = joined e0 a.0 (joined e1 b.0 (joined e2 c.0 z)); checks = (b.1, c.1) })
set_property_spelled pl at bytes v (false, _, _, e0, p0, (id, _, _, e1, p1, (x, _, _, e2, p2, (y, _, _, e3, p3, (z, w))))) =
    let a = flag_spelling.spelled _ _ false p0 in
    let b = property_id_spelling.spelled _ _ id p1 in
    let c = coordinate_spelling.spelled _ _ x p2 in
    let d = coordinate_spelling.spelled _ _ y p3 in
    subst (IsSpelledOp pl 4 bytes) (sym w) (record { tag_is = refl; bytes_are = joined e0 a.0 (joined e1 b.0 (joined e2 c.0 (joined e3 d.0 z))); checks = (b.1, c.1, d.1) })

add_image_spelled : (pl at : ℕ) (bytes : List ℕ) (v : OpModel) → Passes add_image_form at bytes v → IsSpelledOp pl 5 bytes v
unfolding add_image_form
add_image_spelled pl at bytes v (key, _, _, e0, p0, (width, _, _, e1, p1, (height, _, _, e2, p2, (pixels, _, _, e3, p3, (z, w))))) =
    let a = u32_spelling.spelled _ _ key p0 in
    let b = image_side_spelling.spelled _ _ width p1 in
    let c = image_side_spelling.spelled _ _ height p2 in
    let d = (piece_spelling (4 * (width * height))).spelled at _ pixels p3 in
    subst (IsSpelledOp pl 5 bytes) (sym w) (record {
      tag_is = refl;
      bytes_are = joined e0 a.0 (joined e1 b.0 (joined e2 c.0 (joined e3 d.0 z)));
      checks = (a.1, record { width = b.1; height = c.1; long = d.1.0; are_bytes = d.1.1 });
    })

update_image_spelled : (pl at : ℕ) (bytes : List ℕ) (v : OpModel) → Passes update_image_form at bytes v → IsSpelledOp pl 6 bytes v
unfolding update_image_form
update_image_spelled pl at bytes v
    (key, _, _, e0, p0, (x, _, _, e1, p1, (y, _, _, e2, p2, (width, _, _, e3, p3, (height, _, _, e4, p4, (pixels, _, _, e5, p5, (z, w))))))) =
    let a = u32_spelling.spelled _ _ key p0 in
    let b = u16_spelling.spelled _ _ x p1 in
    let c = u16_spelling.spelled _ _ y p2 in
    let d = image_side_spelling.spelled _ _ width p3 in
    let e = image_side_spelling.spelled _ _ height p4 in
    let f = (piece_spelling (4 * (width * height))).spelled at _ pixels p5 in
    subst (IsSpelledOp pl 6 bytes) (sym w) (record {
      tag_is = refl;
      bytes_are = joined e0 a.0 (joined e1 b.0 (joined e2 c.0 (joined e3 d.0 (joined e4 e.0 (joined e5 f.0 z)))));
      checks = (a.1, b.1, c.1, record { width = d.1; height = e.1; long = f.1.0; are_bytes = f.1.1 });
    })

delete_image_spelled : (pl at : ℕ) (bytes : List ℕ) (v : OpModel) → Passes delete_image_form at bytes v → IsSpelledOp pl 7 bytes v
unfolding delete_image_form
delete_image_spelled pl at bytes v (key, _, _, e0, p0, (z, w)) =
    let a = u32_spelling.spelled _ _ key p0 in
    subst (IsSpelledOp pl 7 bytes) (sym w) (record { tag_is = refl; bytes_are = alone e0 a.0 z; checks = a.1 })

add_glyph_spelled : (pl at : ℕ) (bytes : List ℕ) (v : OpModel) → Passes add_glyph_form at bytes v → IsSpelledOp pl 8 bytes v
unfolding add_glyph_form
add_glyph_spelled pl at bytes v (font, _, _, e0, p0, (glyph, _, _, e1, p1, (width, _, _, e2, p2, (height, _, _, e3, p3, (mask, _, _, e4, p4, (z, w)))))) =
    let a = u16_spelling.spelled _ _ font p0 in
    let b = u16_spelling.spelled _ _ glyph p1 in
    let c = image_side_spelling.spelled _ _ width p2 in
    let d = image_side_spelling.spelled _ _ height p3 in
    let e = (piece_spelling (width * height)).spelled at _ mask p4 in
    subst (IsSpelledOp pl 8 bytes) (sym w) (record {
      tag_is = refl;
      bytes_are = joined e0 a.0 (joined e1 b.0 (joined e2 c.0 (joined e3 d.0 (joined e4 e.0 z))));
      checks = (a.1, b.1, record { width = c.1; height = d.1; long = e.1.0 ∙ omega arith; are_bytes = e.1.1 });
    })

delete_font_spelled : (pl at : ℕ) (bytes : List ℕ) (v : OpModel) → Passes delete_font_form at bytes v → IsSpelledOp pl 9 bytes v
unfolding delete_font_form
delete_font_spelled pl at bytes v (font, _, _, e0, p0, (z, w)) =
    let a = u16_spelling.spelled _ _ font p0 in
    subst (IsSpelledOp pl 9 bytes) (sym w) (record { tag_is = refl; bytes_are = alone e0 a.0 z; checks = a.1 })

set_view_spelled : (pl at : ℕ) (bytes : List ℕ) (v : OpModel) → pl ≡ 0 → Passes set_view_form at bytes v → IsSpelledOp pl 10 bytes v
unfolding set_view_form
set_view_spelled pl at bytes v root (width, _, _, e0, p0, (height, _, _, e1, p1, (clear, _, _, e2, p2, (z, w)))) =
    let a = view_side_spelling.spelled _ _ width p0 in
    let b = view_side_spelling.spelled _ _ height p1 in
    let c = colour_spelling.spelled _ _ clear p2 in
    subst (IsSpelledOp pl 10 bytes) (sym w) (record { tag_is = refl; bytes_are = joined e0 a.0 (joined e1 b.0 (joined e2 c.0 z)); checks = (root, a.1, b.1, c.1) })

tile_policy_spelled : (pl at : ℕ) (bytes : List ℕ) (v : OpModel) → pl ≡ 0 → Passes tile_policy_form at bytes v → IsSpelledOp pl 11 bytes v
unfolding tile_policy_form
tile_policy_spelled pl at bytes v root (tw, _, _, e0, p0, (th, _, _, e1, p1, (budget, _, _, e2, p2, (z, w)))) =
    let a = tile_side_spelling.spelled _ _ tw p0 in
    let b = tile_side_spelling.spelled _ _ th p1 in
    let c = (tile_budget_spelling tw th).spelled _ _ budget p2 in
    subst (IsSpelledOp pl 11 bytes) (sym w) (record {
      tag_is = refl;
      bytes_are = joined e0 a.0 (joined e1 b.0 (joined e2 c.0 z));
      checks = (root, record { width = a.1; height = b.1; tiles = c.1.0; pixels = c.1.1 });
    })

-- a form without a field
nothing_spelled : (pl tag : ℕ) (op : OpModel) (bytes : List ℕ) (v : OpModel) → op_tag op ≡ tag → [] ≡ op_fields op → IsOp pl op → (bytes ≡ []) × (v ≡ op) → IsSpelledOp pl tag bytes v
nothing_spelled pl tag op bytes v t f checks (z, w) = subst (IsSpelledOp pl tag bytes) (sym w) (record { tag_is = t; bytes_are = z ∙ f; checks = checks })

at_tag : {pl tag n : ℕ} {bytes : List ℕ} {v : OpModel} → eqb tag n ≡ true → IsSpelledOp pl n bytes v → IsSpelledOp pl tag bytes v
at_tag {pl = pl} {tag = tag} {n = n} {bytes = bytes} {v = v} e s = subst (λ (k : ℕ). IsSpelledOp pl k bytes v) (sym (eqb-true tag n e)) s

scene_op_spelled : (pl at0 tag at : ℕ) (bytes : List ℕ) (v : OpModel) → Passes (scene_op_form at0 tag) at bytes v → IsSpelledOp pl tag bytes v
unfolding scene_op_form
scene_op_spelled pl at0 tag at bytes v h =
    elim (either (eqb tag 1) h) [
      | inl c ↦ at_tag c.0 (set_list_spelled pl at bytes v c.1)
      | inr c ↦ elim (either (eqb tag 2) c.1) [
        | inl d ↦ at_tag d.0 (nothing_spelled pl 2 remove_pipeline bytes v refl refl tt d.1)
        | inr d ↦ elim (either (eqb tag 3) d.1) [
          | inl f ↦ at_tag f.0 (scroll_spelled pl at bytes v f.1)
          | inr f ↦ elim (either (eqb tag 4) f.1) [ inl g ↦ at_tag g.0 (set_property_spelled pl at bytes v g.1) | inr g ↦ absurd g.1 ]
        ]
      ]
    ]

the_last : (tag : ℕ) → leb tag 4 ≡ false → leb tag 9 ≡ true → eqb tag 5 ≡ false → eqb tag 6 ≡ false → eqb tag 7 ≡ false → eqb tag 8 ≡ false → eqb tag 9 ≡ true
the_last tag a b c d e f = grind (arith, nat_tests)

resource_op_spelled : (pl tag at : ℕ) (bytes : List ℕ) (v : OpModel) → leb tag 4 ≡ false → leb tag 9 ≡ true → Passes (resource_op_form tag) at bytes v → IsSpelledOp pl tag bytes v
unfolding resource_op_form
resource_op_spelled pl tag at bytes v more less h =
    elim (either (eqb tag 5) h) [
      | inl c ↦ at_tag c.0 (add_image_spelled pl at bytes v c.1)
      | inr c ↦ elim (either (eqb tag 6) c.1) [
        | inl d ↦ at_tag d.0 (update_image_spelled pl at bytes v d.1)
        | inr d ↦ elim (either (eqb tag 7) d.1) [
          | inl f ↦ at_tag f.0 (delete_image_spelled pl at bytes v f.1)
          | inr f ↦ elim (either (eqb tag 8) f.1) [
            | inl g ↦ at_tag g.0 (add_glyph_spelled pl at bytes v g.1)
            | inr g ↦ at_tag (the_last tag more less c.0 d.0 f.0 g.0) (delete_font_spelled pl at bytes v g.1)
          ]
        ]
      ]
    ]

the_twelfth : (tag : ℕ) → leb tag 9 ≡ false → ltb 12 tag ≡ false → eqb tag 10 ≡ false → eqb tag 11 ≡ false → eqb tag 12 ≡ true
the_twelfth tag a b c d = grind (arith, nat_tests)

root_op_spelled : (pl at0 tag at : ℕ) (bytes : List ℕ) (v : OpModel) → leb tag 9 ≡ false → Passes (root_op_form pl at0 tag) at bytes v → IsSpelledOp pl tag bytes v
unfolding root_op_form
root_op_spelled pl at0 tag at bytes v more h =
    elim (either (ltb 12 tag) h) [
      | inl c ↦ absurd c.1
      | inr c ↦ elim (either (eqb pl 0) c.1) [
        | inr d ↦ absurd d.1
        | inl d ↦ let root = eqb-true pl 0 d.0 in
            elim (either (eqb tag 10) d.1) [
              | inl f ↦ at_tag f.0 (set_view_spelled pl at bytes v root f.1)
              | inr f ↦ elim (either (eqb tag 11) f.1) [
                | inl g ↦ at_tag g.0 (tile_policy_spelled pl at bytes v root g.1)
                | inr g ↦ at_tag (the_twelfth tag more c.0 f.0 g.0) (nothing_spelled pl 12 drop_tiles bytes v refl refl root g.1)
              ]
            ]
      ]
    ]

pub op_spelled : (pl at0 tag at : ℕ) (bytes : List ℕ) (v : OpModel) → Passes (op_form pl at0 tag) at bytes v → IsSpelledOp pl tag bytes v
unfolding op_form
op_spelled pl at0 tag at bytes v h =
    elim (either (leb tag 4) h) [
      | inl c ↦ scene_op_spelled pl at0 tag at bytes v c.1
      | inr c ↦ elim (either (leb tag 9) c.1) [
        | inl d ↦ resource_op_spelled pl tag at bytes v c.0 d.0 d.1
        | inr d ↦ root_op_spelled pl at0 tag at bytes v d.0 d.1
      ]
    ]

-- ---- what meets its checks passes

set_list_passes : (pl at epoch : ℕ) (list : List ℕ) → IsOp pl (set_list epoch list) → Passes set_list_form at (op_fields (set_list epoch list)) (set_list epoch list)
unfolding set_list_form
set_list_passes pl at epoch list h = (
  epoch,
  u32_bytes epoch,
  _,
  refl,
  u32_spelling.passes _ epoch h.0,
  (
    length list,
    u32_bytes (length list),
    _,
    refl,
    u32_spelling.passes _ (length list) h.1,
    (list, list, _, refl, (refl, h.2, refl), (refl, refl)),
  ),
)

scroll_passes : (pl at sid : ℕ) (x y : ℤ) → IsOp pl (scroll sid x y) → Passes scroll_form at (op_fields (scroll sid x y)) (scroll sid x y)
unfolding scroll_form
scroll_passes pl at sid x y h = (
  sid,
  u16_bytes sid,
  _,
  refl,
  u16_spelling.passes _ sid h.0,
  (x, i32_bytes x, _, refl, coordinate_spelling.passes _ x h.1, (y, i32_bytes y, _, refl, coordinate_spelling.passes _ y h.2, (refl, refl))),
)

set_offset_passes : (pl at id : ℕ) (x y : ℤ) → IsOp pl (set_offset id x y) → Passes set_property_form at (op_fields (set_offset id x y)) (set_offset id x y)
unfolding set_property_form set_offset_form set_opacity_form
set_offset_passes pl at id x y h = (
  false,
  0 ∷ [],
  _,
  refl,
  flag_spelling.passes _ false tt,
  (
    id,
    u16_bytes id,
    _,
    refl,
    property_id_spelling.passes _ id h.0,
    (x, i32_bytes x, _, refl, coordinate_spelling.passes _ x h.1, (y, i32_bytes y, _, refl, coordinate_spelling.passes _ y h.2, (refl, refl))),
  ),
)

set_opacity_passes : (pl at id opacity : ℕ) → IsOp pl (set_opacity id opacity) → Passes set_property_form at (op_fields (set_opacity id opacity)) (set_opacity id opacity)
unfolding set_property_form set_offset_form set_opacity_form
set_opacity_passes pl at id opacity h = (
  true,
  1 ∷ [],
  _,
  refl,
  flag_spelling.passes _ true tt,
  (id, u16_bytes id, _, refl, property_id_spelling.passes _ id h.0, (opacity, opacity ∷ [], _, refl, byte_spelling.passes _ opacity h.1, (refl, refl))),
)

add_image_passes : (pl at key width height : ℕ) (pixels : List ℕ) → IsOp pl (add_image key width height pixels)
    → Passes add_image_form at (op_fields (add_image key width height pixels)) (add_image key width height pixels)
unfolding add_image_form
add_image_passes pl at key width height pixels h = (
  key,
  u32_bytes key,
  _,
  refl,
  u32_spelling.passes _ key h.0,
  (
    width,
    u16_bytes width,
    _,
    refl,
    image_side_spelling.passes _ width h.1.width,
    (
      height,
      u16_bytes height,
      _,
      refl,
      image_side_spelling.passes _ height h.1.height,
      (pixels, pixels, _, refl, (h.1.long, h.1.are_bytes, refl), (refl, refl)),
    ),
  ),
)

update_image_passes : (pl at key x y width height : ℕ) (pixels : List ℕ) → IsOp pl (update_image key x y width height pixels)
    → Passes update_image_form at (op_fields (update_image key x y width height pixels)) (update_image key x y width height pixels)
unfolding update_image_form
update_image_passes pl at key x y width height pixels h = (
  key,
  u32_bytes key,
  _,
  refl,
  u32_spelling.passes _ key h.0,
  (
    x,
    u16_bytes x,
    _,
    refl,
    u16_spelling.passes _ x h.1,
    (
      y,
      u16_bytes y,
      _,
      refl,
      u16_spelling.passes _ y h.2,
      (
        width,
        u16_bytes width,
        _,
        refl,
        image_side_spelling.passes _ width h.3.width,
        (
          height,
          u16_bytes height,
          _,
          refl,
          image_side_spelling.passes _ height h.3.height,
          (pixels, pixels, _, refl, (h.3.long, h.3.are_bytes, refl), (refl, refl)),
        ),
      ),
    ),
  ),
)

delete_image_passes : (pl at key : ℕ) → IsOp pl (delete_image key) → Passes delete_image_form at (op_fields (delete_image key)) (delete_image key)
unfolding delete_image_form
delete_image_passes pl at key h = (key, u32_bytes key, [], at_end (u32_bytes key), u32_spelling.passes _ key h, (refl, refl))

add_glyph_passes : (pl at font glyph width height : ℕ) (mask : List ℕ) → IsOp pl (add_glyph font glyph width height mask)
    → Passes add_glyph_form at (op_fields (add_glyph font glyph width height mask)) (add_glyph font glyph width height mask)
unfolding add_glyph_form
add_glyph_passes pl at font glyph width height mask h =
    let long : length mask ≡ width * height = h.2.long ∙ omega arith in (
      font,
      u16_bytes font,
      _,
      refl,
      u16_spelling.passes _ font h.0,
      (
        glyph,
        u16_bytes glyph,
        _,
        refl,
        u16_spelling.passes _ glyph h.1,
        (
          width,
          u16_bytes width,
          _,
          refl,
          image_side_spelling.passes _ width h.2.width,
          (
            height,
            u16_bytes height,
            _,
            refl,
            image_side_spelling.passes _ height h.2.height,
            (mask, mask, _, refl, (long, h.2.are_bytes, refl), (refl, refl)),
          ),
        ),
      ),
    )

delete_font_passes : (pl at font : ℕ) → IsOp pl (delete_font font) → Passes delete_font_form at (op_fields (delete_font font)) (delete_font font)
unfolding delete_font_form
delete_font_passes pl at font h = (font, u16_bytes font, [], at_end (u16_bytes font), u16_spelling.passes _ font h, (refl, refl))

set_view_passes : (pl at width height : ℕ) (clear : Px) → IsOp pl (set_view width height clear) → Passes set_view_form at (op_fields (set_view width height clear)) (set_view width height clear)
unfolding set_view_form
set_view_passes pl at width height clear h = (
  width,
  u16_bytes width,
  _,
  refl,
  view_side_spelling.passes _ width h.1,
  (height, u16_bytes height, _, refl, view_side_spelling.passes _ height h.2, (clear, colour_bytes clear, _, refl, colour_spelling.passes _ clear h.3, (refl, refl))),
)

tile_policy_passes : (pl at tw th budget : ℕ) → IsOp pl (tile_policy tw th budget) → Passes tile_policy_form at (op_fields (tile_policy tw th budget)) (tile_policy tw th budget)
unfolding tile_policy_form
tile_policy_passes pl at tw th budget h = (
  tw,
  u16_bytes tw,
  _,
  refl,
  tile_side_spelling.passes _ tw h.1.width,
  (
    th,
    u16_bytes th,
    _,
    refl,
    tile_side_spelling.passes _ th h.1.height,
    (budget, u32_bytes budget, _, refl, (tile_budget_spelling tw th).passes _ budget (h.1.tiles, h.1.pixels), (refl, refl)),
  ),
)

is_root : (pl : ℕ) → pl ≡ 0 → eqb pl 0 ≡ true
is_root pl h = ap (λ k. eqb k 0) h

pub op_passes : (pl at0 at : ℕ) (v : OpModel) → IsOp pl v → Passes (op_form pl at0 (op_tag v)) at (op_fields v) v
unfolding op_form scene_op_form resource_op_form root_op_form
op_passes pl at0 at (set_list epoch list) h = set_list_passes pl at epoch list h
op_passes pl at0 at remove_pipeline h = (refl, refl)
op_passes pl at0 at (scroll sid x y) h = scroll_passes pl at sid x y h
op_passes pl at0 at (set_offset id x y) h = set_offset_passes pl at id x y h
op_passes pl at0 at (set_opacity id opacity) h = set_opacity_passes pl at id opacity h
op_passes pl at0 at (add_image key width height pixels) h = add_image_passes pl at key width height pixels h
op_passes pl at0 at (update_image key x y width height pixels) h = update_image_passes pl at key x y width height pixels h
op_passes pl at0 at (delete_image key) h = delete_image_passes pl at key h
op_passes pl at0 at (add_glyph font glyph width height mask) h = add_glyph_passes pl at font glyph width height mask h
op_passes pl at0 at (delete_font font) h = delete_font_passes pl at font h
op_passes pl at0 at (set_view width height clear) h = by_true _ (eqb pl 0) (is_root pl h.0) (set_view_passes pl at width height clear h)
op_passes pl at0 at (tile_policy tw th budget) h = by_true _ (eqb pl 0) (is_root pl h.0) (tile_policy_passes pl at tw th budget h)
op_passes pl at0 at drop_tiles h = by_true _ (eqb pl 0) (is_root pl h) (refl, refl)
