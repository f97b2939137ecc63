-- The spelling of each field that several formats share.
use Rattle.std.proofs.Common.{◌≡◌, ℕ, ℤ, pos, negsuc, zero, suc, ◌<◌, ◌≤◌, ◌^◌, Bool, true, false, ◌||◌, cond, eqb, ltb, List, [], ◌∷◌, length, get_or, Option, Some, None, refl, sym, ap, subst, ◌∙◌, arith}
use Rattle.std.specs.Prelude.{int_lt, ◌≤ℤ◌}
use Rattle.std.specs.Int.{w16, w32, from_le_bytes, to_le_bytes, cast_unsigned}
use Rattle.std.proofs.lemmas.Bool.{eqb-true, ltb-true, ltb-false, lt-ltb}
use Rattle.std.proofs.lemmas.Bool.Decides.{nat_tests}
use Rattle.std.proofs.lemmas.Int.{of_z-to_z, to_z-of_z, ints}
use mir.Val.{SFits}
use borrow.Author.Gap.{read_sfits}
use Rattle.std.proofs.Math.Facts.{Fits-of_z}
use Rattle.std.proofs.lemmas.Nat.{le_bytes_2, le_bytes_4, from_le_bytes-to_le_bytes_2, from_le_bytes-to_le_bytes_4}
use Rattle.blend_rules.specs.Colour.{HasBytes, IsPixel, is_premultiplied, colour_bytes, colour_from}
use Rattle.blend_rules.proofs.Premultiplied.{premultiplied-true, premultiplied-of}
use Rattle.wr_geom.specs.Bounds.{Bounds}
use Rattle.wr_io.specs.declared.fault.Code.TheVariants as code
use Rattle.field_forms.specs.Numbers.{byte, number, signed, any_colour}
use Rattle.field_forms.specs.Fields.{flag, reference, optional_reference, optional_of, optional_number, is_far, coordinate, coordinate_from, rectangle, colour}
use Rattle.field_forms.specs.Facts.{IsNear, IsRectangle, IsReference, IsOptionalReference, FitsOptional}
use Rattle.field_forms.specs.Spelling.{u16_bytes, u32_bytes, i32_bytes, optional_bytes, flag_bytes, rectangle_bytes}
use Rattle.field_forms.proofs.Bytes.{byte_at_index}
use Rattle.field_forms.proofs.Passing.{HasSpelling, with_fact, refuse_if_spelling, refuse_unless_spelling, made_spelling, joined, alone, at_end}

-- ---- numbers

single : (xs : List ℕ) → length xs ≡ 1 → xs ≡ get_or xs 0 0 ∷ []
single [] h = absurd (omega arith)
single (x ∷ []) h = refl
single (x ∷ y ∷ xs) h = absurd (omega arith)

four_of : (xs : List ℕ) → length xs ≡ 4 → xs ≡ get_or xs 0 0 ∷ get_or xs 1 0 ∷ get_or xs 2 0 ∷ get_or xs 3 0 ∷ []
four_of [] h = absurd (omega arith)
four_of (x ∷ []) h = absurd (omega arith)
four_of (x ∷ y ∷ []) h = absurd (omega arith)
four_of (x ∷ y ∷ z ∷ []) h = absurd (omega arith)
four_of (x ∷ y ∷ z ∷ w ∷ []) h = refl
four_of (x ∷ y ∷ z ∷ w ∷ v ∷ xs) h = absurd (omega arith)

-- a byte's bytes
abbrev pub byte_bytes : ℕ → List ℕ
byte_bytes n = n ∷ []

pub byte_spelling : HasSpelling byte byte_bytes (λ n. n < 256)
unfolding byte
byte_spelling = record {
  spelled = λ at bytes n (b, one, two, e, (len, are, same), (z, w)).
      let value : n ≡ get_or one 0 0 = w ∙ ap (λ (o : List ℕ). get_or o 0 0) same in
      (alone e (single one len ∙ ap (λ (k : ℕ). k ∷ []) (sym value)) z, subst (λ (k : ℕ). k < 256) (sym value) (byte_at_index one are 0));
  passes = λ at n h. (n ∷ [], n ∷ [], [], refl, (omega arith, (h, tt), refl), (refl, refl));
}

pub u16_spelling : HasSpelling (number w16) u16_bytes (λ n. n < 2 ^ 16)
unfolding number u16_bytes
u16_spelling = record {
  spelled = λ at bytes n (b, one, two, e, (len, are, same), (z, w)).
      let value : n ≡ from_le_bytes w16 one = w ∙ ap (from_le_bytes w16) same in
      let bound : from_le_bytes w16 one < 2 ^ 16 = omega (arith, byte_at_index one are 0, byte_at_index one are 1) in
      (alone e (sym (le_bytes_2 one n len (byte_at_index one are) value)) z, omega arith);
  passes = λ at n h. (to_le_bytes w16 n, to_le_bytes w16 n, [], refl, (omega arith, (omega arith, (omega arith, tt)), refl), (refl, sym (from_le_bytes-to_le_bytes_2 n h)));
}

pub u32_spelling : HasSpelling (number w32) u32_bytes (λ n. n < 2 ^ 32)
unfolding number u32_bytes
u32_spelling = record {
  spelled = λ at bytes n (b, one, two, e, (len, are, same), (z, w)).
      let value : n ≡ from_le_bytes w32 one = w ∙ ap (from_le_bytes w32) same in
      let bound : from_le_bytes w32 one < 2 ^ 32 = omega (arith, byte_at_index one are 0, byte_at_index one are 1, byte_at_index one are 2, byte_at_index one are 3) in
      (alone e (sym (le_bytes_4 one n len (byte_at_index one are) value)) z, omega arith);
  passes = λ at n h. (to_le_bytes w32 n, to_le_bytes w32 n, [], refl, (omega arith, (omega arith, (omega arith, (omega arith, (omega arith, tt)))), refl), (refl, sym (from_le_bytes-to_le_bytes_4 n h)));
}

pub i32_spelling : HasSpelling signed i32_bytes (SFits w32)
unfolding signed i32_bytes
i32_spelling = record {
  spelled = λ at bytes z (n, one, two, e, p, (nil, w)).
      let l = u32_spelling.spelled at one n p in
      let back : cast_unsigned w32 z ≡ n = ap (cast_unsigned w32) w ∙ of_z-to_z w32 n l.1 in
      (alone e (l.0 ∙ ap u32_bytes (sym back)) nil, subst (SFits w32) (sym w) (read_sfits w32 n));
  passes = λ at z h.
      let low : cast_unsigned w32 z < 2 ^ 32 = (Fits-of_z h).fits in
      (cast_unsigned w32 z, u32_bytes (cast_unsigned w32 z), [], at_end (u32_bytes (cast_unsigned w32 z)), u32_spelling.passes at (cast_unsigned w32 z) low, (refl, sym (to_z-of_z w32 z h)));
}

pub any_colour_spelling : HasSpelling any_colour colour_bytes HasBytes
unfolding any_colour colour_bytes
any_colour_spelling = record {
  spelled = λ at bytes p (b, one, two, e, (len, are, same), (z, w)).
      let value : p ≡ colour_from one 0 = w ∙ ap (λ (o : List ℕ). colour_from o 0) same in (
        alone e (four_of one len ∙ ap colour_bytes (sym value)) z,
        subst HasBytes (sym value) (record { blue = byte_at_index one are 0; green = byte_at_index one are 1; red = byte_at_index one are 2; alpha = byte_at_index one are 3 }),
      );
  passes = λ at p h. (colour_bytes p, colour_bytes p, [], refl, (omega arith, (h.blue, (h.green, (h.red, (h.alpha, tt)))), refl), (refl, refl));
}

-- ---- fields

flag_of : (n : ℕ) → n ≤ 1 → n ∷ [] ≡ flag_bytes (eqb n 1)
flag_of zero h = refl
flag_of (suc zero) h = refl
flag_of (suc (suc n)) h = absurd (omega arith)

flag_back : (b : Bool) → (cond b 1 0 < 256) × (ltb 1 (cond b 1 0) ≡ false)
flag_back true = (omega arith, refl)
flag_back false = (omega arith, refl)

flag_again : (b : Bool) → b ≡ eqb (cond b 1 0) 1
flag_again true = refl
flag_again false = refl

pub flag_spelling : HasSpelling flag flag_bytes (λ _. Unit {0})
unfolding flag
flag_spelling =
    made_spelling (λ n. eqb n 1) (λ b. cond b 1 0) flag_bytes (λ _. Unit {0}) (refuse_if_spelling (ltb 1) code.BadNumber byte_spelling)
    (λ n h. (tt, flag_of n (ltb-false 1 n h.1)))
    (λ b _. (flag_back b, flag_again b, refl))

pub reference_spelling : (count : ℕ) → HasSpelling (reference count) u16_bytes (IsReference count)
unfolding reference
reference_spelling count =
    with_fact (IsReference count) (refuse_unless_spelling (λ n. ltb n count) code.BadRef u16_spelling)
    (λ n h. record { defined = ltb-true n count h.1; fits = h.0 })
    (λ n h. (h.fits, lt-ltb n count h.defined))

not_none : (n : ℕ) → n < 2 ^ 16 → eqb n 65535 ≡ false → n < 65535
not_none n h e = grind (arith, nat_tests)

is_not_none : (n : ℕ) → n < 65535 → eqb n 65535 ≡ false
is_not_none n h = grind (arith, nat_tests)

-- the number that stands for an optional one
abbrev number_for : Option ℕ → ℕ
number_for None = 65535
number_for (Some n) = n

named : (b : Bool) (n count : ℕ) → eqb n 65535 ≡ b → n < 2 ^ 16 → (b || ltb n count) ≡ true
    → IsOptionalReference count (cond b None (Some n)) × (u16_bytes n ≡ optional_bytes (cond b None (Some n)))
named true n count e low h = (tt, ap u16_bytes (eqb-true n 65535 e))
named false n count e low h = ((record { defined = ltb-true n count h; fits = low }, not_none n low e), refl)

or_later : (a b : Bool) → b ≡ true → (a || b) ≡ true
or_later true b h = refl
or_later false b h = h

named_back : (count : ℕ) (x : Option ℕ) → IsOptionalReference count x
    → ((number_for x < 2 ^ 16) × ((eqb (number_for x) 65535 || ltb (number_for x) count) ≡ true)) × (x ≡ optional_of (number_for x)) × (optional_bytes x ≡ u16_bytes (number_for x))
named_back count None h = ((omega arith, refl), refl, refl)
named_back count (Some n) h =
    let some : eqb n 65535 ≡ false = is_not_none n h.1 in
    ((h.0.fits, or_later (eqb n 65535) (ltb n count) (lt-ltb n count h.0.defined)), rw some refl, refl)

pub optional_reference_spelling : (count : ℕ) → HasSpelling (optional_reference count) optional_bytes (IsOptionalReference count)
unfolding optional_reference
optional_reference_spelling count =
    made_spelling optional_of number_for optional_bytes (IsOptionalReference count)
    (refuse_unless_spelling (λ n. eqb n 65535 || ltb n count) code.BadRef u16_spelling)
    (λ n h. named (eqb n 65535) n count refl h.0 h.1)
    (named_back count)

fitting : (b : Bool) (n : ℕ) → eqb n 65535 ≡ b → n < 2 ^ 16 → FitsOptional (cond b None (Some n)) × (u16_bytes n ≡ optional_bytes (cond b None (Some n)))
fitting true n e low = (tt, ap u16_bytes (eqb-true n 65535 e))
fitting false n e low = (not_none n low e, refl)

fitting_back : (x : Option ℕ) → FitsOptional x → (number_for x < 2 ^ 16) × (x ≡ optional_of (number_for x)) × (optional_bytes x ≡ u16_bytes (number_for x))
fitting_back None h = (omega arith, refl, refl)
fitting_back (Some n) h = let some : eqb n 65535 ≡ false = is_not_none n h in (omega arith, rw some refl, refl)

pub optional_number_spelling : HasSpelling optional_number optional_bytes FitsOptional
unfolding optional_number
optional_number_spelling = made_spelling optional_of number_for optional_bytes FitsOptional u16_spelling (λ n h. fitting (eqb n 65535) n refl h) fitting_back

near_by : (z : ℤ) → is_far z ≡ false → IsNear z
unfolding is_far
near_by z h = record { low = grind (arith, ints); high = grind (arith, ints) }

near_test : (z : ℤ) → IsNear z → is_far z ≡ false
unfolding is_far
near_test z h = grind (arith, ints)

-- a near coordinate fits its field
pub near_fits : (z : ℤ) → IsNear z → SFits w32 z
near_fits (pos n) h = record { sfits = grind (arith, ints) }
near_fits (negsuc n) h = record { sfits = grind (arith, ints) }

pub coordinate_spelling : HasSpelling coordinate i32_bytes IsNear
unfolding coordinate
coordinate_spelling =
    with_fact IsNear (refuse_if_spelling is_far code.BadNumber i32_spelling) (λ z h. near_by z h.1) (λ z h. (near_fits z h, near_test z h))

not_below : (z low : ℤ) → int_lt z low ≡ false → low ≤ℤ z
not_below z low h = grind (arith, ints)

below_test : (z low : ℤ) → low ≤ℤ z → int_lt z low ≡ false
below_test z low h = grind (arith, ints)

-- a near coordinate that is not below another
pub record IsNearFrom (low z : ℤ) : Type 0 where
  pub near : IsNear z
  pub above : low ≤ℤ z

pub coordinate_from_spelling : (low : ℤ) → HasSpelling (coordinate_from low) i32_bytes (IsNearFrom low)
unfolding coordinate_from
coordinate_from_spelling low =
    with_fact (IsNearFrom low) (refuse_if_spelling (λ z. int_lt z low) code.BadNumber coordinate_spelling)
    (λ z h. record { near = h.0; above = not_below z low h.1 })
    (λ z h. (h.near, below_test z low h.above))

pub rectangle_spelling : HasSpelling rectangle rectangle_bytes IsRectangle
unfolding rectangle rectangle_bytes
rectangle_spelling = record {
  spelled = λ at bytes x (x0, _, _, e0, p0, (y0, _, _, e1, p1, (x1, _, _, e2, p2, (y1, _, _, e3, p3, (z, w))))).
      let a = coordinate_spelling.spelled _ _ x0 p0 in
      let b = coordinate_spelling.spelled _ _ y0 p1 in
      let c = (coordinate_from_spelling x0).spelled _ _ x1 p2 in
      let d = (coordinate_from_spelling y0).spelled _ _ y1 p3 in
      subst (λ (v : Bounds). (bytes ≡ rectangle_bytes v) × IsRectangle v) (sym w)
      (joined e0 a.0 (joined e1 b.0 (joined e2 c.0 (joined e3 d.0 z))), record { left = a.1; top = b.1; right = c.1.near; bottom = d.1.near; across = c.1.above; down = d.1.above });
  passes = λ at x h. (
    x.x0,
    i32_bytes x.x0,
    _,
    refl,
    coordinate_spelling.passes _ x.x0 h.left,
    (
      x.y0,
      i32_bytes x.y0,
      _,
      refl,
      coordinate_spelling.passes _ x.y0 h.top,
      (
        x.x1,
        i32_bytes x.x1,
        _,
        refl,
        (coordinate_from_spelling x.x0).passes _ x.x1 (record { near = h.right; above = h.across }),
        (x.y1, i32_bytes x.y1, _, refl, (coordinate_from_spelling x.y0).passes _ x.y1 (record { near = h.bottom; above = h.down }), (refl, refl)),
      ),
    ),
  );
}

pub colour_spelling : HasSpelling colour colour_bytes IsPixel
unfolding colour
colour_spelling =
    with_fact IsPixel (refuse_unless_spelling is_premultiplied code.BadColour any_colour_spelling)
    (λ p h. record { premultiplied = premultiplied-true p h.1; byte = h.0.alpha })
    (λ p h.
    let m = h.premultiplied in
    (record { blue = omega (arith, m.blue, h.byte); green = omega (arith, m.green, h.byte); red = omega (arith, m.red, h.byte); alpha = h.byte }, premultiplied-of p m))
