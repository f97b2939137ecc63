-- How many bytes operations and payloads have.
use Rattle.std.proofs.Common.{◌≡◌, ◌==◌, ℕ, ◌+◌, ◌*◌, ◌≤◌, Bool, true, false, cond, [], ◌∷◌, ◌++◌, length, refl, arith}
use Rattle.std.specs.List.{flat_map}
use Rattle.std.proofs.lemmas.List.{length-append}
use Rattle.blend_rules.specs.Colour.{colour_bytes}
use Rattle.field_forms.specs.Spelling.{u16_bytes, u32_bytes, i32_bytes}
use Rattle.display_list.specs.Spelling.{spelling}
use Rattle.txn_format.specs.Txn.{OpModel, set_view, tile_policy}
use Rattle.txn_format.specs.Spelling.{op_bytes}
use Rattle.txn_format.proofs.OpLengths.{length-set_list, length-add_image, length-update_image}
use Rattle.file_generator.specs.Rolls.{roll, rolled_list, rolled_grey}
use Rattle.file_generator.specs.Lists.{opaque_grey, rolled_display_list}
use Rattle.file_generator.specs.Files.{list_op, image_op, first_ops, scroll_op, texel_op, opacity_op, later_op, later_ops, ops, payload_bytes}
use Rattle.file_generator.specs.Laws.{IsShort}
use Rattle.file_generator.proofs.Lengths.{list_length, repeat_length}

colour_length : (x : ℕ) → length (colour_bytes (rolled_grey x).value) ≤ 4
unfolding colour_bytes
colour_length x = omega arith

list_op_length : (epoch x : ℕ) → length (op_bytes (list_op epoch x).value) ≤ 1210
list_op_length epoch x = omega (arith, list_length x, length-set_list epoch (spelling (rolled_display_list x).value))

image_op_length : (x : ℕ) → length (op_bytes (image_op x).value) ≤ 73
image_op_length x =
    let texels = flat_map colour_bytes (rolled_list rolled_grey 16 x).value in
    let most : length texels ≤ 16 * 4 = repeat_length colour_bytes rolled_grey 4 colour_length 16 x in
    omega (arith, most, length-add_image 1 4 4 texels)

scroll_op_length : (x : ℕ) → length (op_bytes (scroll_op x).value) ≡ 11
unfolding u16_bytes u32_bytes i32_bytes
scroll_op_length x = refl

texel_op_length : (x : ℕ) → length (op_bytes (texel_op x).value) ≤ 17
texel_op_length start =
    let x = roll 4 start in
    let y = roll 4 x.state in
    let texel = rolled_grey y.state in
    omega (arith, colour_length y.state, length-update_image 1 x.value y.value 1 1 (colour_bytes texel.value))

opacity_op_length : (x : ℕ) → length (op_bytes (opacity_op x).value) ≡ 5
unfolding u16_bytes
opacity_op_length x = refl

later_op_length : (kind k x : ℕ) → length (op_bytes (later_op kind k x).value) ≤ 1210
later_op_length kind k x = by_tests (kind == 0) (kind == 1) (kind == 2)
  where
    by_tests : (a b c : Bool) → length (op_bytes (cond a (list_op k x) (cond b (scroll_op x) (cond c (texel_op x) (opacity_op x)))).value) ≤ 1210
    by_tests true b c = list_op_length k x
    by_tests false true c = omega (arith, scroll_op_length x)
    by_tests false false true = omega (arith, texel_op_length x)
    by_tests false false false = omega (arith, opacity_op_length x)

view_length : length (op_bytes (set_view 256 192 (opaque_grey 255))) ≡ 9
unfolding u16_bytes colour_bytes
view_length = refl

policy_length : length (op_bytes (tile_policy 64 64 256)) ≡ 9
unfolding u16_bytes u32_bytes
policy_length = refl

-- the four operations of the first payload
four_length : (a b c d : OpModel) → length (payload_bytes (a ∷ (b ∷ (c ∷ (d ∷ []))))) ≡ 4 + (length (op_bytes a) + (length (op_bytes b) + (length (op_bytes c) + length (op_bytes d))))
unfolding u16_bytes
four_length a b c d =
    let all = op_bytes a ++ (op_bytes b ++ (op_bytes c ++ (op_bytes d ++ []))) in
    omega (
      arith,
      length-append (op_bytes d) [],
      length-append (op_bytes c) (op_bytes d ++ []),
      length-append (op_bytes b) (op_bytes c ++ (op_bytes d ++ [])),
      length-append (op_bytes a) (op_bytes b ++ (op_bytes c ++ (op_bytes d ++ []))),
      length-append all [],
    )

one_length : (a : OpModel) → length (payload_bytes (a ∷ [])) ≡ 4 + length (op_bytes a)
unfolding u16_bytes
one_length a = omega (arith, length-append (op_bytes a) [], length-append (op_bytes a ++ []) [])

pub payload_short : (k x : ℕ) → IsShort (payload_bytes (ops k x).value)
unfolding ops
payload_short k x = by_test (k == 0)
  where
    first : IsShort (payload_bytes (first_ops x).value)
    first =
        let image = image_op x in
        let shown = list_op 0 image.state in
        omega (
          arith,
          four_length (set_view 256 192 (opaque_grey 255)) (tile_policy 64 64 256) image.value shown.value,
          view_length,
          policy_length,
          image_op_length x,
          list_op_length 0 image.state,
        )

    later : IsShort (payload_bytes (later_ops k x).value)
    later =
        let kind = roll 4 x in
        omega (arith, one_length (later_op kind.value k kind.state).value, later_op_length kind.value k kind.state)

    by_test : (b : Bool) → IsShort (payload_bytes (cond b (first_ops x) (later_ops k x)).value)
    by_test true = first
    by_test false = later
