-- How many bytes the parts of a generated file have.
use Rattle.std.proofs.Common.{◌≡◌, ◌==◌, ℕ, zero, suc, ◌+◌, ◌*◌, ◌≤◌, Bool, true, false, cond, List, [], ◌∷◌, ◌++◌, length, None, Some, refl, ap, ◌∙◌, arith}
use Rattle.std.specs.List.{flat_map}
use Rattle.std.proofs.lemmas.List.{length-append}
use Rattle.std.proofs.lemmas.List.Concat.{flat_map-append}
use Rattle.wr_geom.specs.Bounds.{Bounds}
use Rattle.blend_rules.specs.Colour.{colour_bytes}
use Rattle.field_forms.specs.Spelling.{u16_bytes, u32_bytes, i32_bytes, rectangle_bytes}
use Rattle.display_list.specs.Spelling.{corner_bytes, radii_bytes, widths_bytes, spot_bytes, node_bytes, clip_bytes, chain_bytes, token_bytes, spelling}
use Rattle.display_list.specs.declared.token.Token.{Token}
use Rattle.display_list.specs.declared.token.Token.TheVariants as a_token
use Rattle.file_generator.specs.Rolls.{Rolled, roll, rolled_list}
use Rattle.file_generator.specs.Lists.{spot_at, square_at, page, rounding, rounded_chain, ground, bar, context, rolled_solid, rolled_border, rolled_shape, rolled_square, rolled_overlay, rolled_items, rolled_display_list}

-- ---- parts of a list

solid_length : (node : ℕ) (rect : Bounds) (x : ℕ) → length (token_bytes (rolled_solid (spot_at node None rect) x).value) ≡ 25
unfolding spot_bytes rectangle_bytes u16_bytes u32_bytes i32_bytes colour_bytes
solid_length node rect x = refl

clipped_length : (node chain : ℕ) (rect : Bounds) (x : ℕ) → length (token_bytes (rolled_solid (spot_at node (Some chain) rect) x).value) ≡ 25
unfolding spot_bytes rectangle_bytes u16_bytes u32_bytes i32_bytes colour_bytes
clipped_length node chain rect x = refl

image_length : (node : ℕ) (rect : Bounds) → length (token_bytes (a_token.Image (spot_at node None rect) 1 0 0)) ≡ 29
unfolding spot_bytes rectangle_bytes u16_bytes u32_bytes i32_bytes
image_length node rect = refl

border_length : (node : ℕ) (rect : Bounds) (x : ℕ) → length (token_bytes (rolled_border (spot_at node None rect) x).value) ≡ 61
unfolding rolled_border spot_bytes rectangle_bytes widths_bytes radii_bytes corner_bytes u16_bytes u32_bytes i32_bytes colour_bytes
border_length node rect x = refl

shape_length : (kind : ℕ) (rect : Bounds) (x : ℕ) → length (token_bytes (rolled_shape kind rect x).value) ≤ 61
shape_length kind rect x = by_tests (kind == 0) (kind == 1) (kind == 2)
  where
    by_tests : (a b c : Bool) → length (token_bytes (cond a (rolled_solid (spot_at 1 None rect) x) (cond b (rolled_solid (spot_at 1 (Some 0) rect) x) (cond c (record { value = a_token.Image (spot_at 1 None rect) 1 0 0; state = x }) (rolled_border (spot_at 1 None rect) x)))).value) ≤ 61
    by_tests true b c = omega (arith, solid_length 1 rect x)
    by_tests false true c = omega (arith, clipped_length 1 0 rect x)
    by_tests false false true = omega (arith, image_length 1 rect)
    by_tests false false false = omega (arith, border_length 1 rect x)

square_length : (x : ℕ) → length (token_bytes (rolled_square x).value) ≤ 61
unfolding rolled_square
square_length start =
    let kind = roll 4 start in
    let x = roll 224 kind.state in
    let y = roll 672 x.state in
    shape_length kind.value (square_at x.value y.value 32) y.state

overlay_length : (x : ℕ) → length (token_bytes (rolled_overlay x).value) ≤ 25
unfolding rolled_overlay
overlay_length start =
    let x = roll 192 start in
    let y = roll 640 x.state in
    omega (arith, solid_length 1 (square_at x.value y.value 64) y.state)

-- so many, of which each has at most so many bytes
pub repeat_length : {X : Type 0} (bytes : X → List ℕ) (one : ℕ → Rolled X) (most : ℕ) → ((x : ℕ) → length (bytes (one x).value) ≤ most)
    → (n x : ℕ) → length (flat_map bytes (rolled_list one n x).value) ≤ n * most
unfolding rolled_list
repeat_length bytes one most each zero x = omega arith
repeat_length bytes one most each (suc n) x =
    let rest = flat_map bytes (rolled_list one n (one x).state).value in
    let le : length rest ≤ n * most = repeat_length bytes one most each n (one x).state in
    omega (arith, each x, le, length-append (bytes (one x).value) rest)

page_length : length (node_bytes page) ≡ 21
unfolding u16_bytes u32_bytes
page_length = refl

rounding_length : length (clip_bytes rounding) ≡ 36
unfolding rectangle_bytes radii_bytes corner_bytes u16_bytes u32_bytes i32_bytes
rounding_length = refl

chain_length : length (chain_bytes rounded_chain) ≡ 6
unfolding u16_bytes
chain_length = refl

ground_length : length (token_bytes ground) ≡ 25
unfolding spot_bytes rectangle_bytes u16_bytes u32_bytes i32_bytes colour_bytes
ground_length = refl

bar_length : length (token_bytes bar) ≡ 25
unfolding spot_bytes rectangle_bytes u16_bytes u32_bytes i32_bytes colour_bytes
bar_length = refl

context_length : (mode : ℕ) → length (token_bytes (context mode)) ≡ 10
unfolding u16_bytes
context_length mode = refl

-- ---- a list

items_length : (squares overlays : List Token) (mode : ℕ)
    → length (flat_map token_bytes (ground ∷ (squares ++ (context mode ∷ (overlays ++ (a_token.Pop ∷ (bar ∷ [])))))))
    ≡ 61 + length (flat_map token_bytes squares) + length (flat_map token_bytes overlays)
items_length squares overlays mode =
    let ends = flat_map token_bytes (a_token.Pop ∷ (bar ∷ [])) in
    let end_length : length ends ≡ 26 = omega (arith, bar_length, length-append (token_bytes bar) []) in
    let late = overlays ++ (a_token.Pop ∷ (bar ∷ [])) in
    let later : length (flat_map token_bytes late) ≡ length (flat_map token_bytes overlays) + 26 =
    ap length (flat_map-append token_bytes overlays (a_token.Pop ∷ (bar ∷ []))) ∙ omega (arith, end_length, length-append (flat_map token_bytes overlays) ends) in
    let from_context : length (flat_map token_bytes (context mode ∷ late)) ≡ 36 + length (flat_map token_bytes overlays) =
    omega (arith, later, context_length mode, length-append (token_bytes (context mode)) (flat_map token_bytes late)) in
    let from_squares : length (flat_map token_bytes (squares ++ (context mode ∷ late))) ≡ length (flat_map token_bytes squares) + (36 + length (flat_map token_bytes overlays)) =
    ap length (flat_map-append token_bytes squares (context mode ∷ late))
    ∙ omega (arith, from_context, length-append (flat_map token_bytes squares) (flat_map token_bytes (context mode ∷ late))) in
    omega (arith, from_squares, ground_length, length-append (token_bytes ground) (flat_map token_bytes (squares ++ (context mode ∷ late))))

rolled_items_length : (x : ℕ) → length (flat_map token_bytes (rolled_items x).value) ≤ 1137
unfolding rolled_items
rolled_items_length x =
    let squares = rolled_list rolled_square 16 x in
    let mode = roll 9 squares.state in
    let overlays = rolled_list rolled_overlay 4 mode.state in
    let many : length (flat_map token_bytes squares.value) ≤ 16 * 61 = repeat_length token_bytes rolled_square 61 square_length 16 x in
    let few : length (flat_map token_bytes overlays.value) ≤ 4 * 25 = repeat_length token_bytes rolled_overlay 25 overlay_length 4 mode.state in
    omega (arith, many, few, items_length squares.value overlays.value mode.value)

pub list_length : (x : ℕ) → length (spelling (rolled_display_list x).value) ≤ 1201
list_length x =
    let items = flat_map token_bytes (rolled_items x).value in
    omega (
      arith,
      page_length,
      rounding_length,
      chain_length,
      rolled_items_length x,
      length-append (node_bytes page) [],
      length-append (clip_bytes rounding) [],
      length-append (chain_bytes rounded_chain) [],
      length-append items (0 ∷ []),
      length-append (chain_bytes rounded_chain ++ []) (items ++ (0 ∷ [])),
      length-append (clip_bytes rounding ++ []) ((chain_bytes rounded_chain ++ []) ++ (items ++ (0 ∷ []))),
      length-append (node_bytes page ++ []) ((clip_bytes rounding ++ []) ++ ((chain_bytes rounded_chain ++ []) ++ (items ++ (0 ∷ [])))),
    )
