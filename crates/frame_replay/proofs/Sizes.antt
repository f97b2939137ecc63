-- How many bytes the pixels of a frame have.
use Rattle.std.proofs.Common.{ℕ, ◌*◌, ◌≤◌, ◌^◌, List, [], ◌∷◌, length, map, ap, arith}
use Rattle.std.specs.List.{flat_map, range_with_len}
use Rattle.std.proofs.lemmas.List.{length-append}
use Rattle.std.proofs.lemmas.List.FromFn.{length-range_with_len, length-map-range_with_len}
use Rattle.std.proofs.lemmas.Nat.{mul-le}
use Rattle.blend_rules.specs.Colour.{colour_bytes}
use Rattle.blend_rules.proofs.Pixels.{length-colour_bytes}
use Rattle.scene_state.specs.SceneModel.{SceneModel}
use Rattle.scene_state.specs.Limits.{IsScene}
use Rattle.frame_replay.specs.Frame.{pixel_at, row_by_row, view_pixels}

flat_length : {A B : Type 0} (f : A → List B) (m : ℕ) → ((a : A) → length (f a) ≤ m) → (xs : List A) → length (flat_map f xs) ≤ length xs * m
flat_length f m each [] = omega arith
flat_length f m each (x ∷ xs) =
    let le : length (flat_map f xs) ≤ length xs * m = flat_length f m each xs in
    omega (arith, each x, le, length-append (f x) (flat_map f xs))

row_by_row_length : {A : Type 0} (width height : ℕ) (f : ℕ → ℕ → A) → length (row_by_row width height f) ≤ height * width
unfolding row_by_row
row_by_row_length width height f =
    let rows = flat_length (λ y. map (λ x. f x y) (range_with_len 0 width)) width (λ y. omega (arith, length-map-range_with_len (λ x. f x y) 0 width)) (range_with_len 0 height) in
    omega (arith, rows, ap (λ (n : ℕ). n * width) (length-range_with_len 0 height))

-- a view has at most 4,096 by 4,096 pixels
pub pixels_length : (s : SceneModel) → IsScene s → length (flat_map colour_bytes (view_pixels s)) ≤ 2 ^ 26
pixels_length s is =
    let many : length (view_pixels s) ≤ s.view.1 * s.view.0 = row_by_row_length s.view.0 s.view.1 (pixel_at s) in
    let most : s.view.1 * s.view.0 ≤ 4096 * 4096 = mul-le s.view.1 s.view.0 4096 4096 is.ranges.height.at_most is.ranges.width.at_most in
    let bytes = flat_length colour_bytes 4 (λ p. omega (arith, length-colour_bytes p)) (view_pixels s) in
    omega (arith, many, most, bytes)
