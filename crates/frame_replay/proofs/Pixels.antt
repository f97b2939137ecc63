-- Rows of pixels, and their bytes.
use Rattle.std.proofs.Common.{◌≡◌, ℕ, zero, suc, ◌+◌, ◌<◌, List, [], ◌∷◌, ◌++◌, map, refl, sym, ap, ap₂, ◌∙◌, arith, append_assoc, append-nil}
use Rattle.std.specs.List.{flat_map, range_with_len}
use Rattle.std.proofs.lemmas.Grind.{flat_map-append}
use Rattle.std.proofs.lemmas.List.{flat_map_more}
use Rattle.std.proofs.lemmas.List.FromFn.{map-range_with_len_more}
use Rattle.blend_rules.specs.Colour.{colour_bytes}
use Rattle.blend_rules.specs.declared.colour.Px.{Px}
use Rattle.scene_state.specs.SceneModel.{SceneModel}
use Rattle.frame_replay.specs.Frame.{pixel_at, row_by_row, row_pixels}

pixel_more : (s : SceneModel) (y x : ℕ) → row_pixels s y (x + 1) ≡ row_pixels s y x ++ pixel_at s x y ∷ []
unfolding row_pixels
pixel_more s y x = let e : 0 + x ≡ x = omega arith in map-range_with_len_more (λ x. pixel_at s x y) 0 x x e

-- the bytes of one more pixel of a row
pub row_more : (s : SceneModel) (y x : ℕ) (bytes old new : List ℕ) → old ≡ bytes ++ flat_map colour_bytes (row_pixels s y x) → new ≡ old ++ colour_bytes (pixel_at s x y)
    → new ≡ bytes ++ flat_map colour_bytes (row_pixels s y (x + 1))
row_more s y x bytes old new before e =
    e ∙ ap (λ (zs : List ℕ). zs ++ colour_bytes (pixel_at s x y)) before ∙ flat_map_more colour_bytes bytes (row_pixels s y x) (pixel_at s x y)
    ∙ ap (λ (xs : List Px). bytes ++ flat_map colour_bytes xs) (sym (pixel_more s y x))

range_more : (a n : ℕ) → range_with_len a (n + 1) ≡ range_with_len a n ++ (a + n) ∷ []
range_more a zero = let e : a ≡ a + 0 = omega arith in ap (λ (i : ℕ). i ∷ []) e
range_more a (suc n) =
    let e : suc n + 1 ≡ suc (n + 1) = omega arith in
    let f : a + 1 + n ≡ a + suc n = omega arith in
    ap (range_with_len a) e ∙ ap (λ (xs : List ℕ). a ∷ xs) (range_more (a + 1) n ∙ ap (λ (i : ℕ). range_with_len (a + 1) n ++ i ∷ []) f)

rows_more : (f : ℕ → ℕ → Px) (w y : ℕ) → row_by_row w (y + 1) f ≡ row_by_row w y f ++ map (λ x. f x y) (range_with_len 0 w)
unfolding row_by_row
rows_more f w y =
    let row : ℕ → List Px = λ y. map (λ x. f x y) (range_with_len 0 w) in
    let e : 0 + y ≡ y = omega arith in
    ap (flat_map row) (range_more 0 y) ∙ ap (λ (i : ℕ). flat_map row (range_with_len 0 y ++ i ∷ [])) e ∙ flat_map-append row (range_with_len 0 y) (y ∷ [])
    ∙ ap (λ (zs : List Px). flat_map row (range_with_len 0 y) ++ zs) (append-nil (row y))

-- the bytes of one more row
pub rows_put : (f : ℕ → ℕ → Px) (w y : ℕ) (bytes old new : List ℕ) → old ≡ bytes ++ flat_map colour_bytes (row_by_row w y f)
    → new ≡ old ++ flat_map colour_bytes (map (λ x. f x y) (range_with_len 0 w)) → new ≡ bytes ++ flat_map colour_bytes (row_by_row w (y + 1) f)
rows_put f w y bytes old new before e =
    let row = map (λ x. f x y) (range_with_len 0 w) in
    e ∙ ap (λ (zs : List ℕ). zs ++ flat_map colour_bytes row) before
    ∙ append_assoc bytes (flat_map colour_bytes (row_by_row w y f)) (flat_map colour_bytes row)
    ∙ ap (λ (zs : List ℕ). bytes ++ zs) (sym (flat_map-append colour_bytes (row_by_row w y f) row) ∙ ap (flat_map colour_bytes) (sym (rows_more f w y)))

-- of a scene's picture
pub pixels_more : (s : SceneModel) (w y : ℕ) (bytes old new : List ℕ) → old ≡ bytes ++ flat_map colour_bytes (row_by_row w y (pixel_at s))
    → new ≡ old ++ flat_map colour_bytes (row_pixels s y w) → new ≡ bytes ++ flat_map colour_bytes (row_by_row w (y + 1) (pixel_at s))
unfolding row_pixels
pixels_more s = rows_put (pixel_at s)

pub no_pixels : (s : SceneModel) (y : ℕ) (bytes : List ℕ) → bytes ≡ bytes ++ flat_map colour_bytes (row_pixels s y 0)
unfolding row_pixels
no_pixels s y bytes = sym (append-nil bytes)

pub no_rows : (f : ℕ → ℕ → Px) (w : ℕ) (bytes : List ℕ) → bytes ≡ bytes ++ flat_map colour_bytes (row_by_row w 0 f)
unfolding row_by_row
no_rows f w bytes = sym (append-nil bytes)

-- ---- pixels that are the same one by one

map_same : {A : Type 0} (f g : ℕ → A) (a n : ℕ) → ((i : ℕ) → i < a + n → f i ≡ g i) → map f (range_with_len a n) ≡ map g (range_with_len a n)
map_same f g a zero same = refl
map_same f g a (suc n) same = ap₂ ◌∷◌ (same a (omega arith)) (map_same f g (a + 1) n (λ i h. same i (omega arith)))

flat_same : {A : Type 0} (f g : ℕ → List A) (a n : ℕ) → ((i : ℕ) → i < a + n → f i ≡ g i) → flat_map f (range_with_len a n) ≡ flat_map g (range_with_len a n)
flat_same f g a zero same = refl
flat_same f g a (suc n) same = ap₂ ◌++◌ (same a (omega arith)) (flat_same f g (a + 1) n (λ i h. same i (omega arith)))

pub same_rows : (f g : ℕ → ℕ → Px) (w h : ℕ) → ((x y : ℕ) → x < w → y < h → f x y ≡ g x y) → row_by_row w h f ≡ row_by_row w h g
unfolding row_by_row
same_rows f g w h same =
    flat_same (λ y. map (λ x. f x y) (range_with_len 0 w)) (λ y. map (λ x. g x y) (range_with_len 0 w)) 0 h
    (λ y hy. map_same (λ x. f x y) (λ x. g x y) 0 w (λ x hx. same x y (omega (arith, hx)) (omega (arith, hy))))
