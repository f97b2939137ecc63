-- Operations on sixteen lanes, by index.
use Rattle.std.proofs.Common.{ℕ, ◌≡◌, ◌<◌, List, length, replicate, map, refl, ap, get_or, ◌∙◌, sym, subst, Fits, w8, w16, ◌+◌, ◌-◌, ◌≤◌, ◌^◌, Bool, false, cond}
use Rattle.std.proofs.lemmas.List.{length-map, get_or-map}
use Rattle.std.proofs.lemmas.Simd.{get_or-zip2, length-zip2, length-replicate, get_or-replicate, Each1-from_get_or, Each1-get_or, get_or-chunk, length-chunk, tops_compared, length-sel_l, get_or-sel_l}
use lib.Lanes.{Each1, zip2, chunk, sel_l, top}
use mir.Syntax.{Width}
use mir.Val.{bits, hbits}
use Rattle.span_kernels.specs.Lanes.{AreLanes}

pub lanes_of : (xs : List ℕ) → length xs ≡ 16 → AreLanes xs (λ k. get_or xs k 0)
lanes_of xs long = record { count = long; each = λ k lt. refl }

pub lanes_by : {F G : ℕ → ℕ} (xs : List ℕ) → AreLanes xs F → ((k : ℕ) → k < 16 → F k ≡ G k) → AreLanes xs G
lanes_by xs is same = record { count = is.count; each = λ k lt. is.each k lt ∙ same k lt }

pub lanes_splat : (a : ℕ) → AreLanes (replicate 16 a) (λ _. a)
lanes_splat a = record { count = length-replicate 16 a; each = λ k lt. get_or-replicate 16 k a 0 lt }

pub lanes_map : (f : ℕ → ℕ) {F : ℕ → ℕ} (xs : List ℕ) → AreLanes xs F → AreLanes (map f xs) (λ k. f (F k))
lanes_map f xs is = record {
  count = length-map xs f ∙ is.count;
  each = λ k lt. get_or-map f xs k 0 0 (rw is.count lt) ∙ ap f (is.each k lt);
}

pub lanes_zip : (f : ℕ → ℕ → ℕ) {F G : ℕ → ℕ} (xs ys : List ℕ) → AreLanes xs F → AreLanes ys G → AreLanes (zip2 f xs ys) (λ k. f (F k) (G k))
lanes_zip f {F} {G} xs ys left right = record {
  count = length-zip2 f xs ys (left.count ∙ sym right.count) ∙ left.count;
  each = λ k lt.
      let x = left.each k lt in
      let y = right.each k lt in
      let z : get_or (zip2 f xs ys) k 0 ≡ f (get_or xs k 0) (get_or ys k 0) = get_or-zip2 f xs ys k 0 0 0 (rw left.count lt) (rw right.count lt) in
      cc;
}

pub each_lane : (P : ℕ → Type 0) {F : ℕ → ℕ} (xs : List ℕ) → AreLanes xs F → ((k : ℕ) → k < 16 → P (F k)) → Each1 P xs
each_lane P xs is holds = Each1-from_get_or P xs 0 (λ k lt. let low : k < 16 = rw (← is.count) lt in subst P (sym (is.each k low)) (holds k low))

pub wide_lane : (xs : List ℕ) → (length xs ≡ 16) × Each1 (Fits w16) xs → (k : ℕ) → k < 16 → Fits w16 (get_or xs k 0)
wide_lane xs are k lt = Each1-get_or (Fits w16) xs k 0 (rw are.0 lt) are.1

pub byte_lane : (xs : List ℕ) → (length xs ≡ 16) × Each1 (Fits w8) xs → (k : ℕ) → k < 16 → Fits w8 (get_or xs k 0)
byte_lane xs are k lt = Each1-get_or (Fits w8) xs k 0 (rw are.0 lt) are.1

-- sixteen bytes read from an index of a row on
pub lanes_read : (row : List ℕ) (at : ℕ) → at + 16 ≤ length row → AreLanes (chunk at 16 row) (λ k. get_or row (at + k) 0)
lanes_read row at room = record { count = length-chunk at 16 row room; each = λ k lt. get_or-chunk at 16 row k 0 lt }

-- a choice by a test of two lanes
pub lanes_choose : (w : Width) (t : ℕ → ℕ → Bool) {F G L H : ℕ → ℕ} (xs ys low high : List ℕ) → AreLanes xs F → AreLanes ys G → AreLanes low L → AreLanes high H → AreLanes (sel_l (map (top (hbits w)) (zip2 (λ a b. cond (t a b) (2 ^ bits w - 1) 0) xs ys)) low high) (λ k. cond (t (F k) (G k)) (L k) (H k))
lanes_choose w t {F} {G} {L} {H} xs ys low high x y l h =
    let tests = tops_compared w t xs ys in
    let long : length (zip2 t xs ys) ≡ 16 = length-zip2 t xs ys (x.count ∙ sym y.count) ∙ x.count in
    let chosen : AreLanes (sel_l (zip2 t xs ys) low high) (λ k. cond (t (F k) (G k)) (L k) (H k)) = record {
      count = length-sel_l (zip2 t xs ys) low high (long ∙ sym l.count) (long ∙ sym h.count) ∙ long;
      each = λ k lt.
          let a = x.each k lt in
          let b = y.each k lt in
          let p = l.each k lt in
          let q = h.each k lt in
          let z : get_or (zip2 t xs ys) k false ≡ t (get_or xs k 0) (get_or ys k 0) = get_or-zip2 t xs ys k 0 0 false (rw x.count lt) (rw y.count lt) in
          let s : get_or (sel_l (zip2 t xs ys) low high) k 0 ≡ cond (get_or (zip2 t xs ys) k false) (get_or low k 0) (get_or high k 0) = get_or-sel_l (zip2 t xs ys) low high k 0 (rw long lt) (rw l.count lt) (rw h.count lt) in
          cc;
    } in
    rw tests chosen
