-- Chains of clips.
use Rattle.std.proofs.Common.{◌≡◌, ℕ, zero, suc, ◌+◌, ◌-◌, ◌<◌, ◌≤◌, ◌^◌, ℤ, ◌+ℤ◌, List, [], ◌∷◌, length, get_or, take, Bool, true, false, ◌&&◌, if◌then◌else◌, refl, sym, ap, ap₂, ◌∙◌, true≢false, arith}
use Rattle.std.proofs.lemmas.List.Elements.{All-head, All-tail}
use Rattle.std.proofs.lemmas.List.Sums.{fold_more, count_by-le-length}
use Rattle.wr_geom.specs.Bounds.{Bounds, holds, intersection}
use Rattle.wr_geom.proofs.Points.{intersection_points}
use Rattle.wr_geom.proofs.Rects.{intersection_in_first, intersection_in_second}
use Rattle.blend_rules.specs.Colour.{product}
use Rattle.blend_rules.proofs.Products.{product-full_right, product-zero_left, product-zero_right, product-le_left}
use Rattle.clip_masks.specs.Outline.{Outline, is_inside, sample_points, samples_inside, share}
use Rattle.clip_masks.specs.Coverage.{coverage, chain_coverage, cut_by}
use Rattle.clip_masks.specs.Clips.{IsRectClip, shifted_clips}
use Rattle.clip_masks.specs.Laws.{CoverageIsByte, ChainOfNone, ChainOfBoth, ChainOfNothing, ChainAtMostOuter, ShiftedChainCoversMoved, CutIsInside, ChainBesideCut, ChainWithinCut}
use Rattle.clip_masks.specs.declared.clip.Clip.{Clip}
use Rattle.clip_masks.proofs.Points.{samples_beside}
use Rattle.clip_masks.proofs.Rows.{coverage_at}
use Rattle.clip_masks.proofs.Moves.{rect_coverage, shifted_coverage}

-- one clip more
pub chain_more : (clips : List Clip) (i : ℕ) (d : Clip) (outer : ℕ) (x y : ℤ) → i < length clips
    → chain_coverage (take (i + 1) clips) outer x y ≡ product (chain_coverage (take i clips) outer x y) (coverage (get_or clips i d) x y)
unfolding chain_coverage
chain_more clips i d outer x y h = fold_more (λ (c : ℕ) (clip : Clip). product c (coverage clip x y)) outer clips i d h

pub cut_more : (clips : List Clip) (i : ℕ) (d : Clip) (b : Bounds) → i < length clips
    → cut_by b (take (i + 1) clips) ≡ (if (get_or clips i d).out then cut_by b (take i clips) else intersection (cut_by b (take i clips)) (get_or clips i d).shape.rect)
unfolding cut_by
cut_more clips i d b h = fold_more (λ (r : Bounds) (clip : Clip). if clip.out then r else intersection r clip.shape.rect) b clips i d h

-- the cut after one clip more
pub cut_step : (clips : List Clip) (i : ℕ) (d : Clip) (b left next : Bounds) → i < length clips → left ≡ cut_by b (take i clips) → d ≡ get_or clips i d
    → next ≡ (if d.out then left else intersection left d.shape.rect) → next ≡ cut_by b (take (i + 1) clips)
cut_step clips i d b left next h was item is =
    is ∙ ap₂ (λ (k : Clip) (r : Bounds). if k.out then r else intersection r k.shape.rect) item was ∙ sym (cut_more clips i d b h)

pub chain_none : ChainOfNone
unfolding chain_coverage
chain_none outer x y = refl

pub cut_none : (b : Bounds) → cut_by b [] ≡ b
unfolding cut_by
cut_none b = refl

-- once nothing is left, nothing comes back
pub chain_zero : ChainOfNothing
unfolding chain_coverage
chain_zero [] x y = refl
chain_zero (k ∷ ks) x y = ap (λ (c : ℕ). chain_coverage ks c x y) (product-zero_left (coverage k x y)) ∙ chain_zero ks x y

samples_most : (s : Outline) (x y : ℤ) → samples_inside s x y ≤ 16
unfolding samples_inside
samples_most s x y = count_by-le-length (λ (p : ℤ × ℤ). is_inside s p.0 p.1) (sample_points x y)

pub coverage_byte : CoverageIsByte
unfolding coverage
coverage_byte c x y = by_mode c.out
  where
    by_mode : (t : Bool) → (if t then 255 - share (samples_inside c.shape x y) else share (samples_inside c.shape x y)) < 2 ^ 8
    by_mode true = omega arith
    by_mode false = omega (arith, samples_most c.shape x y)

-- at a point of the rectangle, the rest of a chain with this property leaves nothing of what its own cut leaves out
abbrev LeavesNothing : List Clip → ℤ → ℤ → Type 0
LeavesNothing ks x y = (b : Bounds) (outer : ℕ) → outer < 2 ^ 8 → holds b x y ≡ true → holds (cut_by b ks) x y ≡ false → chain_coverage ks outer x y ≡ 0

by_rect : (k : Clip) (ks : List Clip) (b : Bounds) (outer : ℕ) (x y : ℤ) (u : Bool) → LeavesNothing ks x y → outer < 2 ^ 8 → holds b x y ≡ true → holds k.shape.rect x y ≡ u → k.out ≡ false
    → holds (cut_by (intersection b k.shape.rect) ks) x y ≡ false → chain_coverage ks (product outer (coverage k x y)) x y ≡ 0
by_rect k ks b outer x y true f l h e o m =
    f (intersection b k.shape.rect) (product outer (coverage k x y)) (omega (arith, product-le_left outer (coverage k x y) (coverage_byte k x y)))
    (intersection_points b k.shape.rect x y ∙ ap₂ (λ (s t : Bool). s && t) h e) m
by_rect k ks b outer x y false f l h e o m =
    ap (λ (c : ℕ). chain_coverage ks c x y) (ap (product outer) (coverage_at k x y false 0 o (samples_beside k.shape x y e)) ∙ product-zero_right outer l) ∙ chain_zero ks x y

by_mode : (k : Clip) (ks : List Clip) (b : Bounds) (outer : ℕ) (x y : ℤ) (t : Bool) → LeavesNothing ks x y → outer < 2 ^ 8 → holds b x y ≡ true → k.out ≡ t
    → holds (cut_by (if t then b else intersection b k.shape.rect) ks) x y ≡ false → chain_coverage ks (product outer (coverage k x y)) x y ≡ 0
by_mode k ks b outer x y true f l h o m = f b (product outer (coverage k x y)) (omega (arith, product-le_left outer (coverage k x y) (coverage_byte k x y))) h m
by_mode k ks b outer x y false f l h o m = by_rect k ks b outer x y (holds k.shape.rect x y) f l h refl o m

leaves_nothing : (ks : List Clip) (x y : ℤ) → LeavesNothing ks x y
unfolding chain_coverage cut_by
leaves_nothing [] x y b outer l h n = absurd (true≢false (sym h ∙ n))
leaves_nothing (k ∷ ks) x y b outer l h n = by_mode k ks b outer x y k.out (leaves_nothing ks x y) l h refl n

pub beside_cut : ChainBesideCut
beside_cut b clips outer x y l h n = leaves_nothing clips x y b outer l h n

-- a list from which no more is taken than it has
pub take_all : (n : ℕ) (clips : List Clip) → length clips ≤ n → take n clips ≡ clips
take_all zero [] h = refl
take_all zero (k ∷ ks) h = absurd (omega arith)
take_all (suc n) [] h = refl
take_all (suc n) (k ∷ ks) h = ap (λ (cs : List Clip). k ∷ cs) (take_all n ks (omega arith))

-- ---- chains in parts, bytes, and moved chains

pub chain-append : ChainOfBoth
unfolding chain_coverage
chain-append [] second outer x y = refl
chain-append (k ∷ first) second outer x y = chain-append first second (product outer (coverage k x y)) x y

pub chain_at_most : ChainAtMostOuter
unfolding chain_coverage
chain_at_most [] outer x y = omega arith
chain_at_most (k ∷ ks) outer x y =
    let rest : chain_coverage ks (product outer (coverage k x y)) x y ≤ product outer (coverage k x y) = chain_at_most ks (product outer (coverage k x y)) x y in
    omega (arith, rest, product-le_left outer (coverage k x y) (coverage_byte k x y))

pub chain_byte : (clips : List Clip) (outer : ℕ) (x y : ℤ) → outer < 2 ^ 8 → chain_coverage clips outer x y < 2 ^ 8
chain_byte clips outer x y h = let most = chain_at_most clips outer x y in omega arith

pub shifted_chain : ShiftedChainCoversMoved
unfolding chain_coverage
shifted_chain [] by outer x y = refl
shifted_chain (k ∷ ks) by outer x y =
    ap (λ (c : ℕ). chain_coverage (shifted_clips ks by) (product outer c) (x +ℤ by.x) (y +ℤ by.y)) (shifted_coverage k by x y)
    ∙ shifted_chain ks by (product outer (coverage k x y)) x y

-- ---- the cut of a rectangle

cut_first : (k : Clip) (b : Bounds) (x y : ℤ) (t : Bool) → holds (if t then b else intersection b k.shape.rect) x y ≡ true → holds b x y ≡ true
cut_first k b x y true h = h
cut_first k b x y false h = intersection_in_first b k.shape.rect x y h

pub cut_inside : CutIsInside
unfolding cut_by
cut_inside b [] x y h = h
cut_inside b (k ∷ ks) x y h = cut_first k b x y k.out (cut_inside (if k.out then b else intersection b k.shape.rect) ks x y h)

cut_second : (k : Clip) (b : Bounds) (x y : ℤ) → k.out ≡ false → holds (if k.out then b else intersection b k.shape.rect) x y ≡ true → holds k.shape.rect x y ≡ true
cut_second k b x y e h = intersection_in_second b k.shape.rect x y (ap (λ (t : Bool). holds (if t then b else intersection b k.shape.rect) x y) (sym e) ∙ h)

pub within_cut : ChainWithinCut
unfolding cut_by chain_coverage
within_cut b [] outer x y all h = refl
within_cut b (k ∷ ks) outer x y all h =
    let next = if k.out then b else intersection b k.shape.rect in
    let is = All-head IsRectClip k ks all in
    let here : holds k.shape.rect x y ≡ true = cut_second k b x y is.inwards (cut_inside next ks x y h) in
    let full : coverage k x y ≡ 255 = rect_coverage k x y is ∙ ap (λ (t : Bool). if t then 255 else 0) here in
    ap (λ (c : ℕ). chain_coverage ks c x y) (ap (product outer) full ∙ product-full_right outer) ∙ within_cut next ks outer x y (All-tail IsRectClip k ks all) h
