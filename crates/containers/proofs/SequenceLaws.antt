-- Tests and orders of lists, where those of the members tell them apart.
use Rattle.std.proofs.Common.{◌≡◌, Bool, true, false, ◌&&◌, List, [], ◌∷◌, Ordering, Equal, refl, sym, ap, ◌∙◌}
use Rattle.std.specs.Cmp.Lexicographic.{pointwise, slice_cmp}
use Rattle.std.specs.FinMap.{slice_cmp-IsAntisymmetric}
use Rattle.std.specs.Ordering.{ordering_then}
use Rattle.containers.specs.Laws.{TellsEqual, TiesEqual}

both : (a b : Bool) → (a && b) ≡ true → (a ≡ true) × (b ≡ true)
both true b e = (refl, e)
both false b e = (e, absurd (cc))

pub pointwise-TellsEqual : {A : Type 0} (eq : A → A → Bool) → TellsEqual eq → TellsEqual (pointwise eq)
pointwise-TellsEqual eq tells [] [] = (λ e. refl, λ e. refl)
pointwise-TellsEqual eq tells [] (y ∷ ys) = (λ e. cc, λ e. cc)
pointwise-TellsEqual eq tells (x ∷ xs) [] = (λ e. cc, λ e. cc)
pointwise-TellsEqual eq tells (x ∷ xs) (y ∷ ys) =
    let rest = pointwise-TellsEqual eq tells xs ys in (
      λ e. let parts = both (eq x y) (pointwise eq xs ys) e in λ i. (tells x y).0 parts.0 i ∷ rest.0 parts.1 i,
      λ e.
          let first : eq x y ≡ true = (tells x y).1 (cc) in
          let others : pointwise eq xs ys ≡ true = rest.1 (cc) in
          λ i. first i && others i,
    )

itself : {A : Type 0} (cmp : A → A → Ordering) → ((x : A) → cmp x x ≡ Equal) → (xs : List A) → slice_cmp cmp xs xs ≡ Equal
itself cmp ties [] = refl
itself cmp ties (x ∷ xs) = λ i. ordering_then (ties x i) (itself cmp ties xs i)

pub slice_cmp-TiesEqual : {A : Type 0} (cmp : A → A → Ordering) → TiesEqual cmp → TiesEqual (slice_cmp cmp)
slice_cmp-TiesEqual cmp ties xs ys = (
  slice_cmp-IsAntisymmetric (λ x y e. (ties x y).0 e) xs ys,
  λ e. ap (slice_cmp cmp xs) (sym e) ∙ itself cmp (λ x. (ties x x).1 refl) xs,
)
