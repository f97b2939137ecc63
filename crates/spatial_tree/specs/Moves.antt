-- What is stored of a pipeline beside its list.
use Rattle.std.specs.Prelude.{◌≡◌, ℕ, ℤ, Some, refl}
use Rattle.std.specs.Ordering.{nat_cmp}
use Rattle.std.specs.FinMap as map
use Rattle.std.specs.Coded.{Coded, code_by, coded×, coded_ℕ, coded_ℤ}
use Rattle.field_forms.specs.Facts.{IsNear}

-- the positions of scroll numbers, and the offset and opacity properties, each by its number
pub record MovesModel : Type 0 where
  pub scrolls : map.FinMap nat_cmp (ℤ × ℤ)
  pub offsets : map.FinMap nat_cmp (ℤ × ℤ)
  pub opacities : map.FinMap nat_cmp ℕ

abbrev pub moves_code : Coded MovesModel
moves_code =
    code_by (map.FinMap nat_cmp (ℤ × ℤ) × (map.FinMap nat_cmp (ℤ × ℤ) × map.FinMap nat_cmp ℕ))
    (coded× (map.code coded_ℕ (coded× coded_ℤ coded_ℤ)) (coded× (map.code coded_ℕ (coded× coded_ℤ coded_ℤ)) (map.code coded_ℕ coded_ℕ)))
    (λ m. (m.scrolls, (m.offsets, m.opacities))) (λ p. record { scrolls = p.0; offsets = p.1.0; opacities = p.1.1 }) (λ _. refl)

-- without a position and without a property
abbrev pub no_moves : MovesModel
no_moves = record { scrolls = map.empty; offsets = map.empty; opacities = map.empty }

-- both coordinates are within two to the 20th of 0
pub record IsNearPair (d : ℤ × ℤ) : Type 0 where
  pub x : IsNear d.0
  pub y : IsNear d.1

-- each value is
abbrev pub AreNearPairs : map.FinMap nat_cmp (ℤ × ℤ) → Type 0
AreNearPairs m = (k : ℕ) (d : ℤ × ℤ) → map.get m k ≡ Some d → IsNearPair d

-- the positions and the offset properties are
pub record AreNearMoves (m : MovesModel) : Type 0 where
  pub scrolls : AreNearPairs m.scrolls
  pub offsets : AreNearPairs m.offsets
