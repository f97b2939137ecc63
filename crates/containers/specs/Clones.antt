-- Clones of members, one by one.
use Rattle.std.specs.Prelude.{◌≡◌, List, [], ◌∷◌, refl}
use Rattle.std.specs.List.{AllZip}

-- where each clone equals its source, the cloned list equals the list
pub same_members : {A : Type 0} (D : A → A → Type 0) → ((x y : A) → D x y → y ≡ x) → (xs ys : List A) → AllZip D xs ys → ys ≡ xs
same_members D same [] [] h = refl
same_members D same [] (y ∷ ys) h = absurd h
same_members D same (x ∷ xs) [] h = absurd h
same_members D same (x ∷ xs) (y ∷ ys) h = λ i. same x y h.0 i ∷ same_members D same xs ys h.1 i
