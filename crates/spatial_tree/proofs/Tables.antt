-- Tables to which each member adds a number that stands in them for its parent.
use Rattle.std.proofs.Common.{◌≡◌, ℕ, zero, suc, ◌+◌, ◌<◌, ◌≤◌, List, [], ◌∷◌, ◌++◌, length, get_or, take, drop, sym, ap, ap₂, ◌∙◌, append_assoc, arith}
use Rattle.std.specs.List.{fold}
use Rattle.std.proofs.Math.ListN.{get_or-append}
use Rattle.std.proofs.Math.Seq.{get_or-append_seam}
use Rattle.std.proofs.lemmas.List.{append-nil, length-append, take-append-drop, length-take-le}
use Rattle.std.proofs.lemmas.List.Sums.{fold-append}

module _ {A : Type 0} (f : List ℕ → A → ℕ) where
  abbrev pub added : List ℕ → A → List ℕ
  added t x = t ++ f t x ∷ []

  -- a table only grows at its end
  grows : (t : List ℕ) (xs : List A) → (more : List ℕ) × (fold added t xs ≡ t ++ more)
  grows t [] = ([], sym (append-nil t))
  grows t (x ∷ xs) =
      let one : List ℕ = f t x ∷ [] in
      let g = grows (added t x) xs in
      (one ++ g.0, g.1 ∙ append_assoc t one g.0)

  pub table-length : (t : List ℕ) (xs : List A) → length (fold added t xs) ≡ length t + length xs
  table-length t [] = omega arith
  table-length t (x ∷ xs) = omega (arith, table-length (added t x) xs, length-append t (f t x ∷ []))

  -- what a member adds
  pub table-at : (t : List ℕ) (xs : List A) (i j : ℕ) (d : A) → i < length xs → j ≡ length t + i → get_or (fold added t xs) j 0 ≡ f (fold added t (take i xs)) (get_or xs i d)
  table-at t [] i j d h e = absurd (omega arith)
  table-at t (x ∷ xs) zero j d h e =
      let g = grows (added t x) xs in
      let place : j ≡ length t = omega arith in
      ap₂ (λ (ys : List ℕ) (k : ℕ). get_or ys k 0) (g.1 ∙ append_assoc t (f t x ∷ []) g.0) place ∙ get_or-append_seam t (f t x) g.0 0
  table-at t (x ∷ xs) (suc i) j d h e = table-at (added t x) xs i j d (omega arith) (omega (arith, length-append t (f t x ∷ [])))

  -- what stood before it stays
  pub table-before : (t : List ℕ) (xs : List A) (i j : ℕ) → i ≤ length xs → j < length t + i → get_or (fold added t xs) j 0 ≡ get_or (fold added t (take i xs)) j 0
  table-before t xs i j h l =
      let first = fold added t (take i xs) in
      let g = grows first (drop i xs) in
      let whole : fold added t xs ≡ first ++ g.0 = ap (fold added t) (sym (take-append-drop i xs)) ∙ fold-append added t (take i xs) (drop i xs) ∙ g.1 in
      let size : length (take i xs) ≡ i = length-take-le i xs h in
      ap (λ (ys : List ℕ). get_or ys j 0) whole ∙ get_or-append first g.0 0 j (omega (arith, table-length t (take i xs), size))
