-- Tiles that end a group.
use Rattle.std.proofs.Common.{◌≡◌, ◌≢◌, ◌⊎◌, inl, inr, ℕ, zero, suc, ◌+◌, ◌-◌, ◌<◌, ◌≤◌, ◌==◌, Bool, true, false, List, [], ◌∷◌, ◌++◌, length, get_or, drop, if◌then◌else◌, Contains, refl, sym, ap, ◌∙◌, subst, true≢false, arith}
use Rattle.std.proofs.lemmas.Bool.Decides.{nat_tests}
use Rattle.std.proofs.lemmas.List.{drop_more, drop_all}
use Rattle.tile_records.specs.Passing.{TileState, Leaves, tile_among, closed}
use Rattle.tile_records.proofs.Enters.{at_or}

close_by : (d n : ℕ) (t : TileState) (b : Bool) → b ≡ true → (if b then record { list = t.list ++ (n ∷ []); depth = t.depth - 1 } else t) ≡ record { list = t.list ++ (n ∷ []); depth = t.depth - 1 }
close_by d n t true e = refl
close_by d n t false e = absurd (true≢false (sym e))

skip_by : (d n : ℕ) (t : TileState) (b : Bool) → b ≡ false → (if b then record { list = t.list ++ (n ∷ []); depth = t.depth - 1 } else t) ≡ t
skip_by d n t false e = refl
skip_by d n t true e = absurd (true≢false e)

-- where a tile has the group, and where it hasn't
pub close_there : (d n : ℕ) (t : TileState) → t.depth ≡ d → closed d n t ≡ record { list = t.list ++ (n ∷ []); depth = t.depth - 1 }
close_there d n t e = let b : (t.depth == d) ≡ true = grind (arith, nat_tests) in close_by d n t (t.depth == d) b

pub close_not : (d n : ℕ) (t : TileState) → t.depth ≢ d → closed d n t ≡ t
close_not d n t e = let b : (t.depth == d) ≡ false = grind (arith, nat_tests) in skip_by d n t (t.depth == d) b

pub not_after : (d n : ℕ) (t : TileState) → 0 < d → (closed d n t).depth ≢ d
not_after d n t h = elim (at_or t.depth d) [
  | inl e ↦ λ same. let x : t.depth - 1 ≡ d = sym (ap (λ (u : TileState). u.depth) (close_there d n t e)) ∙ same in omega (arith, x, e, h)
  | inr e ↦ λ same. e (sym (ap (λ (u : TileState). u.depth) (close_not d n t e)) ∙ same)
]

pub close_twice : (d n : ℕ) (t : TileState) → 0 < d → closed d n (closed d n t) ≡ closed d n t
close_twice d n t h = close_not d n (closed d n t) (not_after d n t h)

head_or : (x y : ℕ) (xs : List ℕ) → Contains (x ∷ xs) y → (x ≡ y) ⊎ Contains xs y
head_or x y xs (zero, h, e) = inl e
head_or x y xs (suc m, h, e) = inr (m, omega (arith, h), e)

-- closing what is now gives what closing the start gives
pub leave_each : (d n : ℕ) (t : ℕ) (ls ms : List (List ℕ)) (es fs : List ℕ) → 0 < d → Leaves t d n ls es ms fs
    → (k : ℕ) → closed d n (tile_among ms fs k) ≡ closed d n (tile_among ls es k)
leave_each d n t ls ms es fs h l k = elim (at_or k t) [
  | inl e ↦ subst (λ (i : ℕ). closed d n (tile_among ms fs i) ≡ closed d n (tile_among ls es i)) (sym e) (ap (closed d n) l.here ∙ close_twice d n (tile_among ls es t) h)
  | inr e ↦ ap (closed d n) (l.there k e)
]

-- those that still have the group are in what is left
pub leave_known : (d n : ℕ) (t : ℕ) (ls ms : List (List ℕ)) (es fs : List ℕ) (xs : List ℕ) (i : ℕ) → 0 < d → i < length xs → t ≡ get_or xs i 0 → Leaves t d n ls es ms fs
    → ((k : ℕ) → get_or es k 0 ≡ d → Contains (drop i xs) k)
    → (k : ℕ) → get_or fs k 0 ≡ d → Contains (drop (i + 1) xs) k
leave_known d n t ls ms es fs xs i h w r l old k e = elim (at_or k t) [
  | inl same ↦ absurd (not_after d n (tile_among ls es t) h (sym (ap (λ (u : TileState). u.depth) l.here) ∙ ap (λ (j : ℕ). get_or fs j 0) (sym same) ∙ e))
  | inr other ↦
      elim (head_or (get_or xs i 0) k (drop (i + 1) xs) (subst (λ (ys : List ℕ). Contains ys k) (drop_more xs i 0 w) (old k (sym (ap (λ (u : TileState). u.depth) (l.there k other)) ∙ e)))) [
        | inl at ↦ absurd (other (sym (r ∙ at)))
        | inr on ↦ on
      ]
]

none_in : (k : ℕ) → Contains [] k → ⊥
none_in k (x, h, e) = omega (arith, h)

pub leave_all : (d n : ℕ) (ls ms : List (List ℕ)) (es fs : List ℕ) (xs : List ℕ) (i : ℕ) → length xs ≤ i
    → ((k : ℕ) → get_or fs k 0 ≡ d → Contains (drop i xs) k)
    → ((k : ℕ) → closed d n (tile_among ms fs k) ≡ closed d n (tile_among ls es k))
    → (k : ℕ) → tile_among ms fs k ≡ closed d n (tile_among ls es k)
leave_all d n ls ms es fs xs i w known each k =
    sym (close_not d n (tile_among ms fs k) (λ e. none_in k (subst (λ (ys : List ℕ). Contains ys k) (drop_all i xs w) (known k e)))) ∙ each k
