-- Steps through what two lists of ids have in common.
use Rattle.std.proofs.lemmas.Bool.Decides.{nat_tests}
use Rattle.std.proofs.Common.{◌≡◌, nat_le, ℕ, suc, ◌+◌, ◌-◌, ◌<◌, ◌≤◌, Bool, true, false, List, [], ◌∷◌, length, reverse, get_or, drop, if◌then◌else◌, refl, ap, ap₂, ◌∙◌, add-one, min, arith}
use Rattle.std.proofs.Math.Seq.{drop-cons}
use Rattle.std.proofs.lemmas.List.{get_or-reverse, length-reverse, drop_all}
use Rattle.tile_records.specs.declared.id.Id.{Id}
use Rattle.tile_records.specs.Dirt.{Pair, no_id, same_id, rests}

abbrev left : ℕ → List Id → List Id → Pair Id
left n xs ys = record { old = drop n xs; new = drop n ys }

-- equal first ids
rests_first : (a b : Id) (xs ys : List Id) → same_id a b ≡ true → rests same_id (a ∷ xs) (b ∷ ys) ≡ rests same_id xs ys
rests_first a b xs ys e = ap (λ (t : Bool). if t then rests same_id xs ys else record { old = a ∷ xs; new = b ∷ ys }) e

rests_differ : (a b : Id) (xs ys : List Id) → same_id a b ≡ false → rests same_id (a ∷ xs) (b ∷ ys) ≡ record { old = a ∷ xs; new = b ∷ ys }
rests_differ a b xs ys e = ap (λ (t : Bool). if t then rests same_id xs ys else record { old = a ∷ xs; new = b ∷ ys }) e

pub common_step : (xs ys : List Id) (i : ℕ) → i < length xs → i < length ys → same_id (get_or xs i no_id) (get_or ys i no_id) ≡ true
    → rests same_id (drop i xs) (drop i ys) ≡ rests same_id (drop (i + 1) xs) (drop (i + 1) ys)
common_step xs ys i h k e =
    rw (drop-cons xs i no_id h, drop-cons ys i no_id k, add-one i) (rests_first (get_or xs i no_id) (get_or ys i no_id) (drop (suc i) xs) (drop (suc i) ys) e)

pub common_stop : (xs ys : List Id) (i : ℕ) → i < length xs → i < length ys → same_id (get_or xs i no_id) (get_or ys i no_id) ≡ false
    → rests same_id (drop i xs) (drop i ys) ≡ left i xs ys
common_stop xs ys i h k e =
    rw (drop-cons xs i no_id h, drop-cons ys i no_id k) (rests_differ (get_or xs i no_id) (get_or ys i no_id) (drop (suc i) xs) (drop (suc i) ys) e)

rests_none : (xs : List Id) → rests same_id xs [] ≡ record { old = xs; new = [] }
rests_none [] = refl
rests_none (x ∷ xs) = refl

end_old : (xs ys : List Id) (i : ℕ) → length xs ≤ i → rests same_id (drop i xs) (drop i ys) ≡ left i xs ys
end_old xs ys i h = rw (drop_all i xs h) refl

end_new : (xs ys : List Id) (i : ℕ) → length ys ≤ i → rests same_id (drop i xs) (drop i ys) ≡ left i xs ys
end_new xs ys i h = rw (drop_all i ys h) (rests_none (drop i xs))

end_by : (xs ys : List Id) (i : ℕ) (b : Bool) → nat_le (length xs) i ≡ b → min (length xs) (length ys) ≤ i → rests same_id (drop i xs) (drop i ys) ≡ left i xs ys
end_by xs ys i true e h = end_old xs ys i (grind (arith, nat_tests))
end_by xs ys i false e h = let k : i < length xs = grind (arith, nat_tests) in end_new xs ys i (omega (arith, h, k))

pub common_end : (xs ys : List Id) (i n : ℕ) → i ≤ n → n ≤ i → n ≡ min (length xs) (length ys) → rests same_id (drop i xs) (drop i ys) ≡ left n xs ys
common_end xs ys i n h k e =
    let j : i ≡ n = omega arith in
    end_by xs ys i (nat_le (length xs) i) refl (omega (arith, e, h, k)) ∙ ap (λ (m : ℕ). left m xs ys) j

-- ---- from the end

at_back : (xs : List Id) (i : ℕ) → i < length xs → get_or (reverse xs) i no_id ≡ get_or xs (length xs - 1 - i) no_id
at_back xs i h = get_or-reverse xs i no_id h

same_back : (xs ys : List Id) (i : ℕ) (b : Bool) → i < length xs → i < length ys → same_id (get_or xs (length xs - 1 - i) no_id) (get_or ys (length ys - 1 - i) no_id) ≡ b
    → same_id (get_or (reverse xs) i no_id) (get_or (reverse ys) i no_id) ≡ b
same_back xs ys i b h k e = ap₂ same_id (at_back xs i h) (at_back ys i k) ∙ e

pub back_step : (xs ys : List Id) (i : ℕ) → i < length xs → i < length ys → same_id (get_or xs (length xs - 1 - i) no_id) (get_or ys (length ys - 1 - i) no_id) ≡ true
    → rests same_id (drop i (reverse xs)) (drop i (reverse ys)) ≡ rests same_id (drop (i + 1) (reverse xs)) (drop (i + 1) (reverse ys))
back_step xs ys i h k e = common_step (reverse xs) (reverse ys) i (rw (length-reverse xs) h) (rw (length-reverse ys) k) (same_back xs ys i true h k e)

pub back_stop : (xs ys : List Id) (i : ℕ) → i < length xs → i < length ys → same_id (get_or xs (length xs - 1 - i) no_id) (get_or ys (length ys - 1 - i) no_id) ≡ false
    → rests same_id (drop i (reverse xs)) (drop i (reverse ys)) ≡ left i (reverse xs) (reverse ys)
back_stop xs ys i h k e = common_stop (reverse xs) (reverse ys) i (rw (length-reverse xs) h) (rw (length-reverse ys) k) (same_back xs ys i false h k e)

pub back_end : (xs ys : List Id) (i n : ℕ) → i ≤ n → n ≤ i → n ≡ min (length xs) (length ys)
    → rests same_id (drop i (reverse xs)) (drop i (reverse ys)) ≡ left n (reverse xs) (reverse ys)
back_end xs ys i n h k e = common_end (reverse xs) (reverse ys) i n h k (rw (length-reverse xs, length-reverse ys) e)
