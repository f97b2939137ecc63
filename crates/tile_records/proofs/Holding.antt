-- How often ids are held.
use Rattle.std.proofs.Common.{◌≡◌, ◌+◌, ℕ, zero, suc, min, List, [], ◌∷◌, ◌++◌, Option, Some, None, sym, ap, subst, ◌∙◌, arith}
use Rattle.std.specs.FinMap as map
use Rattle.primitives.specs.declared.entry.Entry.{Entry}
use Rattle.tile_records.specs.declared.slots.Held.{Held}
use Rattle.tile_records.specs.Counts.{last_count, times, IsRaised}
use Rattle.tile_records.specs.Laws.{AcquiredInParts}

pub times_append : (k : ℕ) (xs ys : List ℕ) → times k (xs ++ ys) ≡ times k xs + times k ys
times_append k [] ys = omega arith
times_append k (x ∷ xs) ys = let e = times_append k xs ys in omega (arith, e)

capped : (c m n : ℕ) → min (min (c + suc m) last_count + suc n) last_count ≡ min (c + suc (m + suc n)) last_count
capped c m n = omega arith

capped_new : (m n : ℕ) → min (min (suc m) last_count + suc n) last_count ≡ min (suc (m + suc n)) last_count
capped_new m n = omega arith

held : Entry → ℕ → Option Held
held e n = Some (record { entry = e; count = n })

-- held m times more, and then n times more
pub raised_twice : (m n : ℕ) (s t u : Option Held) → IsRaised m s t → IsRaised n t u → IsRaised (m + n) s u
raised_twice zero n s t u f g = subst (λ (i : ℕ). IsRaised i s u) (let e : n ≡ 0 + n = omega arith in e) (subst (λ (o : Option Held). IsRaised n o u) f g)
raised_twice (suc m) zero s t u f g = subst (λ (i : ℕ). IsRaised i s u) (let e : suc m ≡ suc m + 0 = omega arith in e) (subst (IsRaised (suc m) s) (sym g) f)
raised_twice (suc m) (suc n) None t u f g =
    let h = subst (λ (o : Option Held). IsRaised (suc n) o u) f.1 g in
    let e : suc (m + suc n) ≡ suc m + suc n = omega arith in
    subst (λ (i : ℕ). IsRaised i None u) e (f.0, h ∙ ap (λ (i : ℕ). Some (record { entry = f.0; count = i })) (capped_new m n))
raised_twice (suc m) (suc n) (Some x) t u f g =
    let h = subst (λ (o : Option Held). IsRaised (suc n) o u) f g in
    let e : suc (m + suc n) ≡ suc m + suc n = omega arith in
    subst (λ (i : ℕ). IsRaised i (Some x) u) e (h ∙ ap (λ (i : ℕ). Some (record { entry = x.entry; count = i })) (capped x.count m n))

pub acquired_in_parts : AcquiredInParts
acquired_in_parts a b c xs ys f g k =
    subst (λ (i : ℕ). IsRaised i (map.get a k) (map.get c k)) (sym (times_append k xs ys)) (raised_twice (times k xs) (times k ys) (map.get a k) (map.get b k) (map.get c k) (f k) (g k))
