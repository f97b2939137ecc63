-- Ids that stay held, with their entries, while others are held or given up.
use Rattle.std.proofs.Common.{◌≡◌, ◌<◌, ℕ, zero, suc, List, [], ◌∷◌, ◌++◌, Option, Some, None, IsSome, refl, sym, ap, subst, arith}
use Rattle.std.proofs.lemmas.List.Elements.{All-head, All-tail}
use Rattle.std.specs.FinMap.{get}
use Rattle.tile_records.specs.declared.slots.Held.{Held}
use Rattle.tile_records.specs.Interning.{Interning, AreHeld, entry_of, entry_at, entries_under}
use Rattle.tile_records.specs.Counts.{times, IsRaised, Suffices}
use Rattle.tile_records.specs.Laws.{HeldStay, ClaimedStay, CoveredAreHeld}
use Rattle.tile_records.proofs.Holding.{times_append}
use Rattle.tile_records.proofs.Interns.{named_first, named_later, by_named, all_held}

-- ---- one id

raised_some : (n : ℕ) (s t : Option Held) → IsSome s → IsRaised n s t → IsSome t
raised_some zero s t h r = subst IsSome (sym r) h
raised_some (suc n) None t h r = absurd cc
raised_some (suc n) (Some x) t h r = subst IsSome (sym r) refl

raised_entry_of : (n : ℕ) (s t : Option Held) → IsSome s → IsRaised n s t → entry_of t ≡ entry_of s
raised_entry_of zero s t h r = ap entry_of r
raised_entry_of (suc n) None t h r = absurd cc
raised_entry_of (suc n) (Some x) t h r = ap entry_of r

suffices_some : (s : Option Held) (n : ℕ) → Suffices s n → 0 < n → IsSome s
suffices_some None n h p = absurd (omega (arith, h, p))
suffices_some (Some x) n h p = refl

-- ---- lists of ids

held_named : (m : Interning) (ks : List ℕ) → AreHeld m ks → (q : ℕ) → 0 < times q ks → IsSome (get m q)
held_named m [] h q n = absurd (omega (arith, n))
held_named m (k ∷ ks) h q n =
    by_named q k ks _ refl n (λ s. subst (λ (i : ℕ). IsSome (get m i)) (sym s) (All-head (λ (i : ℕ). IsSome (get m i)) k ks h))
    (λ r. held_named m ks (All-tail (λ (i : ℕ). IsSome (get m i)) k ks h) q r)

entries_along : (old new : Interning) (ks : List ℕ) → ((q : ℕ) → 0 < times q ks → entry_at new q ≡ entry_at old q) → entries_under new ks ≡ entries_under old ks
entries_along old new [] f = refl
entries_along old new (k ∷ ks) f =
    let first = f k (named_first k ks) in
    let later = entries_along old new ks (λ q h. f q (named_later q k ks h)) in
    cc

pub held_stay : HeldStay
held_stay old new ids ks a h = record {
  held = all_held new ks (λ q n. raised_some (times q ids) (get old q) (get new q) (held_named old ks h q n) (a q));
  entries = entries_along old new ks (λ q n. raised_entry_of (times q ids) (get old q) (get new q) (held_named old ks h q n) (a q));
}

pub covered_are_held : CoveredAreHeld
covered_are_held m claims c = all_held m claims (λ q n. suffices_some (get m q) (times q claims) (c q) n)

pub claimed_stay : ClaimedStay
claimed_stay old new from to claims m c = record {
  held = all_held new claims (λ q n. suffices_some (get new q) (times q (to ++ claims)) (m.covers claims c q) (let t = times_append q to claims in omega (arith, t, n)));
  entries = entries_along old new claims (λ q n. m.entries claims c q n);
}
