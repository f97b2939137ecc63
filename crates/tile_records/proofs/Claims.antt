-- What the others who hold ids may rely on.
use Rattle.std.proofs.Common.{◌≡◌, ◌<◌, ◌≤◌, ◌+◌, ◌-◌, nat_lt, nat_le, ℕ, zero, suc, Bool, true, false, List, [], Option, Some, None, if◌then◌else◌, refl, sym, ap, subst, ◌∙◌, arith}
use Rattle.std.proofs.lemmas.Bool.Decides.{nat_tests}
use Rattle.std.specs.FinMap.{get}
use Rattle.tile_records.specs.declared.slots.Held.{Held}
use Rattle.tile_records.specs.Interning.{Interning, entry_of}
use Rattle.tile_records.specs.Counts.{last_count, times, IsRaised, lowered_slot, IsAcquired, IsReleased, Suffices, Moves}
use Rattle.tile_records.proofs.Holding.{times_append}

-- ---- held more often

raised_suffices : (n c : ℕ) (s t : Option Held) → Suffices s c → IsRaised n s t → Suffices t (n + c)
raised_suffices zero c s t h r = subst (λ (o : Option Held). Suffices o (0 + c)) (sym r) (subst (Suffices s) (let e : c ≡ 0 + c = omega arith in e) h)
raised_suffices (suc n) c None t h r = subst (λ (o : Option Held). Suffices o (suc n + c)) (sym r.1) (λ k. omega (arith, h, k))
raised_suffices (suc n) c (Some x) t h r = subst (λ (o : Option Held). Suffices o (suc n + c)) (sym r) (λ k. let j = h (λ e. k (omega (arith, e))) in omega (arith, j, k))

raised_keeps : (n c : ℕ) (s t : Option Held) → Suffices s c → 0 < c → IsRaised n s t → entry_of t ≡ entry_of s
raised_keeps zero c s t h p r = ap entry_of r
raised_keeps (suc n) c None t h p r = absurd (omega (arith, h, p))
raised_keeps (suc n) c (Some x) t h p r = ap entry_of r

pub acquired_moves : (old new : Interning) (ids : List ℕ) → IsAcquired old new ids → Moves old new [] ids
acquired_moves old new ids a = record {
  covers = λ claims c k. subst (Suffices (get new k)) (sym (times_append k ids claims)) (raised_suffices (times k ids) (times k claims) (get old k) (get new k) (c k) (a k));
  entries = λ claims c k p. raised_keeps (times k ids) (times k claims) (get old k) (get new k) (c k) p (a k);
}

-- ---- held less often

abbrev lowered_to : Bool → Bool → ℕ → Held → Option Held
lowered_to s t n x = if s then Some x else if t then Some (record { entry = x.entry; count = x.count - n }) else None

lowered_suffices_by : (n c : ℕ) (x : Held) (s t : Bool) → nat_le last_count x.count ≡ s → nat_lt (suc n) x.count ≡ t → Suffices (Some x) (suc n + c) → Suffices (lowered_to s t (suc n) x) c
lowered_suffices_by n c x true t e f h = λ k. let j = h k in omega (arith, j)
lowered_suffices_by n c x false true e f h = λ k.
    let low : x.count < last_count = grind (arith, nat_tests) in
    let j = h (λ q. omega (arith, q, low)) in omega (arith, j)
lowered_suffices_by n c x false false e f h =
    let low : x.count < last_count = grind (arith, nat_tests) in
    let few : x.count ≤ suc n = grind (arith, nat_tests) in
    let j = h (λ q. omega (arith, q, low)) in omega (arith, j, few)

lowered_suffices : (n c : ℕ) (s : Option Held) → Suffices s (n + c) → Suffices (lowered_slot n s) c
lowered_suffices zero c s h = subst (Suffices s) (let e : 0 + c ≡ c = omega arith in e) h
lowered_suffices (suc n) c None h = omega (arith, h)
lowered_suffices (suc n) c (Some x) h = lowered_suffices_by n c x (nat_le last_count x.count) (nat_lt (suc n) x.count) refl refl h

lowered_keeps_by : (n c : ℕ) (x : Held) (s t : Bool) → nat_le last_count x.count ≡ s → nat_lt (suc n) x.count ≡ t → Suffices (Some x) (suc n + c) → 0 < c → entry_of (lowered_to s t (suc n) x) ≡ Some x.entry
lowered_keeps_by n c x true t e f h p = refl
lowered_keeps_by n c x false true e f h p = refl
lowered_keeps_by n c x false false e f h p =
    let low : x.count < last_count = grind (arith, nat_tests) in
    let few : x.count ≤ suc n = grind (arith, nat_tests) in
    let j = h (λ q. omega (arith, q, low)) in absurd (omega (arith, j, few, p))

lowered_keeps : (n c : ℕ) (s : Option Held) → Suffices s (n + c) → 0 < c → entry_of (lowered_slot n s) ≡ entry_of s
lowered_keeps zero c s h p = refl
lowered_keeps (suc n) c None h p = refl
lowered_keeps (suc n) c (Some x) h p = lowered_keeps_by n c x (nat_le last_count x.count) (nat_lt (suc n) x.count) refl refl h p

pub released_moves : (old new : Interning) (ids : List ℕ) → IsReleased old new ids → Moves old new ids []
released_moves old new ids a = record {
  covers = λ claims c k. subst (λ (o : Option Held). Suffices o (times k claims)) (sym (a k)) (lowered_suffices (times k ids) (times k claims) (get old k) (subst (Suffices (get old k)) (times_append k ids claims) (c k)));
  entries = λ claims c k p. ap entry_of (a k) ∙ lowered_keeps (times k ids) (times k claims) (get old k) (subst (Suffices (get old k)) (times_append k ids claims) (c k)) p;
}
