-- What holding, releasing and giving up ids leaves under each key.
use Rattle.std.proofs.Common.{◌≡◌, ◌≢◌, ◌<◌, ◌+◌, ◌-◌, ◌==◌, nat_lt, nat_le, ℕ, zero, suc, Bool, true, false, cond, min, List, [], ◌∷◌, ◌++◌, Option, Some, None, IsSome, is_some, if◌then◌else◌, refl, sym, ap, subst, ◌∙◌, true≢false, arith}
use Rattle.std.proofs.lemmas.Bool.Decides.{nat_tests}
use Rattle.std.specs.Cmp.{nat_cmp_total}
use Rattle.std.specs.Ordering.{nat_cmp, eq_by_cmp}
use Rattle.std.specs.FinMap.{get, remove, same_map, nat_cmp-IsAntisymmetric}
use Rattle.tile_records.specs.declared.slots.Held.{Held}
use Rattle.tile_records.specs.Interning.{Interning, entry_of, count_of, entry_at, count_at}
use Rattle.tile_records.specs.Counts.{last_count, times, recounted_at, recounted, raised, lowered, swept, raised_all, raised_records, lowered_all, swept_all, removed_all, IsRaised, lowered_slot, IsAcquired, IsReleased}
use Rattle.tile_records.specs.Making.{IsGrownSlot, IsGrown}
use Rattle.tile_records.specs.Passing.{joined}
use Rattle.tile_records.proofs.Recounts.{at_inserted, at_removed}
use Rattle.tile_records.proofs.Views.{same_eq}

-- ---- slots

abbrev pub raised_slot : ℕ → Option Held → Option Held
raised_slot zero s = s
raised_slot (suc n) None = None
raised_slot (suc n) (Some x) = Some (record { entry = x.entry; count = min (x.count + suc n) last_count })

abbrev pub emptied : Option Held → Option Held
emptied None = None
emptied (Some x) = if x.count == 0 then None else Some x

abbrev pub swept_slot : ℕ → Option Held → Option Held
swept_slot zero s = s
swept_slot (suc n) s = emptied s

abbrev pub removed_slot : ℕ → Option Held → Option Held
removed_slot zero s = s
removed_slot (suc n) s = None

abbrev recount_slot : Bool → ℕ → Option Held → Option Held
recount_slot true c None = None
recount_slot true c (Some x) = Some (record { entry = x.entry; count = c })
recount_slot false c s = s

-- 1 for the id itself, and 0 for another
abbrev pub one_if : Bool → ℕ
one_if b = cond b 1 0

-- ---- one id

recount_by : (m : Interning) (k c q : ℕ) (b : Bool) (o : Option Held) → get m k ≡ o → eq_by_cmp nat_cmp q k ≡ b → get (recounted_at o m k c) q ≡ recount_slot b c (get m q)
recount_by m k c q true None p r = let e = ap (get m) (same_eq q k r) ∙ p in e ∙ sym (ap (recount_slot true c) e)
recount_by m k c q false None p r = refl
recount_by m k c q true (Some x) p r = at_inserted m k (record { entry = x.entry; count = c }) q true r ∙ sym (ap (recount_slot true c) (ap (get m) (same_eq q k r) ∙ p))
recount_by m k c q false (Some x) p r = at_inserted m k (record { entry = x.entry; count = c }) q false r

recount_at : (m : Interning) (k c q : ℕ) (b : Bool) → eq_by_cmp nat_cmp q k ≡ b → get (recounted m k c) q ≡ recount_slot b c (get m q)
recount_at m k c q b r = recount_by m k c q b (get m k) refl r

own_count : (m : Interning) (k q : ℕ) → eq_by_cmp nat_cmp q k ≡ true → count_at m k ≡ count_of (get m q)
own_count m k q r = ap (λ (i : ℕ). count_at m i) (sym (same_eq q k r))

slot_raised : (s : Option Held) → recount_slot true (min (count_of s + 1) last_count) s ≡ raised_slot 1 s
slot_raised None = refl
slot_raised (Some x) = refl

raised_by : (m : Interning) (k q : ℕ) (b : Bool) → eq_by_cmp nat_cmp q k ≡ b → get (raised m k) q ≡ raised_slot (one_if b) (get m q)
raised_by m k q true r =
    recount_at m k (min (count_at m k + 1) last_count) q true r
    ∙ ap (λ (n : ℕ). recount_slot true (min (n + 1) last_count) (get m q)) (own_count m k q r) ∙ slot_raised (get m q)
raised_by m k q false r = recount_at m k (min (count_at m k + 1) last_count) q false r

pub raised_at : (m : Interning) (k q : ℕ) → get (raised m k) q ≡ raised_slot (one_if (eq_by_cmp nat_cmp q k)) (get m q)
raised_at m k q = raised_by m k q (eq_by_cmp nat_cmp q k) refl

-- by the two tests of a count
abbrev lowered_by : Bool → Bool → Interning → ℕ → Interning
lowered_by s t m k = if s then m else if t then recounted m k (count_at m k - 1) else remove m k

abbrev lower_slot_by : Bool → Bool → ℕ → Held → Option Held
lower_slot_by s t n x = if s then Some x else if t then Some (record { entry = x.entry; count = x.count - n }) else None

stays_slot : (o : Option Held) → nat_le last_count (count_of o) ≡ true → o ≡ lowered_slot 1 o
stays_slot None e = refl
stays_slot (Some x) e = sym (ap (λ (s : Bool). lower_slot_by s (nat_lt 1 x.count) 1 x) e)

less_slot : (o : Option Held) → nat_le last_count (count_of o) ≡ false → nat_lt 1 (count_of o) ≡ true → recount_slot true (count_of o - 1) o ≡ lowered_slot 1 o
less_slot None e f = refl
less_slot (Some x) e f = sym (ap (λ (s : Bool). lower_slot_by s (nat_lt 1 x.count) 1 x) e ∙ ap (λ (t : Bool). lower_slot_by false t 1 x) f)

gone_slot : (o : Option Held) → nat_le last_count (count_of o) ≡ false → nat_lt 1 (count_of o) ≡ false → None ≡ lowered_slot 1 o
gone_slot None e f = refl
gone_slot (Some x) e f = sym (ap (λ (s : Bool). lower_slot_by s (nat_lt 1 x.count) 1 x) e ∙ ap (λ (t : Bool). lower_slot_by false t 1 x) f)

lower_by : (m : Interning) (k q : ℕ) (b s t : Bool) → eq_by_cmp nat_cmp q k ≡ b → nat_le last_count (count_at m k) ≡ s → nat_lt 1 (count_at m k) ≡ t
    → get (lowered_by s t m k) q ≡ lowered_slot (one_if b) (get m q)
lower_by m k q true true t r e f = stays_slot (get m q) (ap (nat_le last_count) (sym (own_count m k q r)) ∙ e)
lower_by m k q true false true r e f =
    recount_at m k (count_at m k - 1) q true r
    ∙ ap (λ (n : ℕ). recount_slot true (n - 1) (get m q)) (own_count m k q r)
    ∙ less_slot (get m q) (ap (nat_le last_count) (sym (own_count m k q r)) ∙ e) (ap (nat_lt 1) (sym (own_count m k q r)) ∙ f)
lower_by m k q true false false r e f =
    at_removed m k q true r ∙ gone_slot (get m q) (ap (nat_le last_count) (sym (own_count m k q r)) ∙ e) (ap (nat_lt 1) (sym (own_count m k q r)) ∙ f)
lower_by m k q false true t r e f = refl
lower_by m k q false false true r e f = recount_at m k (count_at m k - 1) q false r
lower_by m k q false false false r e f = at_removed m k q false r

pub lowered_at : (m : Interning) (k q : ℕ) → get (lowered m k) q ≡ lowered_slot (one_if (eq_by_cmp nat_cmp q k)) (get m q)
lowered_at m k q = lower_by m k q (eq_by_cmp nat_cmp q k) (nat_le last_count (count_at m k)) (nat_lt 1 (count_at m k)) refl refl refl

emptied_none : (o : Option Held) → (count_of o == 0) ≡ true → None ≡ emptied o
emptied_none None e = refl
emptied_none (Some x) e = sym (ap (λ (t : Bool). if t then None else Some x) e)

emptied_some : (o : Option Held) → (count_of o == 0) ≡ false → o ≡ emptied o
emptied_some None e = refl
emptied_some (Some x) e = sym (ap (λ (t : Bool). if t then None else Some x) e)

sweep_by : (m : Interning) (k q : ℕ) (b t : Bool) → eq_by_cmp nat_cmp q k ≡ b → (count_at m k == 0) ≡ t → get (if t then remove m k else m) q ≡ swept_slot (one_if b) (get m q)
sweep_by m k q true true r e = at_removed m k q true r ∙ emptied_none (get m q) (ap (λ (n : ℕ). n == 0) (sym (own_count m k q r)) ∙ e)
sweep_by m k q true false r e = emptied_some (get m q) (ap (λ (n : ℕ). n == 0) (sym (own_count m k q r)) ∙ e)
sweep_by m k q false true r e = at_removed m k q false r
sweep_by m k q false false r e = refl

swept_at : (m : Interning) (k q : ℕ) → get (swept m k) q ≡ swept_slot (one_if (eq_by_cmp nat_cmp q k)) (get m q)
swept_at m k q = sweep_by m k q (eq_by_cmp nat_cmp q k) (count_at m k == 0) refl refl

remove_by : (m : Interning) (k q : ℕ) (b : Bool) → eq_by_cmp nat_cmp q k ≡ b → get (remove m k) q ≡ removed_slot (one_if b) (get m q)
remove_by m k q true r = at_removed m k q true r
remove_by m k q false r = at_removed m k q false r

-- ---- one after another

from_none : (n : ℕ) → n ≡ 0 + n
from_none n = omega arith

one_more : (n : ℕ) → suc n ≡ 1 + n
one_more n = omega arith

raise_sum : (b : Bool) (n : ℕ) (s : Option Held) → raised_slot n (raised_slot (one_if b) s) ≡ raised_slot (one_if b + n) s
raise_sum false n s = ap (λ (i : ℕ). raised_slot i s) (from_none n)
raise_sum true zero s = refl
raise_sum true (suc n) None = ap (λ (i : ℕ). raised_slot i None) (one_more (suc n))
raise_sum true (suc n) (Some x) =
    let e : min (min (x.count + 1) last_count + suc n) last_count ≡ min (x.count + suc (suc n)) last_count = omega arith in
    ap (λ (i : ℕ). Some (record { entry = x.entry; count = i })) e ∙ ap (λ (i : ℕ). raised_slot i (Some x)) (one_more (suc n))

lower_pair : (n : ℕ) (x : Held) (s t : Bool) → nat_le last_count x.count ≡ s → nat_lt 1 x.count ≡ t → lowered_slot (suc n) (lower_slot_by s t 1 x) ≡ lower_slot_by s (nat_lt (suc (suc n)) x.count) (suc (suc n)) x
lower_pair n x true t e f = ap (λ (s : Bool). lower_slot_by s (nat_lt (suc n) x.count) (suc n) x) e
lower_pair n x false true e f =
    let y : Held = record { entry = x.entry; count = x.count - 1 } in
    let g : nat_le last_count (x.count - 1) ≡ false = grind (arith, nat_tests) in
    let i : nat_lt (suc n) (x.count - 1) ≡ nat_lt (suc (suc n)) x.count = grind (arith, nat_tests) in
    let j : (x.count - 1) - suc n ≡ x.count - suc (suc n) = omega arith in
    ap (λ (s : Bool). lower_slot_by s (nat_lt (suc n) (x.count - 1)) (suc n) y) g
    ∙ ap (λ (t : Bool). lower_slot_by false t (suc n) y) i
    ∙ ap (λ (c : ℕ). if nat_lt (suc (suc n)) x.count then Some (record { entry = x.entry; count = c }) else None) j
lower_pair n x false false e f =
    let i : nat_lt (suc (suc n)) x.count ≡ false = grind (arith, nat_tests) in
    sym (ap (λ (t : Bool). lower_slot_by false t (suc (suc n)) x) i)

lower_twice : (n : ℕ) (x : Held) (s : Bool) → nat_le last_count x.count ≡ s → lower_slot_by s (nat_lt (suc (suc n)) x.count) (suc (suc n)) x ≡ lowered_slot (suc (suc n)) (Some x)
lower_twice n x s e = ap (λ (b : Bool). lower_slot_by b (nat_lt (suc (suc n)) x.count) (suc (suc n)) x) (sym e)

lower_sum : (b : Bool) (n : ℕ) (s : Option Held) → lowered_slot n (lowered_slot (one_if b) s) ≡ lowered_slot (one_if b + n) s
lower_sum false n s = ap (λ (i : ℕ). lowered_slot i s) (from_none n)
lower_sum true zero s = refl
lower_sum true (suc n) None = ap (λ (i : ℕ). lowered_slot i None) (one_more (suc n))
lower_sum true (suc n) (Some x) =
    lower_pair n x (nat_le last_count x.count) (nat_lt 1 x.count) refl refl ∙ lower_twice n x (nat_le last_count x.count) refl
    ∙ ap (λ (i : ℕ). lowered_slot i (Some x)) (one_more (suc n))

emptied_by : (x : Held) (t : Bool) → (x.count == 0) ≡ t → emptied (if t then None else Some x) ≡ (if t then None else Some x)
emptied_by x true e = refl
emptied_by x false e = ap (λ (t : Bool). if t then None else Some x) e

emptied_twice : (s : Option Held) → emptied (emptied s) ≡ emptied s
emptied_twice None = refl
emptied_twice (Some x) = emptied_by x (x.count == 0) refl

sweep_sum : (b : Bool) (n : ℕ) (s : Option Held) → swept_slot n (swept_slot (one_if b) s) ≡ swept_slot (one_if b + n) s
sweep_sum false n s = ap (λ (i : ℕ). swept_slot i s) (from_none n)
sweep_sum true zero s = refl
sweep_sum true (suc n) s = emptied_twice s ∙ ap (λ (i : ℕ). swept_slot i s) (one_more (suc n))

remove_sum : (b : Bool) (n : ℕ) (s : Option Held) → removed_slot n (removed_slot (one_if b) s) ≡ removed_slot (one_if b + n) s
remove_sum false n s = ap (λ (i : ℕ). removed_slot i s) (from_none n)
remove_sum true zero s = refl
remove_sum true (suc n) s = ap (λ (i : ℕ). removed_slot i s) (one_more (suc n))

pub raised_all_at : (ks : List ℕ) (m : Interning) (q : ℕ) → get (raised_all m ks) q ≡ raised_slot (times q ks) (get m q)
raised_all_at [] m q = refl
raised_all_at (k ∷ ks) m q = raised_all_at ks (raised m k) q ∙ ap (raised_slot (times q ks)) (raised_at m k q) ∙ raise_sum (eq_by_cmp nat_cmp q k) (times q ks) (get m q)

pub lowered_all_at : (ks : List ℕ) (m : Interning) (q : ℕ) → get (lowered_all m ks) q ≡ lowered_slot (times q ks) (get m q)
lowered_all_at [] m q = refl
lowered_all_at (k ∷ ks) m q = lowered_all_at ks (lowered m k) q ∙ ap (lowered_slot (times q ks)) (lowered_at m k q) ∙ lower_sum (eq_by_cmp nat_cmp q k) (times q ks) (get m q)

pub swept_all_at : (ks : List ℕ) (m : Interning) (q : ℕ) → get (swept_all m ks) q ≡ swept_slot (times q ks) (get m q)
swept_all_at [] m q = refl
swept_all_at (k ∷ ks) m q = swept_all_at ks (swept m k) q ∙ ap (swept_slot (times q ks)) (swept_at m k q) ∙ sweep_sum (eq_by_cmp nat_cmp q k) (times q ks) (get m q)

removed_all_at : (ks : List ℕ) (m : Interning) (q : ℕ) → get (removed_all m ks) q ≡ removed_slot (times q ks) (get m q)
removed_all_at [] m q = refl
removed_all_at (k ∷ ks) m q =
    removed_all_at ks (remove m k) q ∙ ap (removed_slot (times q ks)) (remove_by m k q (eq_by_cmp nat_cmp q k) refl) ∙ remove_sum (eq_by_cmp nat_cmp q k) (times q ks) (get m q)

raised_joined : (xs ys : List ℕ) (m : Interning) → raised_all (raised_all m xs) ys ≡ raised_all m (xs ++ ys)
raised_joined [] ys m = refl
raised_joined (x ∷ xs) ys m = raised_joined xs ys (raised m x)

pub raised_records_all : (rs : List (List ℕ)) (m : Interning) → raised_records m rs ≡ raised_all m (joined rs)
raised_records_all [] m = refl
raised_records_all (r ∷ rs) m = raised_records_all rs (raised_all m r) ∙ raised_joined r (joined rs) m

-- ---- what was added is given up again

grown_back : (n : ℕ) (s t : Option Held) → IsGrownSlot n s t → removed_slot n t ≡ s
grown_back zero s t g = g
grown_back (suc n) s t g = sym g.0

pub forgotten : (old m : Interning) (added : List ℕ) → IsGrown old m added → removed_all m added ≡ old
forgotten old m added g = same_map nat_cmp_total nat_cmp-IsAntisymmetric (removed_all m added) old (λ q. removed_all_at added m q ∙ grown_back (times q added) (get old q) (get m q) (g q))

-- ---- what is held in the end

no_slot : {s : Option Held} → s ≡ None → IsSome s → ⊥
no_slot {s = s} e h = true≢false (sym h ∙ ap is_some e)

above : (c n : ℕ) → min (c + suc n) last_count ≢ 0
above c n e = omega (arith, e)

kept_raised : (n : ℕ) (t : Option Held) → emptied (raised_slot (suc n) t) ≡ raised_slot (suc n) t
kept_raised n None = refl
kept_raised n (Some x) =
    let a = above x.count n in
    let e : (min (x.count + suc n) last_count == 0) ≡ false = grind (arith, nat_tests) in
    ap (λ (b : Bool). if b then None else Some (record { entry = x.entry; count = min (x.count + suc n) last_count })) e

old_raised : (n : ℕ) (s : Option Held) → (0 < suc n → IsSome s) → IsRaised (suc n) s (raised_slot (suc n) s)
old_raised n None h = absurd (no_slot {s = None} refl (h (omega arith)))
old_raised n (Some x) h = refl

new_raised : (n : ℕ) (s t : Option Held) → IsGrownSlot (suc n) s t → (i : ℕ) → IsRaised (suc i) s (raised_slot (suc i) t)
new_raised n s t g i =
    let e : 0 + suc i ≡ suc i = omega arith in
    subst (λ (o : Option Held). IsRaised (suc i) o (raised_slot (suc i) t)) (sym g.0)
    (g.1.0, ap (raised_slot (suc i)) g.1.1 ∙ ap (λ (c : ℕ). Some (record { entry = g.1.0; count = min c last_count })) e)

pub grown_raised : (a n : ℕ) (s t : Option Held) → IsGrownSlot a s t → (0 < n → IsSome t) → (0 < a → 0 < n) → IsRaised n s (raised_slot n t)
grown_raised zero zero s t g h i = g
grown_raised zero (suc n) s t g h i = subst (λ (o : Option Held). IsRaised (suc n) s (raised_slot (suc n) o)) (sym g) (old_raised n s (subst (λ (o : Option Held). 0 < suc n → IsSome o) g h))
grown_raised (suc a) zero s t g h i = absurd (let k = i (omega arith) in omega (arith, k))
grown_raised (suc a) (suc n) s t g h i = new_raised a s t g n

grown_swept : (a n : ℕ) (s t : Option Held) → IsGrownSlot a s t → (0 < n → IsSome t) → IsRaised n s (swept_slot a (raised_slot n t))
grown_swept zero n s t g h = grown_raised zero n s t g h (λ k. absurd (omega (arith, k)))
grown_swept (suc a) zero s t g h = ap emptied g.1.1 ∙ sym g.0
grown_swept (suc a) (suc n) s t g h = subst (IsRaised (suc n) s) (sym (kept_raised n t)) (new_raised a s t g n)

pub acquired_in_all : (old m new : Interning) (added ids : List ℕ) → IsGrown old m added → ((k : ℕ) → 0 < times k ids → IsSome (get m k)) → new ≡ swept_all (raised_all m ids) added → IsAcquired old new ids
acquired_in_all old m new added ids g h e k =
    subst (IsRaised (times k ids) (get old k))
    (sym (ap (λ (i : Interning). get i k) e ∙ swept_all_at added (raised_all m ids) k ∙ ap (swept_slot (times k added)) (raised_all_at ids m k)))
    (grown_swept (times k added) (times k ids) (get old k) (get m k) (g k) (h k))

-- each entry stays, where its id is named
entry_raised : (n : ℕ) (t : Option Held) → entry_of (raised_slot n t) ≡ entry_of t
entry_raised zero t = refl
entry_raised (suc n) None = refl
entry_raised (suc n) (Some x) = refl

entry_swept : (a n : ℕ) (t : Option Held) → 0 < n → entry_of (swept_slot a (raised_slot n t)) ≡ entry_of t
entry_swept zero n t h = entry_raised n t
entry_swept (suc a) zero t h = absurd (omega (arith, h))
entry_swept (suc a) (suc n) t h = ap entry_of (kept_raised n t) ∙ entry_raised (suc n) t

pub named_entry : (m new : Interning) (added ids : List ℕ) → new ≡ swept_all (raised_all m ids) added → (k : ℕ) → 0 < times k ids → entry_at new k ≡ entry_at m k
named_entry m new added ids e k h =
    ap entry_of (ap (λ (i : Interning). get i k) e ∙ swept_all_at added (raised_all m ids) k ∙ ap (swept_slot (times k added)) (raised_all_at ids m k))
    ∙ entry_swept (times k added) (times k ids) (get m k) h

pub raised_entry : (m new : Interning) (k q : ℕ) → new ≡ raised m k → entry_at new q ≡ entry_at m q
raised_entry m new k q e = ap (λ (i : Interning). entry_at i q) e ∙ ap entry_of (raised_at m k q) ∙ entry_raised (one_if (eq_by_cmp nat_cmp q k)) (get m q)

-- one id
one_named : (b : Bool) → one_if b + 0 ≡ one_if b
one_named true = refl
one_named false = refl

pub acquired_one : (old m new : Interning) (added : List ℕ) (k : ℕ) → IsGrown old m added → ((q : ℕ) → 0 < times q (k ∷ []) → IsSome (get m q)) → ((q : ℕ) → 0 < times q added → 0 < times q (k ∷ [])) → new ≡ raised m k → IsAcquired old new (k ∷ [])
acquired_one old m new added k g h i e q =
    subst (IsRaised (times q (k ∷ [])) (get old q))
    (sym (ap (λ (j : Interning). get j q) e ∙ raised_all_at (k ∷ []) m q))
    (grown_raised (times q added) (times q (k ∷ [])) (get old q) (get m q) (g q) (h q) (i q))

pub released_one : (old new : Interning) (k : ℕ) → new ≡ lowered old k → IsReleased old new (k ∷ [])
released_one old new k e q = ap (λ (j : Interning). get j q) e ∙ lowered_all_at (k ∷ []) old q

pub released_in_all : (old new : Interning) (ks : List ℕ) → new ≡ lowered_all old ks → IsReleased old new ks
released_in_all old new ks e q = ap (λ (j : Interning). get j q) e ∙ lowered_all_at ks old q
