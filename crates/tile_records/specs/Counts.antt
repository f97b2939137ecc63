-- How often ids are held: what holding and releasing them leaves.
use Rattle.std.specs.Prelude.{◌≡◌, ◌≢◌, ◌+◌, ◌-◌, ◌<◌, ◌≤◌, ◌==◌, nat_lt, nat_le, ℕ, zero, suc, min, List, [], ◌∷◌, ◌++◌, cond, Option, Some, None, if◌then◌else◌}
use Rattle.std.specs.Ordering.{nat_cmp, eq_by_cmp}
use Rattle.std.specs.FinMap as map
use Rattle.primitives.specs.declared.entry.Entry.{Entry}
use Rattle.tile_records.specs.declared.slots.Held.{Held}
use Rattle.tile_records.specs.Interning.{Interning, entry_at, count_at}

-- the last value of 64 bits, at which a count stays
abbrev pub last_count : ℕ
last_count = 18446744073709551615

-- how often a list names an id
abbrev pub times : ℕ → List ℕ → ℕ
times k [] = 0
times k (q ∷ qs) = cond (eq_by_cmp nat_cmp k q) 1 0 + times k qs

-- ---- one id

-- an id with another count, if it is held
abbrev pub recounted_at : Option Held → Interning → ℕ → ℕ → Interning
recounted_at None m k c = m
recounted_at (Some held) m k c = map.insert m k (record { entry = held.entry; count = c })

abbrev pub recounted : Interning → ℕ → ℕ → Interning
recounted m k c = recounted_at (map.get m k) m k c

-- held once more
abbrev pub raised : Interning → ℕ → Interning
raised m k = recounted m k (min (count_at m k + 1) last_count)

-- held once less: given up with the last time
abbrev pub lowered : Interning → ℕ → Interning
lowered m k = if nat_le last_count (count_at m k) then m else if nat_lt 1 (count_at m k) then recounted m k (count_at m k - 1) else map.remove m k

-- given up where it is held no times
abbrev pub swept : Interning → ℕ → Interning
swept m k = if count_at m k == 0 then map.remove m k else m

-- ---- many ids, one after another

abbrev pub raised_all : Interning → List ℕ → Interning
raised_all m [] = m
raised_all m (k ∷ ks) = raised_all (raised m k) ks

abbrev pub raised_records : Interning → List (List ℕ) → Interning
raised_records m [] = m
raised_records m (ks ∷ rest) = raised_records (raised_all m ks) rest

abbrev pub lowered_all : Interning → List ℕ → Interning
lowered_all m [] = m
lowered_all m (k ∷ ks) = lowered_all (lowered m k) ks

abbrev pub swept_all : Interning → List ℕ → Interning
swept_all m [] = m
swept_all m (k ∷ ks) = swept_all (swept m k) ks

abbrev pub removed_all : Interning → List ℕ → Interning
removed_all m [] = m
removed_all m (k ∷ ks) = removed_all (map.remove m k) ks

-- ---- what they leave of each id

-- held n times more: a count that comes to the last value stays there, and a new id starts at n
abbrev pub IsRaised : ℕ → Option Held → Option Held → Type 0
IsRaised zero old new = new ≡ old
IsRaised (suc n) None new = (e : Entry) × (new ≡ Some (record { entry = e; count = min (suc n) last_count }))
IsRaised (suc n) (Some held) new = new ≡ Some (record { entry = held.entry; count = min (held.count + suc n) last_count })

-- each id is held as often more as it is named, and every other is as it was
abbrev pub IsAcquired : Interning → Interning → List ℕ → Type 0
IsAcquired old new ids = (k : ℕ) → IsRaised (times k ids) (map.get old k) (map.get new k)

-- held n times less, and given up where it was held no more often: a count at the last value stays
abbrev pub lowered_slot : ℕ → Option Held → Option Held
lowered_slot zero slot = slot
lowered_slot (suc n) None = None
lowered_slot (suc n) (Some held) =
    if nat_le last_count held.count then Some held
    else if nat_lt (suc n) held.count then Some (record { entry = held.entry; count = held.count - suc n }) else None

-- each id is held as often less as it is named, and every other is as it was
abbrev pub IsReleased : Interning → Interning → List ℕ → Type 0
IsReleased old new ids = (k : ℕ) → map.get new k ≡ lowered_slot (times k ids) (map.get old k)

-- ---- what the others who hold ids may rely on

-- a count serves so many holders: one at the last value serves all
abbrev pub Suffices : Option Held → ℕ → Type 0
Suffices None n = n ≡ 0
Suffices (Some held) n = held.count ≢ last_count → n ≤ held.count

-- each id is held as often as the claims name it
abbrev pub Covers : Interning → List ℕ → Type 0
Covers m claims = (k : ℕ) → Suffices (map.get m k) (times k claims)

-- whoever gave up `from` and holds `to` left every other holder's ids as they were
pub record Moves (old new : Interning) (from to : List ℕ) : Type 0 where
  pub covers : (claims : List ℕ) → Covers old (from ++ claims) → Covers new (to ++ claims)
  pub entries : (claims : List ℕ) → Covers old (from ++ claims) → (k : ℕ) → 0 < times k claims → entry_at new k ≡ entry_at old k
