-- The keys of slices: a slice's number is how many slices of its home are before it, so no two have one key.
use Rattle.std.proofs.Common.{◌≡◌, ◌≢◌, ℕ, suc, ◌+◌, ◌≤◌, Bool, List, [], ◌∷◌, ◌++◌, length, map, cond, refl, ap, ◌∙◌, arith}
use Rattle.std.specs.Prelude.{All, AllPairs}
use Rattle.std.specs.List.{count_by, sum_by}
use Rattle.std.proofs.lemmas.List.{length-map}
use Rattle.std.proofs.lemmas.List.Sums.{sum_by-append, sum_by-cons}
use Rattle.std.proofs.lemmas.List.Elements.{All-nil, All-cons, All-weaker}
use Rattle.std.proofs.lemmas.List.Kept.{AllPairs-cons}
use Rattle.wr_geom.specs.declared.keys.SliceKey.{SliceKey}
use Rattle.slice_rules.specs.Homes.{Home, same_home}
use Rattle.slice_rules.specs.Runs.{Run, mapped}
use Rattle.slice_rules.specs.Keys.{key_after, keys_after}
use Rattle.slice_rules.specs.KeyLaws.{EachSliceHasAKey, KeysNameHomes, KeysAreDistinct, KeysOfMapped}
use Rattle.slice_rules.proofs.Runs.{home_self}

-- ---- one key for each

keys_length : (before hs : List Home) → length (keys_after before hs) ≡ length hs
keys_length before [] = refl
keys_length before (h ∷ hs) = ap (λ (n : ℕ). suc n) (keys_length (before ++ h ∷ []) hs)

pub each_key : {T : Type 0} → EachSliceHasAKey T
each_key slices = keys_length [] (map (λ r. r.home) slices) ∙ length-map slices (λ r. r.home)

keys_homes : (before hs : List Home) → map (λ (k : SliceKey). k.scroll) (keys_after before hs) ≡ hs
keys_homes before [] = refl
keys_homes before (h ∷ hs) = ap (λ (gs : List Home). h ∷ gs) (keys_homes (before ++ h ∷ []) hs)

pub key_homes : {T : Type 0} → KeysNameHomes T
key_homes slices = keys_homes [] (map (λ r. r.home) slices)

-- ---- no two are the same

-- how many of some homes are this one
abbrev times : Home → List Home → ℕ
times home hs = count_by (λ h. same_home h home) hs

-- one home more
times_more : (home h : Home) (before : List Home) → times home (before ++ h ∷ []) ≡ times home before + cond (same_home h home) 1 0
times_more home h before =
    let count : Home → ℕ = λ g. cond (same_home g home) 1 0 in
    let one : sum_by count (h ∷ []) ≡ count h + 0 = sum_by-cons count h [] in
    sum_by-append count before (h ∷ []) ∙ ap (λ (n : ℕ). times home before + n) (omega (arith, one))

times_self : (home : Home) (before : List Home) → times home (before ++ home ∷ []) ≡ times home before + 1
times_self home before = times_more home home before ∙ ap (λ (b : Bool). times home before + cond b 1 0) (home_self home)

-- a key of which at most that many are before it
abbrev IsNumbered : List Home → SliceKey → Type 0
IsNumbered before k = times k.scroll before ≤ k.nth

numbered_before : (before : List Home) (h : Home) (k : SliceKey) → IsNumbered (before ++ h ∷ []) k → IsNumbered before k
numbered_before before h k le = let e = times_more k.scroll h before in omega (arith, e, le)

keys_numbered : (before hs : List Home) → All (IsNumbered before) (keys_after before hs)
keys_numbered before [] = All-nil (IsNumbered before)
keys_numbered before (h ∷ hs) =
    let next = before ++ h ∷ [] in
    let le : times h before ≤ times h before = omega arith in
    All-cons (IsNumbered before) (key_after before h) (keys_after next hs) le (All-weaker (IsNumbered next) (IsNumbered before) (numbered_before before h) (keys_after next hs) (keys_numbered next hs))

differs : (before : List Home) (h : Home) (k : SliceKey) → IsNumbered (before ++ h ∷ []) k → key_after before h ≢ k
differs before h k le e =
    let number : times h before ≡ k.nth = ap (λ (j : SliceKey). j.nth) e in
    let same : times h (before ++ h ∷ []) ≡ times k.scroll (before ++ h ∷ []) = ap (λ (j : SliceKey). times j.scroll (before ++ h ∷ [])) e in
    let more = times_self h before in
    omega (arith, number, same, more, le)

keys_differ : (before hs : List Home) → AllPairs (λ k l. k ≢ l) (keys_after before hs)
keys_differ before [] = λ i j d lt short. absurd (omega (arith, lt, short))
keys_differ before (h ∷ hs) =
    let next = before ++ h ∷ [] in
    AllPairs-cons (λ k l. k ≢ l) (key_after before h) (keys_after next hs)
    (All-weaker (IsNumbered next) (λ k. key_after before h ≢ k) (differs before h) (keys_after next hs) (keys_numbered next hs)) (keys_differ next hs)

pub keys_distinct : {T : Type 0} → KeysAreDistinct T
keys_distinct slices = keys_differ [] (map (λ r. r.home) slices)

-- ---- of other members

mapped_homes : {A B : Type 0} (f : A → B) (rs : List (Run A)) → map (λ (r : Run B). r.home) (map (mapped f) rs) ≡ map (λ (r : Run A). r.home) rs
mapped_homes f [] = refl
mapped_homes f (r ∷ rs) = ap (λ (hs : List Home). r.home ∷ hs) (mapped_homes f rs)

pub mapped_keys : {A B : Type 0} → KeysOfMapped A B
mapped_keys f slices = ap (keys_after []) (mapped_homes f slices)
