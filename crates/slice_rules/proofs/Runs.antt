-- Runs and slices of members.
use Rattle.std.proofs.Common.{◌≡◌, ◌≢◌, ℕ, zero, suc, ◌+◌, ◌≤◌, Bool, true, false, true≢false, ◌==◌, List, [], ◌∷◌, ◌++◌, length, Some, None, refl, sym, ap, ap₂, subst, ◌∙◌, arith}
use Rattle.std.specs.Prelude.{All}
use Rattle.std.proofs.lemmas.Bool.{and_parts, and_from, eqb-true, eq-eqb}
use Rattle.std.proofs.lemmas.List.{append-nil}
use Rattle.std.proofs.lemmas.List.Elements.{All-nil, All-cons, All-head, All-tail, All-weaker}
use Rattle.slice_rules.specs.Homes.{Home, same_home}
use Rattle.slice_rules.specs.Runs.{Run, before_runs, runs, joined, rest_in_one}
use Rattle.slice_rules.specs.RunLaws.{IsRun, NeighboursDiffer, RunsHaveOneHome, NeighbouringRunsDiffer, RunsHaveAll, SlicesHaveAll, SlicesAreFew, SlicesHaveMembers}

-- ---- homes

pub home_same : (g h : Home) → same_home g h ≡ true → g ≡ h
home_same None None e = refl
home_same None (Some h) e = absurd (true≢false (sym e))
home_same (Some g) None e = absurd (true≢false (sym e))
home_same (Some g) (Some h) e =
    let parts = and_parts (g.0 == h.0) (g.1 == h.1) e in
    ap₂ (λ a b. (let x : Home = Some (a, b) in x)) (eqb-true g.0 h.0 parts.0) (eqb-true g.1 h.1 parts.1)

-- a home is the same as itself
pub home_self : (h : Home) → same_home h h ≡ true
home_self None = refl
home_self (Some h) = and_from (h.0 == h.0) (h.1 == h.1) (eq-eqb h.0 h.0 refl) (eq-eqb h.1 h.1 refl)

pub home_other : (g h : Home) → same_home g h ≡ false → g ≢ h
home_other g h e same = true≢false (sym (home_self g) ∙ ap (same_home g) same ∙ e)

-- ---- runs

abbrev pub run_of : {T : Type 0} → Home → List T → Run T
run_of h ts = record { home = h; members = ts }

-- a member alone is a run
alone_is : {T : Type 0} (home : T → Home) (t : T) → IsRun home (run_of (home t) (t ∷ []))
alone_is home t = record { some = λ e. cc; of_home = All-cons (λ x. home x ≡ home t) t [] refl (All-nil (λ x. home x ≡ home t)) }

-- and one before a run of its home
longer_is : {T : Type 0} (home : T → Home) (t : T) (r : Run T) → same_home (home t) r.home ≡ true → IsRun home r → IsRun home (run_of (home t) (t ∷ r.members))
longer_is home t r e is =
    let same : home t ≡ r.home = home_same (home t) r.home e in
    record { some = λ e. cc; of_home = All-cons (λ x. home x ≡ home t) t r.members refl (subst (λ h. All (λ x. home x ≡ h) r.members) (sym same) is.of_home) }

-- one member more before runs
before_are : {T : Type 0} (home : T → Home) (t : T) (rs : List (Run T)) → All (IsRun home) rs → All (IsRun home) (before_runs home t rs)
before_are home t [] are = All-cons (IsRun home) (run_of (home t) (t ∷ [])) [] (alone_is home t) are
before_are home t (r ∷ rs) are = by_test (same_home (home t) r.home) refl
  where
    by_test : (b : Bool) → same_home (home t) r.home ≡ b → All (IsRun home) (before_runs home t (r ∷ rs))
    by_test true e = rw e (All-cons (IsRun home) (run_of (home t) (t ∷ r.members)) rs (longer_is home t r e (All-head (IsRun home) r rs are)) (All-tail (IsRun home) r rs are))
    by_test false e = rw e (All-cons (IsRun home) (run_of (home t) (t ∷ [])) (r ∷ rs) (alone_is home t) are)

pub runs_are : {T : Type 0} → RunsHaveOneHome T
runs_are home [] = All-nil (IsRun home)
runs_are home (t ∷ ts) = before_are home t (runs home ts) (runs_are home ts)

-- ---- their homes

-- a run of another home than the first of these
abbrev StartsOther : {T : Type 0} → Home → List (Run T) → Type 0
StartsOther h [] = Unit {0}
StartsOther h (r ∷ rs) = h ≢ r.home

-- the same as of two runs side by side
side_by_side : {T : Type 0} (q : Run T) (rs : List (Run T)) → StartsOther q.home rs → NeighboursDiffer rs → NeighboursDiffer (q ∷ rs)
side_by_side q [] other rest = tt
side_by_side q (r ∷ rs) other rest = (other, rest)

first_of : {T : Type 0} (q : Run T) (rs : List (Run T)) → NeighboursDiffer (q ∷ rs) → StartsOther q.home rs
first_of q [] other = tt
first_of q (r ∷ rs) other = other.0

rest_of : {T : Type 0} (q : Run T) (rs : List (Run T)) → NeighboursDiffer (q ∷ rs) → NeighboursDiffer rs
rest_of q [] other = tt
rest_of q (r ∷ rs) other = other.1

before_differ : {T : Type 0} (home : T → Home) (t : T) (rs : List (Run T)) → NeighboursDiffer rs → NeighboursDiffer (before_runs home t rs)
before_differ home t [] other = tt
before_differ {T} home t (r ∷ rs) other = by_test (same_home (home t) r.home) refl
  where
    by_test : (b : Bool) → same_home (home t) r.home ≡ b → NeighboursDiffer (before_runs home t (r ∷ rs))
    by_test true e = rw e (side_by_side (run_of (home t) (t ∷ r.members)) rs (subst (λ h. StartsOther h rs) (sym (home_same (home t) r.home e)) (first_of r rs other)) (rest_of r rs other))
    by_test false e = rw e (side_by_side (run_of (home t) (t ∷ [])) (r ∷ rs) (home_other (home t) r.home e) other)

pub runs_differ : {T : Type 0} → NeighbouringRunsDiffer T
runs_differ home [] = tt
runs_differ home (t ∷ ts) = before_differ home t (runs home ts) (runs_differ home ts)

-- ---- no member is lost

joined_by : {T : Type 0} (home : T → Home) (t : T) (r : Run T) (rs : List (Run T)) (b : Bool) → same_home (home t) r.home ≡ b → joined (before_runs home t (r ∷ rs)) ≡ t ∷ joined (r ∷ rs)
joined_by home t r rs true e = rw e refl
joined_by home t r rs false e = rw e refl

before_joined : {T : Type 0} (home : T → Home) (t : T) (rs : List (Run T)) → joined (before_runs home t rs) ≡ t ∷ joined rs
before_joined home t [] = refl
before_joined home t (r ∷ rs) = joined_by home t r rs (same_home (home t) r.home) refl

pub runs_joined : {T : Type 0} → RunsHaveAll T
runs_joined home [] = refl
runs_joined {T} home (t ∷ ts) = before_joined home t (runs home ts) ∙ ap (λ (xs : List T). t ∷ xs) (runs_joined home ts)

rest_joined : {T : Type 0} (n : ℕ) (rs : List (Run T)) → joined (rest_in_one n rs) ≡ joined rs
rest_joined zero [] = refl
rest_joined zero (r ∷ []) = refl
rest_joined zero (r ∷ q ∷ rs) = append-nil (joined (r ∷ q ∷ rs))
rest_joined (suc n) [] = refl
rest_joined {T} (suc n) (r ∷ rs) = ap (λ (ts : List T). r.members ++ ts) (rest_joined n rs)

pub slices_joined : {T : Type 0} → SlicesHaveAll T
slices_joined home ts = rest_joined 7 (runs home ts) ∙ runs_joined home ts

-- ---- slices

rest_few : {T : Type 0} (n : ℕ) (rs : List (Run T)) → length (rest_in_one n rs) ≤ n + 1
rest_few zero [] = omega arith
rest_few zero (r ∷ []) = omega arith
rest_few zero (r ∷ q ∷ rs) = omega arith
rest_few (suc n) [] = omega arith
rest_few (suc n) (r ∷ rs) = let few = rest_few n rs in omega (arith, few)

pub slices_few : {T : Type 0} → SlicesAreFew T
slices_few home ts = rest_few 7 (runs home ts)

abbrev HasMembers : {T : Type 0} → Run T → Type 0
HasMembers slice = slice.members ≢ []

some_before : {T : Type 0} (ts us : List T) → ts ≢ [] → ts ++ us ≢ []
some_before [] us some = absurd (some refl)
some_before (t ∷ ts) us some = λ e. cc

rest_some : {T : Type 0} (n : ℕ) (rs : List (Run T)) → All HasMembers rs → All HasMembers (rest_in_one n rs)
rest_some zero [] are = All-nil HasMembers
rest_some zero (r ∷ []) are = are
rest_some zero (r ∷ q ∷ rs) are =
    All-cons HasMembers (run_of None (joined (r ∷ q ∷ rs))) [] (some_before r.members (joined (q ∷ rs)) (All-head HasMembers r (q ∷ rs) are)) (All-nil HasMembers)
rest_some (suc n) [] are = All-nil HasMembers
rest_some (suc n) (r ∷ rs) are = All-cons HasMembers r (rest_in_one n rs) (All-head HasMembers r rs are) (rest_some n rs (All-tail HasMembers r rs are))

pub slices_some : {T : Type 0} → SlicesHaveMembers T
slices_some home ts = rest_some 7 (runs home ts) (All-weaker (IsRun home) HasMembers (λ r is. is.some) (runs home ts) (runs_are home ts))
