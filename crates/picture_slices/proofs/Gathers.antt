-- Slices with one top more.
use Rattle.std.proofs.Common.{◌≡◌, ℕ, zero, suc, ◌+◌, ◌-◌, ◌<◌, ◌≤◌, Bool, true, false, List, [], ◌∷◌, ◌++◌, length, if◌then◌else◌, None, refl, sym, ap, ◌∙◌, append_assoc, append-nil, length-append, arith}
use Rattle.primitives.specs.declared.entry.Top.{Top}
use Rattle.slice_rules.specs.Homes.{Home, same_home}
use Rattle.slice_rules.specs.Runs.{Run, before_runs, runs, joined, rest_in_one}
use Rattle.slice_rules.proofs.Runs.{home_same, run_of}
use Rattle.picture_slices.specs.TopClips.{home_of_top}
use Rattle.picture_slices.specs.Gathered.{lone_run, with_top, without_home, after_run, after_runs}
use Rattle.picture_slices.specs.Slices.{top_slices}

abbrev TopRuns : Type 0
TopRuns = List (Run Top)

-- ---- with room for any number of runs

-- a run and a top after it
abbrev one_after : Run Top → Top → Bool → TopRuns
one_after r t b = if b then with_top r t ∷ [] else r ∷ lone_run t ∷ []

-- runs and a top after them
abbrev all_after : TopRuns → Top → TopRuns
all_after [] t = lone_run t ∷ []
all_after (r ∷ []) t = one_after r t (same_home r.home t.scroll)
all_after (r ∷ s ∷ rs) t = r ∷ all_after (s ∷ rs) t

abbrev before_by : Bool → Top → Run Top → TopRuns → TopRuns
before_by b u r rs = if b then run_of u.scroll (u ∷ r.members) ∷ rs else lone_run u ∷ (r ∷ rs)

between : (u t : Top) (r : Run Top) (b c : Bool) → same_home u.scroll r.home ≡ b → same_home r.home t.scroll ≡ c
    → before_runs home_of_top u (one_after r t c) ≡ all_after (before_by b u r []) t
between u t r true c e f = same_by c f
  where
    same_by : (c : Bool) → same_home r.home t.scroll ≡ c → before_runs home_of_top u (one_after r t c) ≡ one_after (run_of u.scroll (u ∷ r.members)) t (same_home u.scroll t.scroll)
    same_by true g = rw e (ap (one_after (run_of u.scroll (u ∷ r.members)) t) (sym (ap (λ (h : Home). same_home h t.scroll) (home_same u.scroll r.home e) ∙ g)))
    same_by false g = rw e (ap (one_after (run_of u.scroll (u ∷ r.members)) t) (sym (ap (λ (h : Home). same_home h t.scroll) (home_same u.scroll r.home e) ∙ g)))
between u t r false true e f = rw (e, f) refl
between u t r false false e f = rw (e, f) refl

around : (u t : Top) (r s : Run Top) (rs : TopRuns) (b : Bool) → before_by b u r (all_after (s ∷ rs) t) ≡ all_after (before_by b u r (s ∷ rs)) t
around u t r s rs true = refl
around u t r s rs false = refl

both_ends : (u t : Top) (rs : TopRuns) → before_runs home_of_top u (all_after rs t) ≡ all_after (before_runs home_of_top u rs) t
both_ends u t [] = pair (same_home u.scroll t.scroll)
  where
    pair : (b : Bool) → before_by b u (lone_run t) [] ≡ one_after (lone_run u) t b
    pair true = refl
    pair false = refl
both_ends u t (r ∷ []) = between u t r (same_home u.scroll r.home) (same_home r.home t.scroll) refl refl
both_ends u t (r ∷ s ∷ rs) = around u t r s rs (same_home u.scroll r.home)

-- one top more, after all
runs-more : (ts : List Top) (t : Top) → runs home_of_top (ts ++ t ∷ []) ≡ all_after (runs home_of_top ts) t
runs-more [] t = refl
runs-more (u ∷ ts) t = ap (before_runs home_of_top u) (runs-more ts t) ∙ both_ends u t (runs home_of_top ts)

-- ---- the rest in one

joined_one : (r : Run Top) (t : Top) (b : Bool) → joined (one_after r t b) ≡ joined (r ∷ []) ++ t ∷ []
joined_one r t true = append-nil (r.members ++ t ∷ []) ∙ ap (λ (ts : List Top). ts ++ t ∷ []) (sym (append-nil r.members))
joined_one r t false = ap (λ (ts : List Top). ts ++ t ∷ []) (sym (append-nil r.members))

joined-more : (rs : TopRuns) (t : Top) → joined (all_after rs t) ≡ joined rs ++ t ∷ []
joined-more [] t = refl
joined-more (r ∷ []) t = joined_one r t (same_home r.home t.scroll)
joined-more (r ∷ s ∷ rs) t = ap (λ (ts : List Top). r.members ++ ts) (joined-more (s ∷ rs) t) ∙ sym (append_assoc r.members (joined (s ∷ rs)) (t ∷ []))

-- what follows a run is at least one more
rest_by : (r s : Run Top) (t : Top) (b : Bool) → rest_in_one 0 (r ∷ one_after s t b) ≡ run_of None (r.members ++ joined (one_after s t b)) ∷ []
rest_by r s t true = refl
rest_by r s t false = refl

rest_after : (r s : Run Top) (rs : TopRuns) (t : Top) → rest_in_one 0 (r ∷ all_after (s ∷ rs) t) ≡ run_of None (r.members ++ joined (all_after (s ∷ rs) t)) ∷ []
rest_after r s [] t = rest_by r s t (same_home s.home t.scroll)
rest_after r s (q ∷ rs) t = refl

no_home : (ts : List Top) (t : Top) (b : Bool) → (if b then with_top (run_of None ts) t ∷ [] else with_top (without_home (run_of None ts)) t ∷ []) ≡ with_top (run_of None ts) t ∷ []
no_home ts t true = refl
no_home ts t false = refl

last_run : (r : Run Top) (t : Top) (b : Bool) → (if b then with_top r t ∷ [] else with_top (without_home r) t ∷ []) ≡ rest_in_one 0 (one_after r t b)
last_run r t true = refl
last_run r t false = ap (λ (ts : List Top). run_of None (r.members ++ ts) ∷ []) (sym refl)

rest_none : (n : ℕ) → rest_in_one {T = Top} n [] ≡ []
rest_none zero = refl
rest_none (suc n) = refl

rest_single : (n : ℕ) (r : Run Top) → rest_in_one n (r ∷ []) ≡ r ∷ []
rest_single zero r = refl
rest_single (suc n) r = ap (λ (rs : TopRuns). r ∷ rs) (rest_none n)

rest_zero-more : (rs : TopRuns) (t : Top) → after_runs 0 (rest_in_one 0 rs) t ≡ rest_in_one 0 (all_after rs t)
rest_zero-more [] t = refl
rest_zero-more (r ∷ []) t = last_run r t (same_home r.home t.scroll)
rest_zero-more (r ∷ s ∷ rs) t =
    no_home (joined (r ∷ s ∷ rs)) t (same_home None t.scroll)
    ∙ ap (λ (ts : List Top). run_of None ts ∷ []) (append_assoc r.members (joined (s ∷ rs)) (t ∷ []) ∙ ap (λ (ts : List Top). r.members ++ ts) (sym (joined-more (s ∷ rs) t)))
    ∙ sym (rest_after r s rs t)

with_rest : (n m : ℕ) (r s : Run Top) (rs : TopRuns) (t : Top) → after_runs (suc m) (r ∷ rest_in_one n (s ∷ rs)) t ≡ r ∷ after_runs m (rest_in_one n (s ∷ rs)) t
with_rest zero m r s [] t = refl
with_rest zero m r s (q ∷ rs) t = refl
with_rest (suc n) m r s rs t = refl

room_by : (n : ℕ) (r : Run Top) (t : Top) (b : Bool) → one_after r t b ≡ rest_in_one (suc n) (one_after r t b)
room_by n r t true = sym (rest_single (suc n) (with_top r t))
room_by n r t false = ap (λ (rs : TopRuns). r ∷ rs) (sym (rest_single n (lone_run t)))

rest-more : (n : ℕ) (rs : TopRuns) (t : Top) → after_runs n (rest_in_one n rs) t ≡ rest_in_one n (all_after rs t)
rest-more zero rs t = rest_zero-more rs t
rest-more (suc n) [] t = sym (rest_single (suc n) (lone_run t))
rest-more (suc n) (r ∷ []) t = ap (λ (rs : TopRuns). after_runs (suc n) (r ∷ rs) t) (rest_none n) ∙ room_by n r t (same_home r.home t.scroll)
rest-more (suc n) (r ∷ s ∷ rs) t = with_rest n n r s rs t ∙ ap (λ (qs : TopRuns). r ∷ qs) (rest-more n (s ∷ rs) t)

-- the slices of tops with one more
pub slices-more : (ts : List Top) (t : Top) → after_runs 7 (top_slices ts) t ≡ top_slices (ts ++ t ∷ [])
slices-more ts t = rest-more 7 (runs home_of_top ts) t ∙ ap (rest_in_one 7) (sym (runs-more ts t))

-- ---- by the last run

with_front : (n k : ℕ) (front : TopRuns) (r : Run Top) (t : Top) → k + length front ≡ n → after_runs n (front ++ r ∷ []) t ≡ front ++ after_run k r t
with_front n k [] r t h = ap (λ (m : ℕ). after_run m r t) (let e : n ≡ k = omega arith in e)
with_front zero k (f ∷ fs) r t h = absurd (omega arith)
with_front (suc n) k (f ∷ []) r t h = ap (λ (rs : TopRuns). f ∷ rs) (with_front n k [] r t (omega arith))
with_front (suc n) k (f ∷ g ∷ fs) r t h = ap (λ (rs : TopRuns). f ∷ rs) (with_front n k (g ∷ fs) r t (omega arith))

joins : (k : ℕ) (r : Run Top) (t : Top) → same_home r.home t.scroll ≡ true → after_run k r t ≡ with_top r t ∷ []
joins zero r t h = rw h refl
joins (suc k) r t h = rw h refl

follows : (k : ℕ) (r : Run Top) (t : Top) → 0 < k → same_home r.home t.scroll ≡ false → after_run k r t ≡ r ∷ lone_run t ∷ []
follows zero r t l h = absurd (omega arith)
follows (suc k) r t l h = rw h refl

full : (k : ℕ) (r : Run Top) (t : Top) → k ≡ 0 → same_home r.home t.scroll ≡ false → after_run k r t ≡ with_top (without_home r) t ∷ []
full zero r t l h = rw h refl
full (suc k) r t l h = absurd (omega arith)

last_of : (rs front : TopRuns) (r : Run Top) (t : Top) → rs ≡ front ++ r ∷ [] → length rs ≤ 8 → after_runs 7 rs t ≡ front ++ after_run (7 - length front) r t
last_of rs front r t e h =
    let l : length rs ≡ length front + 1 = ap length e ∙ length-append front (r ∷ []) in
    ap (λ (qs : TopRuns). after_runs 7 qs t) e ∙ with_front 7 (7 - length front) front r t (omega arith)

pub add_same : (rs front : TopRuns) (r : Run Top) (t : Top) → rs ≡ front ++ r ∷ [] → length rs ≤ 8 → same_home r.home t.scroll ≡ true → after_runs 7 rs t ≡ front ++ with_top r t ∷ []
add_same rs front r t e h s = last_of rs front r t e h ∙ ap (λ (qs : TopRuns). front ++ qs) (joins (7 - length front) r t s)

pub add_new : (rs front : TopRuns) (r : Run Top) (t : Top) → rs ≡ front ++ r ∷ [] → length rs < 8 → same_home r.home t.scroll ≡ false → after_runs 7 rs t ≡ (front ++ r ∷ []) ++ lone_run t ∷ []
add_new rs front r t e h s =
    let l : length rs ≡ length front + 1 = ap length e ∙ length-append front (r ∷ []) in
    last_of rs front r t e (omega arith) ∙ ap (λ (qs : TopRuns). front ++ qs) (follows (7 - length front) r t (omega arith) s) ∙ sym (append_assoc front (r ∷ []) (lone_run t ∷ []))

pub add_full : (rs front : TopRuns) (r : Run Top) (t : Top) → rs ≡ front ++ r ∷ [] → length rs ≤ 8 → 8 ≤ length rs → same_home r.home t.scroll ≡ false → after_runs 7 rs t ≡ front ++ with_top (without_home r) t ∷ []
add_full rs front r t e h m s =
    let l : length rs ≡ length front + 1 = ap length e ∙ length-append front (r ∷ []) in
    last_of rs front r t e h ∙ ap (λ (qs : TopRuns). front ++ qs) (full (7 - length front) r t (omega arith) s)
