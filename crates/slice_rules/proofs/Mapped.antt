-- Slices of other members, with the same homes and clips.
use Rattle.std.proofs.Common.{◌≡◌, ℕ, zero, suc, Bool, true, false, if◌then◌else◌, List, [], ◌∷◌, ◌++◌, map, None, refl, sym, ap, ◌∙◌}
use Rattle.std.specs.Prelude.{All}
use Rattle.std.proofs.lemmas.List.{map-append}
use Rattle.std.proofs.lemmas.List.Elements.{All-head, All-tail}
use Rattle.clip_masks.specs.Coverage.{cut_by}
use Rattle.slice_rules.specs.Homes.{Home, same_home}
use Rattle.slice_rules.specs.Runs.{Run, before_runs, runs, joined, rest_in_one, mapped}
use Rattle.slice_rules.specs.RunLaws.{RunsOfMapped, SlicesOfMapped}
use Rattle.slice_rules.specs.Shared.{HomedClip, common_start, common_clips, shared_of}
use Rattle.slice_rules.specs.SharedLaws.{SharedOfMapped, ShownOfMapped}
use Rattle.slice_rules.proofs.Runs.{run_of}
use Rattle.slice_rules.proofs.Common.{common_from}

-- ---- runs

-- one member more of a home before runs
abbrev before_at : {T : Type 0} → Home → T → List (Run T) → List (Run T)
before_at h t [] = run_of h (t ∷ []) ∷ []
before_at h t (r ∷ rs) = if same_home h r.home then run_of h (t ∷ r.members) ∷ rs else run_of h (t ∷ []) ∷ (r ∷ rs)

before_is : {T : Type 0} (home : T → Home) (t : T) (rs : List (Run T)) → before_runs home t rs ≡ before_at (home t) t rs
before_is home t [] = refl
before_is home t (r ∷ rs) = refl

mapped_by : {A B : Type 0} (f : A → B) (h : Home) (t : A) (r : Run A) (rs : List (Run A)) (b : Bool) → same_home h r.home ≡ b
    → before_at h (f t) (map (mapped f) (r ∷ rs)) ≡ map (mapped f) (before_at h t (r ∷ rs))
mapped_by f h t r rs true e = rw e refl
mapped_by f h t r rs false e = rw e refl

before_mapped : {A B : Type 0} (f : A → B) (h : Home) (t : A) (rs : List (Run A)) → before_at h (f t) (map (mapped f) rs) ≡ map (mapped f) (before_at h t rs)
before_mapped f h t [] = refl
before_mapped f h t (r ∷ rs) = mapped_by f h t r rs (same_home h r.home) refl

pub runs_mapped : {A B : Type 0} → RunsOfMapped A B
runs_mapped f home home_there [] same = refl
runs_mapped {A} {B} f home home_there (t ∷ ts) same =
    let rs = runs home ts in
    ap (before_runs home_there (f t)) (runs_mapped f home home_there ts (All-tail (λ u. home_there (f u) ≡ home u) t ts same))
    ∙ before_is home_there (f t) (map (mapped f) rs)
    ∙ ap (λ (h : Home). before_at h (f t) (map (mapped f) rs)) (All-head (λ u. home_there (f u) ≡ home u) t ts same)
    ∙ before_mapped f (home t) t rs
    ∙ ap (λ (qs : List (Run A)). map (mapped f) qs) (sym (before_is home t rs))

-- ---- slices

joined_mapped : {A B : Type 0} (f : A → B) (rs : List (Run A)) → joined (map (mapped f) rs) ≡ map f (joined rs)
joined_mapped f [] = refl
joined_mapped {A} {B} f (r ∷ rs) = ap (λ (us : List B). map f r.members ++ us) (joined_mapped f rs) ∙ sym (map-append f r.members (joined rs))

rest_mapped : {A B : Type 0} (f : A → B) (n : ℕ) (rs : List (Run A)) → rest_in_one n (map (mapped f) rs) ≡ map (mapped f) (rest_in_one n rs)
rest_mapped f zero [] = refl
rest_mapped f zero (r ∷ []) = refl
rest_mapped {A} {B} f zero (r ∷ q ∷ rs) = ap (λ (us : List B). run_of None us ∷ []) (joined_mapped f (r ∷ q ∷ rs))
rest_mapped f (suc n) [] = refl
rest_mapped {A} {B} f (suc n) (r ∷ rs) = ap (λ (qs : List (Run B)). mapped f r ∷ qs) (rest_mapped f n rs)

pub slices_mapped : {A B : Type 0} → SlicesOfMapped A B
slices_mapped f home home_there ts same = ap (rest_in_one 7) (runs_mapped f home home_there ts same) ∙ rest_mapped f 7 (runs home ts)

-- ---- shared clips

from_mapped : {A B : Type 0} (f : A → B) (clips : A → List HomedClip) (clips_there : B → List HomedClip) (first : List HomedClip) (ts : List A) → All (λ t. clips_there (f t) ≡ clips t) ts
    → common_from clips_there first (map f ts) ≡ common_from clips first ts
from_mapped f clips clips_there first [] same = refl
from_mapped f clips clips_there first (t ∷ ts) same =
    ap (λ (cs : List HomedClip). common_from clips_there (common_start first cs) (map f ts)) (All-head (λ u. clips_there (f u) ≡ clips u) t ts same)
    ∙ from_mapped f clips clips_there (common_start first (clips t)) ts (All-tail (λ u. clips_there (f u) ≡ clips u) t ts same)

common_mapped : {A B : Type 0} (f : A → B) (clips : A → List HomedClip) (clips_there : B → List HomedClip) (ts : List A) → All (λ t. clips_there (f t) ≡ clips t) ts
    → common_clips clips_there (map f ts) ≡ common_clips clips ts
common_mapped f clips clips_there [] same = refl
common_mapped f clips clips_there (t ∷ ts) same =
    ap (λ (cs : List HomedClip). common_from clips_there cs (map f ts)) (All-head (λ u. clips_there (f u) ≡ clips u) t ts same)
    ∙ from_mapped f clips clips_there (clips t) ts (All-tail (λ u. clips_there (f u) ≡ clips u) t ts same)

pub shared_mapped : {A B : Type 0} → SharedOfMapped A B
shared_mapped f clips clips_there slice same = ap (shared_of slice.home) (common_mapped f clips clips_there slice.members same)

pub shown_mapped : {A B : Type 0} → ShownOfMapped A B
shown_mapped f clips clips_there view slice same = ap (λ (cs : List HomedClip). cut_by view (map (λ c. c.0) cs)) (shared_mapped f clips clips_there slice same)
