-- The clips that all members of a slice share.
use Rattle.std.proofs.Common.{◌≡◌, ◌≢◌, Bool, true, false, not, if◌then◌else◌, List, [], ◌∷◌, ◌++◌, drop, Some, None, refl, sym, ap, ap₂, subst, ◌∙◌, true≢false}
use Rattle.std.specs.Prelude.{All, take_while, fold}
use Rattle.std.specs.List.{prefix_len}
use Rattle.std.proofs.lemmas.Bool.{and_parts, and_from, not-true}
use Rattle.std.proofs.lemmas.List.{append_assoc, append-nil, take-append-drop}
use Rattle.std.proofs.lemmas.List.Elements.{All-nil, All-cons, All-head, All-tail, All-weaker}
use Rattle.std.proofs.lemmas.List.Sums.{take_while-cons}
use Rattle.clip_masks.specs.Clips.{is_rect_clip, same_clip}
use Rattle.clip_masks.specs.declared.clip.Clip.{Clip}
use Rattle.clip_masks.proofs.Clips.{rect_clip-true, rect_clip-of, same_clip-true, same_clip-self}
use Rattle.slice_rules.specs.Homes.{Home, same_home}
use Rattle.slice_rules.specs.Shared.{HomedClip, same_homed, common_start, common_clips, may_share, shared_of}
use Rattle.slice_rules.specs.SharedLaws.{IsClipPrefix, BeginsEach, IsSharable, SharedBeginEach, SharedAreSharable, SharedAreMost, HomelessShareNone}
use Rattle.slice_rules.proofs.Runs.{home_same, home_self}

-- ---- prefixes

none_begins : (cs : List HomedClip) → IsClipPrefix [] cs
none_begins cs = (cs, refl)

more_begins : (c d : HomedClip) (cs ds : List HomedClip) → d ≡ c → IsClipPrefix cs ds → IsClipPrefix (c ∷ cs) (d ∷ ds)
more_begins c d cs ds e p = (p.0, ap₂ (λ (x : HomedClip) (xs : List HomedClip). x ∷ xs) e p.1)

begins_through : (bs cs ds : List HomedClip) → IsClipPrefix bs cs → IsClipPrefix cs ds → IsClipPrefix bs ds
begins_through bs cs ds p q = (p.0 ++ q.0, q.1 ∙ ap (λ (xs : List HomedClip). xs ++ q.0) p.1 ∙ append_assoc bs p.0 q.0)

begins_each_through : {T : Type 0} (clips : T → List HomedClip) (bs cs : List HomedClip) (ts : List T) → IsClipPrefix bs cs → BeginsEach clips cs ts → BeginsEach clips bs ts
begins_each_through clips bs cs ts p all = All-weaker (λ t. IsClipPrefix cs (clips t)) (λ t. IsClipPrefix bs (clips t)) (λ t q. begins_through bs cs (clips t) p q) ts all

-- ---- clips that are the same

homed-true : (c d : HomedClip) → same_homed c d ≡ true → c ≡ d
homed-true c d h =
    let k = and_parts (same_clip c.0 d.0) (same_home c.1 d.1) h in
    ap₂ (λ (x : Clip) (y : Home). (let p : HomedClip = (x, y) in p)) (same_clip-true c.0 d.0 k.0) (home_same c.1 d.1 k.1)

homed-self : (c : HomedClip) → same_homed c c ≡ true
homed-self c = and_from (same_clip c.0 c.0) (same_home c.1 c.1) (same_clip-self c.0) (home_self c.1)

-- ---- the common beginning of two lists

common_first : (cs ds : List HomedClip) → IsClipPrefix (common_start cs ds) cs
common_first [] ds = none_begins []
common_first (c ∷ cs) [] = none_begins (c ∷ cs)
common_first (c ∷ cs) (d ∷ ds) = by_test (same_homed c d) (common_first cs ds)
  where
    by_test : (b : Bool) → IsClipPrefix (common_start cs ds) cs → IsClipPrefix (if b then c ∷ common_start cs ds else []) (c ∷ cs)
    by_test true rest = more_begins c c (common_start cs ds) cs refl rest
    by_test false rest = none_begins (c ∷ cs)

common_second : (cs ds : List HomedClip) → IsClipPrefix (common_start cs ds) ds
common_second [] ds = none_begins ds
common_second (c ∷ cs) [] = none_begins []
common_second (c ∷ cs) (d ∷ ds) = by_test (same_homed c d) refl (common_second cs ds)
  where
    by_test : (b : Bool) → same_homed c d ≡ b → IsClipPrefix (common_start cs ds) ds → IsClipPrefix (if b then c ∷ common_start cs ds else []) (d ∷ ds)
    by_test true e rest = more_begins c d (common_start cs ds) ds (sym (homed-true c d e)) rest
    by_test false e rest = none_begins (d ∷ ds)

-- it begins with whatever begins both
common_most : (bs cs ds : List HomedClip) → IsClipPrefix bs cs → IsClipPrefix bs ds → IsClipPrefix bs (common_start cs ds)
common_most [] cs ds p q = none_begins (common_start cs ds)
common_most (b ∷ bs) [] ds p q = absurd (let e : [] ≡ b ∷ (bs ++ p.0) = p.1 in cc)
common_most (b ∷ bs) (c ∷ cs) [] p q = absurd (let e : [] ≡ b ∷ (bs ++ q.0) = q.1 in cc)
common_most (b ∷ bs) (c ∷ cs) (d ∷ ds) p q =
    let e : c ∷ cs ≡ b ∷ (bs ++ p.0) = p.1 in
    let f : d ∷ ds ≡ b ∷ (bs ++ q.0) = q.1 in
    let c_is : c ≡ b = cc in
    let d_is : d ≡ b = cc in
    let cs_are : cs ≡ bs ++ p.0 = cc in
    let ds_are : ds ≡ bs ++ q.0 = cc in
    by_test (same_homed c d) (ap₂ same_homed c_is d_is ∙ homed-self b) c_is (common_most bs cs ds (p.0, cs_are) (q.0, ds_are))
  where
    by_test : (t : Bool) → t ≡ true → c ≡ b → IsClipPrefix bs (common_start cs ds) → IsClipPrefix (b ∷ bs) (if t then c ∷ common_start cs ds else [])
    by_test true e same rest = more_begins b c bs (common_start cs ds) same rest
    by_test false e same rest = absurd (true≢false (sym e))

-- ---- the common beginning of the clips of members

-- of clips, what begins those of each of these members too
abbrev pub common_from : {T : Type 0} → (T → List HomedClip) → List HomedClip → List T → List HomedClip
common_from clips first ts = fold (λ common u. common_start common (clips u)) first ts

from_first : {T : Type 0} (clips : T → List HomedClip) (first : List HomedClip) (ts : List T) → IsClipPrefix (common_from clips first ts) first
from_first clips first [] = ([], sym (append-nil first))
from_first clips first (t ∷ ts) =
    let next = common_start first (clips t) in
    begins_through (common_from clips next ts) next first (from_first clips next ts) (common_first first (clips t))

from_each : {T : Type 0} (clips : T → List HomedClip) (first : List HomedClip) (ts : List T) → BeginsEach clips (common_from clips first ts) ts
from_each clips first [] = All-nil (λ t. IsClipPrefix first (clips t))
from_each clips first (t ∷ ts) =
    let next = common_start first (clips t) in
    let all = common_from clips next ts in
    All-cons (λ u. IsClipPrefix all (clips u)) t ts (begins_through all next (clips t) (from_first clips next ts) (common_second first (clips t))) (from_each clips next ts)

from_most : {T : Type 0} (clips : T → List HomedClip) (bs first : List HomedClip) (ts : List T) → IsClipPrefix bs first → BeginsEach clips bs ts → IsClipPrefix bs (common_from clips first ts)
from_most clips bs first [] p all = p
from_most clips bs first (t ∷ ts) p all =
    let its = All-head (λ u. IsClipPrefix bs (clips u)) t ts all in
    from_most clips bs (common_start first (clips t)) ts (common_most bs first (clips t) p its) (All-tail (λ u. IsClipPrefix bs (clips u)) t ts all)

common_each : {T : Type 0} (clips : T → List HomedClip) (ts : List T) → BeginsEach clips (common_clips clips ts) ts
common_each clips [] = All-nil (λ t. IsClipPrefix [] (clips t))
common_each clips (t ∷ ts) = All-cons (λ u. IsClipPrefix (common_clips clips (t ∷ ts)) (clips u)) t ts (from_first clips (clips t) ts) (from_each clips (clips t) ts)

common_is_most : {T : Type 0} (clips : T → List HomedClip) (bs : List HomedClip) (ts : List T) → ts ≢ [] → BeginsEach clips bs ts → IsClipPrefix bs (common_clips clips ts)
common_is_most clips bs [] some all = absurd (some refl)
common_is_most clips bs (t ∷ ts) some all =
    from_most clips bs (clips t) ts (All-head (λ u. IsClipPrefix bs (clips u)) t ts all) (All-tail (λ u. IsClipPrefix bs (clips u)) t ts all)

-- ---- those that a slice may share

while_begins : (test : HomedClip → Bool) (cs : List HomedClip) → IsClipPrefix (take_while test cs) cs
while_begins test cs = (drop (prefix_len test cs) cs, sym (take-append-drop (prefix_len test cs) cs))

may_share-true : (home : Home) (c : HomedClip) → may_share home c ≡ true → IsSharable home c
may_share-true home c h =
    let k = and_parts (is_rect_clip c.0) (not (same_home c.1 home)) h in
    record { rect = rect_clip-true c.0 k.0; elsewhere = λ same. true≢false (sym (ap (λ (g : Home). same_home g home) same ∙ home_self home) ∙ not-true (same_home c.1 home) k.1) }

may_share-of : (home : Home) (c : HomedClip) → IsSharable home c → may_share home c ≡ true
may_share-of home c is = and_from (is_rect_clip c.0) (not (same_home c.1 home)) (rect_clip-of c.0 is.rect) (by_test (same_home c.1 home) refl)
  where
    by_test : (b : Bool) → same_home c.1 home ≡ b → not b ≡ true
    by_test true e = absurd (is.elsewhere (home_same c.1 home e))
    by_test false e = refl

while_sharable : (home : Home) (cs : List HomedClip) → All (IsSharable home) (take_while (may_share home) cs)
while_sharable home [] = All-nil (IsSharable home)
while_sharable home (c ∷ cs) = subst (All (IsSharable home)) (sym (take_while-cons (may_share home) c cs)) (by_test (may_share home c) refl (while_sharable home cs))
  where
    by_test : (b : Bool) → may_share home c ≡ b → All (IsSharable home) (take_while (may_share home) cs) → All (IsSharable home) (if b then c ∷ take_while (may_share home) cs else [])
    by_test true e rest = All-cons (IsSharable home) c (take_while (may_share home) cs) (may_share-true home c e) rest
    by_test false e rest = All-nil (IsSharable home)

while_most : (home : Home) (bs cs : List HomedClip) → IsClipPrefix bs cs → All (IsSharable home) bs → IsClipPrefix bs (take_while (may_share home) cs)
while_most home [] cs p all = none_begins (take_while (may_share home) cs)
while_most home (b ∷ bs) [] p all = absurd (let e : [] ≡ b ∷ (bs ++ p.0) = p.1 in cc)
while_most home (b ∷ bs) (c ∷ cs) p all =
    let e : c ∷ cs ≡ b ∷ (bs ++ p.0) = p.1 in
    let c_is : c ≡ b = cc in
    let cs_are : cs ≡ bs ++ p.0 = cc in
    let may : may_share home c ≡ true = ap (may_share home) c_is ∙ may_share-of home b (All-head (IsSharable home) b bs all) in
    subst (IsClipPrefix (b ∷ bs)) (sym (take_while-cons (may_share home) c cs)) (by_test (may_share home c) may c_is (while_most home bs cs (p.0, cs_are) (All-tail (IsSharable home) b bs all)))
  where
    by_test : (t : Bool) → t ≡ true → c ≡ b → IsClipPrefix bs (take_while (may_share home) cs) → IsClipPrefix (b ∷ bs) (if t then c ∷ take_while (may_share home) cs else [])
    by_test true e same rest = more_begins b c bs (take_while (may_share home) cs) same rest
    by_test false e same rest = absurd (true≢false (sym e))

-- ---- the clips that a slice shares

shared_begins : (home : Home) (cs : List HomedClip) → IsClipPrefix (shared_of home cs) cs
shared_begins None cs = none_begins cs
shared_begins (Some h) cs = while_begins (may_share (Some h)) cs

pub shared_begin_each : {T : Type 0} → SharedBeginEach T
shared_begin_each clips slice =
    let common = common_clips clips slice.members in
    begins_each_through clips (shared_of slice.home common) common slice.members (shared_begins slice.home common) (common_each clips slice.members)

of_sharable : (home : Home) (cs : List HomedClip) → All (IsSharable home) (shared_of home cs)
of_sharable None cs = All-nil (IsSharable None)
of_sharable (Some h) cs = while_sharable (Some h) cs

pub shared_sharable : {T : Type 0} → SharedAreSharable T
shared_sharable clips slice = of_sharable slice.home (common_clips clips slice.members)

of_most : (home : Home) (bs cs : List HomedClip) → home ≢ None → IsClipPrefix bs cs → All (IsSharable home) bs → IsClipPrefix bs (shared_of home cs)
of_most None bs cs some p all = absurd (some refl)
of_most (Some h) bs cs some p all = while_most (Some h) bs cs p all

pub shared_most : {T : Type 0} → SharedAreMost T
shared_most clips slice first homed some each all =
    of_most slice.home first (common_clips clips slice.members) homed (common_is_most clips first slice.members some each) all

pub homeless_none : {T : Type 0} → HomelessShareNone T
homeless_none clips slice e = ap (λ (home : Home). shared_of home (common_clips clips slice.members)) e
