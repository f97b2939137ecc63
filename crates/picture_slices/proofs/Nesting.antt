-- Slices nest no deeper than the entries of their tops, and have no more of them.
use Rattle.std.proofs.Common.{◌≡◌, ℕ, suc, ◌+◌, ◌≤◌, Bool, true, false, ◌&&◌, List, [], ◌∷◌, ◌++◌, length, map, refl, sym, ap, ap₂, subst, ◌∙◌, arith}
use Rattle.std.specs.Prelude.{All}
use Rattle.std.proofs.lemmas.List.{append_assoc}
use Rattle.std.proofs.lemmas.List.Elements.{All-nil, All-cons, All-head, All-tail}
use Rattle.wr_geom.specs.Bounds.{Bounds}
use Rattle.wr_geom.specs.declared.keys.SliceKey.{SliceKey}
use Rattle.wr_geom.specs.declared.point.Point.{Point}
use Rattle.primitives.specs.declared.entry.Entry.{Entry}
use Rattle.primitives.specs.declared.entry.Top.{Top}
use Rattle.primitives.specs.Moves.{shifted_entry, shifted_entries}
use Rattle.primitives.specs.Stacks.{is_shallow}
use Rattle.primitives.specs.Tops.{IsTop, AreTops, top_entries}
use Rattle.primitives.proofs.Nesting.{rows_leave_room, shifted_is_shallow, fewer_clips_are_shallow}
use Rattle.slice_rules.specs.Keys.{slice_keys}
use Rattle.slice_rules.specs.Runs.{Run, joined}
use Rattle.slice_rules.specs.Shared.{shared_clips}
use Rattle.slice_rules.proofs.Runs.{slices_joined}
use Rattle.picture_slices.specs.TopClips.{home_of_top, clips_of_top}
use Rattle.picture_slices.specs.Slices.{first_without, entries_without, origin_of, back_from, slice_entries, slice_of, keyed_slices, top_slices}
use Rattle.picture_slices.specs.Laws.{SlicesAreShallow, SlicesHaveFewEntries}
use Rattle.picture_slices.specs.declared.slice.Slice.{Slice}
use Rattle.picture_slices.proofs.Fitting.{row_append, whole_row, whole_without}
use Rattle.picture_slices.proofs.Keyed.{each_slice}
use Rattle.primitives.specs.Stacks.{IsRow}

-- ---- a run

first_shallow : (room n : ℕ) (es : List Entry) → is_shallow room (first_without n es) ≡ is_shallow room es
first_shallow room n [] = refl
first_shallow room n (e ∷ es) = fewer_clips_are_shallow room n e es

without_shallow : (room n : ℕ) (ts : List Top) → AreTops ts → is_shallow room (entries_without n ts) ≡ is_shallow room (top_entries ts)
without_shallow room n [] are = refl
without_shallow room n (t ∷ ts) are =
    let is = All-head IsTop t ts are in
    rows_leave_room room (first_without n t.entries) (entries_without n ts) (whole_without n t.entries is.whole)
    ∙ ap₂ (λ (a b : Bool). a && b) (first_shallow room n t.entries) (without_shallow room n ts (All-tail IsTop t ts are))
    ∙ sym (rows_leave_room room t.entries (top_entries ts) (whole_row t.entries is.whole))

run_shallow : (room : ℕ) (r : Run Top) → AreTops r.members → is_shallow room (slice_entries r) ≡ is_shallow room (top_entries r.members)
run_shallow room r are =
    let n = length (shared_clips clips_of_top r) in
    shifted_is_shallow room (entries_without n r.members) (back_from (origin_of r.home r.members)) ∙ without_shallow room n r.members are

length-both : {A : Type 0} (xs ys : List A) → length (xs ++ ys) ≡ length xs + length ys
length-both [] ys = omega arith
length-both (x ∷ xs) ys = omega (arith, length-both xs ys)

first_count : (n : ℕ) (es : List Entry) → length (first_without n es) ≡ length es
first_count n [] = refl
first_count n (e ∷ es) = refl

without_count : (n : ℕ) (ts : List Top) → length (entries_without n ts) ≡ length (top_entries ts)
without_count n [] = refl
without_count n (t ∷ ts) =
    length-both (first_without n t.entries) (entries_without n ts)
    ∙ ap₂ (λ (a b : ℕ). a + b) (first_count n t.entries) (without_count n ts)
    ∙ sym (length-both t.entries (top_entries ts))

moved_count : (es : List Entry) (by : Point) → length (shifted_entries es by) ≡ length es
moved_count [] by = refl
moved_count (e ∷ es) by = ap suc (moved_count es by)

run_count : (r : Run Top) → length (slice_entries r) ≡ length (top_entries r.members)
run_count r =
    let n = length (shared_clips clips_of_top r) in
    moved_count (entries_without n r.members) (back_from (origin_of r.home r.members)) ∙ without_count n r.members

-- ---- all runs

entries_both : (ts us : List Top) → top_entries (ts ++ us) ≡ top_entries ts ++ top_entries us
entries_both [] us = refl
entries_both (t ∷ ts) us = ap (λ (es : List Entry). t.entries ++ es) (entries_both ts us) ∙ sym (append_assoc t.entries (top_entries ts) (top_entries us))

tops_row : (ts : List Top) → AreTops ts → IsRow (top_entries ts)
tops_row [] are = IsRow.none
tops_row (t ∷ ts) are = row_append t.entries (top_entries ts) (whole_row t.entries (All-head IsTop t ts are).whole) (tops_row ts (All-tail IsTop t ts are))

and_first : (a b : Bool) → (a && b) ≡ true → a ≡ true
and_first true b e = refl
and_first false b e = e

and_second : (a b : Bool) → (a && b) ≡ true → b ≡ true
and_second true b e = e
and_second false true e = refl
and_second false false e = e

abbrev IsShallowSlice : ℕ → Slice → Type 0
IsShallowSlice room s = is_shallow room s.entries ≡ true

keyed_shallow : (room : ℕ) (view : Bounds) (ks : List SliceKey) (rs : List (Run Top)) → All (λ (r : Run Top). AreTops r.members) rs → is_shallow room (top_entries (joined rs)) ≡ true
    → All (IsShallowSlice room) (keyed_slices view ks rs)
keyed_shallow room view [] rs are h = All-nil (IsShallowSlice room)
keyed_shallow room view (k ∷ ks) [] are h = All-nil (IsShallowSlice room)
keyed_shallow room view (k ∷ ks) (r ∷ rs) are h =
    let its = All-head (λ (q : Run Top). AreTops q.members) r rs are in
    let rest = All-tail (λ (q : Run Top). AreTops q.members) r rs are in
    let own = is_shallow room (top_entries r.members) in
    let later = is_shallow room (top_entries (joined rs)) in
    let both : (own && later) ≡ true =
    sym (ap (is_shallow room) (entries_both r.members (joined rs)) ∙ rows_leave_room room (top_entries r.members) (top_entries (joined rs)) (tops_row r.members its)) ∙ h in
    All-cons (IsShallowSlice room) (slice_of view k r) (keyed_slices view ks rs) (run_shallow room r its ∙ and_first own later both)
    (keyed_shallow room view ks rs rest (and_second own later both))

pub slices_are_shallow : SlicesAreShallow
slices_are_shallow view tops room are h =
    keyed_shallow room view (slice_keys (top_slices tops)) (top_slices tops) (each_slice IsTop tops are)
    (ap (λ (ts : List Top). is_shallow room (top_entries ts)) (slices_joined home_of_top tops) ∙ h)

abbrev HasAtMost : ℕ → Slice → Type 0
HasAtMost n s = length s.entries ≤ n

keyed_few : (n : ℕ) (view : Bounds) (ks : List SliceKey) (rs : List (Run Top)) → length (top_entries (joined rs)) ≤ n → All (HasAtMost n) (keyed_slices view ks rs)
keyed_few n view [] rs h = All-nil (HasAtMost n)
keyed_few n view (k ∷ ks) [] h = All-nil (HasAtMost n)
keyed_few n view (k ∷ ks) (r ∷ rs) h =
    let sum : length (top_entries (joined (r ∷ rs))) ≡ length (top_entries r.members) + length (top_entries (joined rs)) =
    ap (λ (es : List Entry). length es) (entries_both r.members (joined rs)) ∙ length-both (top_entries r.members) (top_entries (joined rs)) in
    All-cons (HasAtMost n) (slice_of view k r) (keyed_slices view ks rs) (omega (arith, h, sum, run_count r)) (keyed_few n view ks rs (omega (arith, h, sum)))

pub slices_have_few_entries : SlicesHaveFewEntries
slices_have_few_entries view tops =
    keyed_few (length (top_entries tops)) view (slice_keys (top_slices tops)) (top_slices tops)
    (omega (arith, ap (λ (ts : List Top). length (top_entries ts)) (slices_joined home_of_top tops)))
