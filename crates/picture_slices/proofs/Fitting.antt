-- Slices are good to draw.
use Rattle.std.proofs.Common.{◌≢◌, ℕ, ◌^◌, pos, List, [], ◌∷◌, ◌++◌, length, map, Some, None, sym, subst, arith}
use Rattle.std.specs.Prelude.{All, AllPairs}
use Rattle.std.proofs.lemmas.Int.{ints}
use Rattle.std.proofs.lemmas.List.{append_assoc, map-append}
use Rattle.std.proofs.lemmas.List.Elements.{All-nil, All-cons, All-head, All-tail, All-append, All-map}
use Rattle.wr_geom.specs.Bounds.{Bounds}
use Rattle.wr_geom.specs.declared.keys.SliceKey.{SliceKey}
use Rattle.wr_geom.specs.declared.point.Point.{Point}
use Rattle.clip_masks.proofs.Chains.{cut_inside}
use Rattle.primitives.specs.declared.entry.Entry.{Entry}
use Rattle.primitives.specs.declared.entry.Entry.TheVariants as entry
use Rattle.primitives.specs.declared.entry.Top.{Top}
use Rattle.primitives.specs.Clipping.{without_clips}
use Rattle.primitives.specs.Facts.{IsEntry}
use Rattle.primitives.specs.Moves.{shifted_entry, shifted_entries, shifted_primitive}
use Rattle.primitives.specs.Stacks.{IsRow}
use Rattle.primitives.specs.Stacks as row
use Rattle.primitives.proofs.Runs.{rows_are_balanced}
use Rattle.slice_rules.specs.Homes.{Home}
use Rattle.slice_rules.specs.Runs.{Run}
use Rattle.slice_rules.specs.Keys.{slice_keys}
use Rattle.slice_rules.specs.Shared.{HomedClip, shared_clips}
use Rattle.slice_rules.proofs.Keys.{keys_distinct}
use Rattle.slice_rules.proofs.Runs.{slices_few}
use Rattle.picture_slices.specs.TopClips.{home_of_top, clips_of_top}
use Rattle.picture_slices.specs.Facts.{HaveGoodEntries, IsSlice}
use Rattle.primitives.specs.Tops.{IsWhole, IsWithinPixels, IsSliceOrigin, IsCloseEntry, IsTop, AreTops}
use Rattle.primitives.specs.Tops as whole
use Rattle.picture_slices.specs.Slices.{first_without, entries_without, origin_of, back_from, slice_of, keyed_slices, top_slices}
use Rattle.picture_slices.specs.Laws.{SlicesAreGood}
use Rattle.picture_slices.proofs.Closeness.{close_without, good_without, good_moved, back_is_origin}
use Rattle.picture_slices.proofs.Keyed.{keys_of_slices, slices-length, each_slice}

-- ---- rows

pub row_append : (es fs : List Entry) → IsRow es → IsRow fs → IsRow (es ++ fs)
row_append _ fs row.none other = other
row_append _ fs (row.primitive p es h) other = row.primitive p (es ++ fs) (row_append es fs h other)
row_append _ fs (row.group o m clips es gs h i) other =
    subst (λ (xs : List Entry). IsRow (entry.Push o m clips ∷ xs)) (sym (append_assoc es (entry.Pop ∷ gs) fs)) (row.group o m clips es (gs ++ fs) h (row_append gs fs i other))

pub whole_row : (es : List Entry) → IsWhole es → IsRow es
whole_row _ (whole.primitive p) = row.primitive p [] row.none
whole_row _ (whole.group o m clips es h) = row.group o m clips es [] h row.none

pub whole_without : (n : ℕ) (es : List Entry) → IsWhole es → IsRow (first_without n es)
whole_without n _ (whole.primitive p) = row.primitive _ [] row.none
whole_without n _ (whole.group o m clips es h) = row.group o m _ es [] h row.none

tops_row : (n : ℕ) (ts : List Top) → AreTops ts → IsRow (entries_without n ts)
tops_row n [] are = row.none
tops_row n (t ∷ ts) are =
    row_append (first_without n t.entries) (entries_without n ts) (whole_without n t.entries (All-head IsTop t ts are).whole) (tops_row n ts (All-tail IsTop t ts are))

row_moved : (by : Point) (es : List Entry) → IsRow es → IsRow (shifted_entries es by)
row_moved by _ row.none = row.none
row_moved by _ (row.primitive p es h) = row.primitive (shifted_primitive p by) (shifted_entries es by) (row_moved by es h)
row_moved by _ (row.group o m clips es fs h i) =
    subst (λ (xs : List Entry). IsRow (shifted_entry (entry.Push o m clips) by ∷ xs)) (sym (map-append (λ (e : Entry). shifted_entry e by) es (entry.Pop ∷ fs)))
    (row.group o m _ (shifted_entries es by) (shifted_entries fs by) (row_moved by es h) (row_moved by fs i))

-- ---- good entries

-- good and close
abbrev IsSound : Entry → Type 0
IsSound e = IsEntry e × IsCloseEntry e

first_sound : (n : ℕ) (es : List Entry) → All IsSound es → All IsSound (first_without n es)
first_sound n [] all = all
first_sound n (e ∷ es) all =
    let its = All-head IsSound e es all in
    All-cons IsSound (without_clips e n) es (good_without e n its.0, close_without e n its.1) (All-tail IsSound e es all)

tops_sound : (n : ℕ) (ts : List Top) → AreTops ts → HaveGoodEntries ts → All IsSound (entries_without n ts)
tops_sound n [] are good = All-nil IsSound
tops_sound n (t ∷ ts) are good =
    let close = (All-head IsTop t ts are).close in
    let its = All-head (λ (u : Top). All IsEntry u.entries) t ts good in
    All-append IsSound (first_without n t.entries) (entries_without n ts) (first_sound n t.entries (λ k d lt. (its k d lt, close k d lt)))
    (tops_sound n ts (All-tail IsTop t ts are) (All-tail (λ (u : Top). All IsEntry u.entries) t ts good))

moved_good : (by : Point) (es : List Entry) → IsSliceOrigin by → All IsSound es → All IsEntry (shifted_entries es by)
moved_good by es near all = All-map IsEntry (λ (e : Entry). shifted_entry e by) es (λ k d lt. good_moved _ by (all k d lt).0 (all k d lt).1 near)

-- ---- slices

nowhere_far : IsWithinPixels (2 ^ 27) (pos 0)
nowhere_far = record { low = omega (arith, ints); high = omega (arith, ints) }

pub origin_near : (home : Home) (ts : List Top) → AreTops ts → IsSliceOrigin (origin_of home ts)
origin_near None [] are = record { across = nowhere_far; down = nowhere_far }
origin_near None (t ∷ ts) are = record { across = nowhere_far; down = nowhere_far }
origin_near (Some h) [] are = record { across = nowhere_far; down = nowhere_far }
origin_near (Some h) (t ∷ ts) are = (All-head IsTop t ts are).origin

slice_good : (view : Bounds) (key : SliceKey) (r : Run Top) → AreTops r.members → HaveGoodEntries r.members → IsSlice view (slice_of view key r)
slice_good view key r are good =
    let n = length (shared_clips clips_of_top r) in
    let o = origin_of r.home r.members in
    let by = back_from o in
    let near = origin_near r.home r.members are in
    let moved = row_moved by (entries_without n r.members) (tops_row n r.members are) in
    record {
      entries = moved_good by (entries_without n r.members) (back_is_origin o near) (tops_sound n r.members are good);
      row = moved;
      balanced = rows_are_balanced (shifted_entries (entries_without n r.members) by) moved;
      origin = near;
      shown = cut_inside view (map (λ (c : HomedClip). c.0) (shared_clips clips_of_top r));
    }

keyed_good : (view : Bounds) (ks : List SliceKey) (rs : List (Run Top)) → All (λ (r : Run Top). AreTops r.members) rs → All (λ (r : Run Top). HaveGoodEntries r.members) rs → All (IsSlice view) (keyed_slices view ks rs)
keyed_good view [] rs are good = All-nil (IsSlice view)
keyed_good view (k ∷ ks) [] are good = All-nil (IsSlice view)
keyed_good view (k ∷ ks) (r ∷ rs) are good =
    All-cons (IsSlice view) (slice_of view k r) (keyed_slices view ks rs)
    (slice_good view k r (All-head (λ (q : Run Top). AreTops q.members) r rs are) (All-head (λ (q : Run Top). HaveGoodEntries q.members) r rs good))
    (keyed_good view ks rs (All-tail (λ (q : Run Top). AreTops q.members) r rs are) (All-tail (λ (q : Run Top). HaveGoodEntries q.members) r rs good))

pub slices_good : SlicesAreGood
slices_good view tops are good =
    let rs = top_slices tops in
    let few = slices_few home_of_top tops in
    let count = slices-length view rs in
    record {
      each = keyed_good view (slice_keys rs) rs (each_slice IsTop tops are) (each_slice (λ t. All IsEntry t.entries) tops good);
      keys = subst (AllPairs (λ k l. k ≢ l)) (sym (keys_of_slices view rs)) (keys_distinct rs);
      few = omega (arith, few, count);
    }
