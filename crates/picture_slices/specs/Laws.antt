-- What holds of slices, as laws on the definitions.
use Rattle.std.specs.Prelude.{◌≡◌, ◌≤◌, ℕ, ℤ, ◌-ℤ◌, List, length, map, All, IsTrue, IsFalse}
use Rattle.wr_geom.specs.Bounds.{Bounds, holds}
use Rattle.wr_geom.specs.declared.keys.SliceKey.{SliceKey}
use Rattle.blend_rules.specs.declared.colour.Px.{Px}
use Rattle.blend_rules.specs.Colour.{clear}
use Rattle.image_store.specs.StoreModel.{StoreModel, IsStore}
use Rattle.primitives.specs.declared.entry.Top.{Top}
use Rattle.primitives.specs.Stacks.{value_at, is_shallow}
use Rattle.slice_rules.specs.Runs.{Run}
use Rattle.slice_rules.specs.Keys.{slice_keys}
use Rattle.picture_slices.specs.Facts.{HaveGoodEntries, AreSlices}
use Rattle.primitives.specs.Tops.{AreTops, top_entries}
use Rattle.picture_slices.specs.Slices.{slice_of, top_slices, picture_slices}
use Rattle.picture_slices.specs.Values.{run_value, slice_value, runs_over, slices_over}

-- the slices of a picture are what whoever draws them asks
abbrev pub SlicesAreGood : Type 0
SlicesAreGood =
    (view : Bounds) (tops : List Top)
    → AreTops tops → HaveGoodEntries tops → AreSlices view (picture_slices view tops)

-- their keys are those of the tops' runs
abbrev pub SlicesHaveTheKeys : Type 0
SlicesHaveTheKeys =
    (view : Bounds) (tops : List Top)
    → map (λ s. s.key) (picture_slices view tops) ≡ slice_keys (top_slices tops)

-- at the points that a slice shows, its entries, in its own coordinates, paint what its tops paint there
abbrev pub ShownIsWhatTopsPaint : Type 0
ShownIsWhatTopsPaint =
    (store : StoreModel) (view : Bounds) (key : SliceKey) (run : Run Top) (x y : ℤ)
    → AreTops run.members → IsTrue (holds (slice_of view key run).shown x y)
    → value_at (slice_of view key run).entries store (x -ℤ (slice_of view key run).origin.x) (y -ℤ (slice_of view key run).origin.y)
    ≡ run_value run store x y

-- at the other points of the view, its tops paint nothing
abbrev pub TopsPaintNothingElse : Type 0
TopsPaintNothingElse =
    (store : StoreModel) (view : Bounds) (key : SliceKey) (run : Run Top) (x y : ℤ)
    → IsStore store → AreTops run.members → HaveGoodEntries run.members
    → IsTrue (holds view x y) → IsFalse (holds (slice_of view key run).shown x y)
    → run_value run store x y ≡ clear

-- so at each point of the view a slice paints what its tops do
abbrev pub SlicePaintsItsTops : Type 0
SlicePaintsItsTops =
    (store : StoreModel) (view : Bounds) (key : SliceKey) (run : Run Top) (x y : ℤ)
    → IsStore store → AreTops run.members → HaveGoodEntries run.members → IsTrue (holds view x y)
    → slice_value (slice_of view key run) store x y ≡ run_value run store x y

-- and the slices of a picture, over a backdrop, paint what the tops in slices do
abbrev pub SlicesPaintTheTops : Type 0
SlicesPaintTheTops =
    (store : StoreModel) (view : Bounds) (tops : List Top) (x y : ℤ) (backdrop : Px)
    → IsStore store → AreTops tops → HaveGoodEntries tops → IsTrue (holds view x y)
    → slices_over store x y (picture_slices view tops) backdrop ≡ runs_over store x y (top_slices tops) backdrop

-- slices nest no deeper than the entries of their tops, one after another
abbrev pub SlicesAreShallow : Type 0
SlicesAreShallow =
    (view : Bounds) (tops : List Top) (room : ℕ)
    → AreTops tops → IsTrue (is_shallow room (top_entries tops)) → All (λ s. IsTrue (is_shallow room s.entries)) (picture_slices view tops)

-- and each has at most as many entries as they are
abbrev pub SlicesHaveFewEntries : Type 0
SlicesHaveFewEntries =
    (view : Bounds) (tops : List Top)
    → All (λ s. length s.entries ≤ length (top_entries tops)) (picture_slices view tops)
