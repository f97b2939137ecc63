-- What slices paint at a point of the view.
use Rattle.std.specs.Prelude.{ℤ, ◌-ℤ◌, List, fold, if◌then◌else◌}
use Rattle.primitives.specs.Tops.{top_entries}
use Rattle.wr_geom.specs.Bounds.{holds}
use Rattle.blend_rules.specs.declared.colour.Px.{Px}
use Rattle.blend_rules.specs.declared.mode.Mode.TheVariants.{Normal}
use Rattle.blend_rules.specs.Colour.{clear, blended}
use Rattle.image_store.specs.StoreModel.{StoreModel}
use Rattle.primitives.specs.declared.entry.Top.{Top}
use Rattle.primitives.specs.Stacks.{value_at}
use Rattle.slice_rules.specs.Runs.{Run}
use Rattle.picture_slices.specs.declared.slice.Slice.{Slice}

-- the tops of a run, painted in order on clear
abbrev pub run_value : Run Top → StoreModel → ℤ → ℤ → Px
run_value run store x y = value_at (top_entries run.members) store x y

-- a slice: in what it shows its entries, painted on clear in its own coordinates, and outside of that nothing
abbrev pub slice_value : Slice → StoreModel → ℤ → ℤ → Px
slice_value s store x y = if holds s.shown x y then value_at s.entries store (x -ℤ s.origin.x) (y -ℤ s.origin.y) else clear

-- runs over a backdrop, each as a group of its own
abbrev pub runs_over : StoreModel → ℤ → ℤ → List (Run Top) → Px → Px
runs_over store x y runs backdrop = fold (λ b run. blended Normal (run_value run store x y) b) backdrop runs

-- slices over a backdrop
abbrev pub slices_over : StoreModel → ℤ → ℤ → List Slice → Px → Px
slices_over store x y slices backdrop = fold (λ b s. blended Normal (slice_value s store x y) b) backdrop slices
