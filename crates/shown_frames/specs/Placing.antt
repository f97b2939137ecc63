-- Slices as they lie in a frame, and views.
use Rattle.std.specs.Prelude.{ℕ, ◌≤◌, pos, List, map}
use Rattle.wr_geom.specs.Bounds.{Bounds}
use Rattle.picture_slices.specs.declared.slice.Slice.{Slice}
use Rattle.tile_compositor.specs.declared.placed.Placed.{Placed}

-- a slice as it lies in a frame
abbrev pub placed_of : Slice → Placed
placed_of s = record { key = s.key; origin = s.origin; shown = s.shown }

-- each of them
abbrev pub all_placed : List Slice → List Placed
all_placed slices = map placed_of slices

-- a view's rectangle, from (0, 0)
abbrev pub view_of : ℕ → ℕ → Bounds
view_of w h = record { x0 = pos 0; y0 = pos 0; x1 = pos w; y1 = pos h }

-- the sides of a view: 1 to 4,096 pixels each
pub record AreViewSides (w h : ℕ) : Type 0 where
  pub some_across : 1 ≤ w
  pub across : w ≤ 4096
  pub some_down : 1 ≤ h
  pub down : h ≤ 4096
