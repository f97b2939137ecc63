-- The view of a scene, its tiles, and what its frame costs at most.
use Rattle.std.proofs.Common.{◌≤◌, ◌*◌, ◌^◌, List, length, arith}
use Rattle.tile_grid.specs.Tiles.{AreTileSides}
use Rattle.tile_grid.specs.declared.tile.TileSides.{TileSides}
use Rattle.picture_slices.specs.declared.slice.Slice.{Slice}
use Rattle.kept_tiles.specs.Work.{Records, frame_tiles, tiles_work}
use Rattle.kept_tiles.proofs.Counting.{small_costs, small_frame}
use Rattle.scene_state.specs.SceneModel.{SceneModel}
use Rattle.scene_state.specs.Limits.{IsScene}
use Rattle.shown_frames.specs.Placing.{AreViewSides}
use Rattle.renderer.specs.Drops.{sides_of}

pub view_sides : (s : SceneModel) → IsScene s → AreViewSides s.view.0 s.view.1
view_sides s is = record {
  some_across = is.ranges.width.at_least;
  across = is.ranges.width.at_most;
  some_down = is.ranges.height.at_least;
  down = is.ranges.height.at_most;
}

pub tile_sides : (s : SceneModel) → IsScene s → AreTileSides (sides_of s.policy)
tile_sides s is = record {
  width = record { some = is.ranges.policy.width.at_least; most = is.ranges.policy.width.at_most };
  height = record { some = is.ranges.policy.height.at_least; most = is.ranges.policy.height.at_most };
}

-- at most 33,800 tiles of 1,024 by 1,024 pixels
pub frame_cost : (kept : Records) (sides : TileSides) (slices : List Slice) → AreTileSides sides → length (frame_tiles sides slices) ≤ 8 * (65 * 65) → (tiles_work kept (frame_tiles sides slices)).cost ≤ 2 ^ 36
frame_cost kept sides slices are few =
    let c = small_costs kept (frame_tiles sides slices) (small_frame sides slices are) in
    omega (arith, c, few)
