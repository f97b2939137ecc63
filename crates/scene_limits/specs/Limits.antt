-- Which scenes are refused.
use Rattle.std.specs.Prelude.{pos, neg_ℤ, ◌^◌, ℤ, List, length, Bool, ◌||◌, ◌&&◌, not, nat_lt, int_le, Option, Some, None, if◌then◌else◌}
use Rattle.std.specs.List.{list_all}
use Rattle.wr_geom.specs.declared.point.Point.{Point}
use Rattle.wr_io.specs.declared.fault.Code.{Code}
use Rattle.wr_io.specs.declared.fault.Code.TheVariants.{TooDeep, TooManyItems}
use Rattle.list_summary.specs.Shown.{Shown}
use Rattle.list_summary.specs.Totals.{total, greatest}
use Rattle.pipelines.specs.Table.{PipelineMap}
use Rattle.scene_limits.specs.Expanded.{expanded}
use Rattle.scene_limits.specs.Places.{zero_point, node_places}

-- more than 64 contexts nest, or an item has more than 255 clips
abbrev pub goes_deep : List Shown → Bool
goes_deep items = nat_lt 64 (greatest (λ s. s.nesting) items) || nat_lt 255 (greatest (λ s. s.clips) items)

-- there are more than 65,536 items, or more than 1,048,576 glyphs, or more than 1,048,576 clips of all items
abbrev pub is_large : List Shown → Bool
is_large items = nat_lt 65536 (length items) || nat_lt 1048576 (total (λ s. s.glyphs) items) || nat_lt 1048576 (total (λ s. s.clips) items)

-- at most two to the 27th from 0
unfoldable pub is_in_reach : ℤ → Bool
is_in_reach z = int_le (neg_ℤ (pos (2 ^ 27))) z && int_le z (pos (2 ^ 27))

abbrev pub is_point_in_reach : Point → Bool
is_point_in_reach p = is_in_reach p.x && is_in_reach p.y

abbrev pub are_in_reach : List Point → Bool
are_in_reach places = list_all is_point_in_reach places

-- a node is out of reach on an axis
abbrev pub is_any_far : List Point → Bool
is_any_far places = not (are_in_reach places)

-- the first limit that the scene breaks, if it breaks one
unfoldable pub scene_fault : PipelineMap → Option Code
scene_fault pipelines =
    if goes_deep (expanded 64 pipelines 0) || is_any_far (node_places 64 pipelines 0 zero_point) then Some TooDeep
    else (if is_large (expanded 64 pipelines 0) then Some TooManyItems else None)
