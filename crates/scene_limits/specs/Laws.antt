-- What holds of expanded scenes.
use Rattle.std.specs.Prelude.{◌≡◌, ◌↔◌, ℕ, ◌<◌, ◌≤◌, true, false, length, Some, None, slice_index_or}
use Rattle.wr_geom.specs.declared.point.Point.{Point}
use Rattle.display_list.specs.ListModel.{ListModel}
use Rattle.list_summary.specs.declared.iframe.Iframe.{Iframe}
use Rattle.list_summary.specs.Iframes.{summary_of}
use Rattle.spatial_tree.specs.Offsets.{offset_of}
use Rattle.pipelines.specs.Table.{PipelineMap, AreFit, pipeline_at, pipeline_list}
use Rattle.scene_limits.specs.Expanded.{shown_list, expanded}
use Rattle.scene_limits.specs.Limits.{goes_deep, is_large, is_point_in_reach, are_in_reach, scene_fault}
use Rattle.scene_limits.specs.Places.{zero_point, iframe_origin, list_places, node_places}

-- 64 levels of pipelines are enough: what a list shows is what the pipelines show that its Iframes name
abbrev pub ItemsOfEachList : Type 0
ItemsOfEachList = (ps : PipelineMap) (p : ℕ) → AreFit ps → expanded 64 ps p ≡ shown_list (expanded 64 ps) (pipeline_list ps p)

abbrev pub PlacesOfEachList : Type 0
PlacesOfEachList =
    (ps : PipelineMap) (p : ℕ) (origin : Point) → AreFit ps → node_places 64 ps p origin ≡ list_places (node_places 64 ps) (pipeline_at ps p).moves (pipeline_list ps p) origin

-- more levels show nothing more
abbrev pub MoreLevelsShowNoMore : Type 0
MoreLevelsShowNoMore = (n : ℕ) (ps : PipelineMap) (p : ℕ) → AreFit ps → 64 ≤ n → expanded n ps p ≡ expanded 64 ps p

-- ---- scenes without a fault

-- no limit is broken
pub record IsWithinLimits (ps : PipelineMap) : Type 0 where
  pub depth : goes_deep (expanded 64 ps 0) ≡ false
  pub reach : are_in_reach (node_places 64 ps 0 zero_point) ≡ true
  pub size : is_large (expanded 64 ps 0) ≡ false

-- there is no fault exactly where no limit is broken
abbrev pub NoFaultIsWithin : Type 0
NoFaultIsWithin = (ps : PipelineMap) → (scene_fault ps ≡ None) ↔ IsWithinLimits ps

-- where all places from an origin are in reach, each node of the list is
abbrev pub NodesAreInReach : Type 0
NodesAreInReach =
    (ps : PipelineMap) (p : ℕ) (origin : Point) (l : ListModel) (node : ℕ) → AreFit ps → pipeline_list ps p ≡ Some l → node ≤ length l.nodes → are_in_reach (node_places 64 ps p origin) ≡ true
    → is_point_in_reach (offset_of l.nodes (pipeline_at ps p).moves origin node) ≡ true

-- and all places of each pipeline that an Iframe of the list names
abbrev pub IframesAreInReach : Type 0
IframesAreInReach =
    (ps : PipelineMap) (p : ℕ) (origin : Point) (l : ListModel) (k : ℕ) (d : Iframe) → AreFit ps → pipeline_list ps p ≡ Some l → k < length (summary_of l).iframes → are_in_reach (node_places 64 ps p origin) ≡ true
    → (let f = slice_index_or (summary_of l).iframes k d in are_in_reach (node_places 64 ps f.pipeline (iframe_origin l.nodes (pipeline_at ps p).moves origin f)) ≡ true)
