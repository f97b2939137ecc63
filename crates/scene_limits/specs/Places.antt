-- Where the nodes of drawn pipelines are.
use Rattle.std.specs.Prelude.{ℕ, zero, suc, pos, List, [], ◌++◌, Option, Some, None}
use Rattle.std.specs.List.{flat_map}
use Rattle.wr_geom.specs.Points.{point_sum}
use Rattle.wr_geom.specs.declared.point.Point.{Point}
use Rattle.display_list.specs.declared.node.Node.{Node}
use Rattle.display_list.specs.ListModel.{ListModel}
use Rattle.list_summary.specs.declared.iframe.Iframe.{Iframe}
use Rattle.list_summary.specs.Iframes.{summary_of}
use Rattle.pipelines.specs.Table.{PipelineMap, pipeline_at, pipeline_list}
use Rattle.spatial_tree.specs.Moves.{MovesModel}
use Rattle.spatial_tree.specs.Offsets.{offset_of, offsets_of}

abbrev pub zero_point : Point
zero_point = record { x = pos 0; y = pos 0 }

-- an Iframe's first corner, against its node
abbrev pub iframe_corner : Iframe → Point
iframe_corner f = record { x = f.x; y = f.y }

-- where an Iframe puts the origin of its pipeline
abbrev pub iframe_origin : List Node → MovesModel → Point → Iframe → Point
iframe_origin nodes moves origin f = point_sum (offset_of nodes moves origin f.node) (iframe_corner f)

-- Where each node of a list is, the root's too, and each node of the pipelines that its Iframes name; `below` gives those of another
-- pipeline from its origin.
abbrev pub list_places : (ℕ → Point → List Point) → MovesModel → Option ListModel → Point → List Point
list_places below moves None origin = []
list_places below moves (Some l) origin = offsets_of l.nodes moves origin ++ flat_map (λ f. below f.pipeline (iframe_origin l.nodes moves origin f)) (summary_of l).iframes

-- where each node of a pipeline is that is drawn at an origin, and each node drawn in it, through at most so many levels of pipelines
unfoldable pub node_places : ℕ → PipelineMap → ℕ → Point → List Point
node_places zero pipelines p origin = []
node_places (suc n) pipelines p origin = list_places (node_places n pipelines) (pipeline_at pipelines p).moves (pipeline_list pipelines p) origin
