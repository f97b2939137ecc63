-- The list of a pipeline in reach, opened.
use Rattle.std.proofs.Common.{◌≡◌, ℕ, Option, Some, sym, ap, ◌∙◌}
use Rattle.wr_geom.specs.declared.point.Point.{Point}
use Rattle.display_list.specs.ListModel.{ListModel}
use Rattle.spatial_tree.specs.Moves.{MovesModel}
use Rattle.spatial_tree.specs.Offsets.{IsOrigin}
use Rattle.pipelines.specs.Listed.{ListedModel}
use Rattle.pipelines.specs.declared.pipeline.Pipeline.{Pipeline}
use Rattle.pipelines.specs.Table.{PipelineMap, listed_list, pipeline_list, pipeline_at, AreFit}
use Rattle.painter.specs.Facts.{Reaches}
use Rattle.painter.proofs.Enough.{placed}
use Rattle.painter.proofs.Reaching.{has_placed, origin_within}
use Rattle.scene_flatten.specs.Facts.{IsNearList}

pub has_near : (ps : PipelineMap) (p : ℕ) (origin : Point) (has : Pipeline) (listed : ListedModel) (l : ListModel) (m : MovesModel) → AreFit ps → has ≡ pipeline_at ps p → has.listed ≡ Some listed → l ≡ listed.list → m ≡ has.moves
    → Reaches ps p origin → IsNearList (placed p m origin l)
has_near ps p origin has listed l m fit is some of moves reach =
    let there : pipeline_list ps p ≡ Some l =
    ap (λ (h : Pipeline). listed_list h.listed) (sym is) ∙ ap listed_list some ∙ ap (λ (x : ListModel). (let o : Option ListModel = Some x in o)) (sym of) in
    record { placed = has_placed ps p origin has listed l m fit is some of moves reach; list = (fit.each p l there).list }

pub near_origin : (p : ℕ) (origin : Point) (l : ListModel) (m : MovesModel) → IsNearList (placed p m origin l) → IsOrigin origin
near_origin p origin l m near = origin_within (placed p m origin l) near.placed
