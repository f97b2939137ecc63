use Rattle.std.proofs.Common.{List, Option, Some, ap, ap₂, ◌∙◌, ℕ}
use Rattle.wr_geom.specs.declared.point.Point.{Point}
use Rattle.clip_masks.specs.declared.clip.Clip.{Clip}
use Rattle.spatial_tree.specs.Homes.{homes_of}
use Rattle.clip_tree.specs.Placed.{placed_clips, in_table}
use Rattle.painter.specs.PlacedList.{PlacedList, chain_clips}
use Rattle.scene_flatten.specs.declared.chains.PlacedChain.{PlacedChain}
use Rattle.scene_flatten.proofs.Tables.{clips_at}
use Rattle.scene_flatten.proofs.placed_list.PlacedList.placed_chain.Goals as goal

pub returns : goal.returns
returns c =
    let inside : PlacedList = record { pipeline = c.self.inside.pipeline; list = c.self.inside.list.now; moves = c.self.inside.moves.now; origin = c.self.inside.origin } in
    ap₂ (λ (cs : List Clip) (ss : List (Option ℕ)). (let p : PlacedChain = record { clips = cs; scrolls = ss } in p))
    (c.from_vec.ensures
    ∙ c.in_ok-clips.ensures
    ∙ ap (λ (ps : List Point). placed_clips c.self.inside.list.now (in_table ps) (Some c.args.chain)) c.as_slice.ensures.value
    ∙ clips_at inside c.self.inside.points.items (Some c.args.chain) c.self.invariant.0 c.self.invariant.1
    ∙ ap (λ (l : PlacedList). chain_clips l (Some c.args.chain)) c.self.view_is)
    (c.from_vec-2.ensures ∙ c.in_ok-scrolls.ensures ∙ ap (λ (l : PlacedList). homes_of l.list (Some c.args.chain)) c.self.view_is)
