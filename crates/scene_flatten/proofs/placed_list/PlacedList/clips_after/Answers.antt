use Rattle.std.proofs.Common.{List, Option, Some, ◌++◌, sym, ap, ◌∙◌, ℕ}
use Rattle.std.specs.Prelude.{slice_get}
use Rattle.clip_masks.specs.declared.clip.Clip.{Clip}
use Rattle.clip_tree.proofs.Clips.{placed_none}
use Rattle.painter.specs.PlacedList.{chain_clips, node_point}
use Rattle.scene_flatten.specs.declared.chains.PlacedChain.{PlacedChain}
use Rattle.scene_flatten.specs.Chains.{placed_chain}
use Rattle.scene_flatten.proofs.placed_list.PlacedList.clips_after.Goals as goal

pub returns-in_ok-joined-in-None-clause-value : goal.returns-in_ok-joined-in-None-clause-value
returns-in_ok-joined-in-None-clause-value c =
    let l = c.args.self.now in
    c.in_ok-joined-in-None.ensures
    ∙ ap (λ (cs : List Clip). c.args.around.now ++ cs) (sym (placed_none l.list (node_point l)))
    ∙ ap (λ (chain : Option ℕ). c.args.around.now ++ chain_clips l chain) (sym c.in-None.is)

pub resolved-requires : goal.resolved-requires
resolved-requires c =
    (placed_chain c.args.self.now (Some c.in-Some.number), ap (λ (ts : List (Option PlacedChain)). slice_get ts c.in-Some.number) c.as_slice.ensures.value ∙ c.in_ok-resolve-in-Some.ensures.resolved)
