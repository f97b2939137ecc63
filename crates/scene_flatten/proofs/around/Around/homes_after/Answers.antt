use Rattle.std.proofs.Common.{List, Option, Some, ◌++◌, map, sym, ap, ◌∙◌, ℕ}
use Rattle.std.specs.Prelude.{slice_get}
use Rattle.painter.specs.TopItems.{clip_homes, home_in}
use Rattle.scene_flatten.specs.declared.chains.PlacedChain.{PlacedChain}
use Rattle.scene_flatten.specs.Chains.{placed_chain}
use Rattle.scene_flatten.proofs.Tables.{no_homes}
use Rattle.scene_flatten.proofs.around.Around.homes_after.Goals as goal

pub returns-in_ok-with_scrolls-in-None-clause-value : goal.returns-in_ok-with_scrolls-in-None-clause-value
returns-in_ok-with_scrolls-in-None-clause-value c =
    let a = c.args.self.now in
    let l = c.args.placed.now in
    c.in_ok-with_scrolls-in-None.ensures
    ∙ ap (λ (hs : List (Option ℕ)). a.homes ++ map (home_in a l) hs) (sym (no_homes l.list))
    ∙ ap (λ (chain : Option ℕ). clip_homes a l chain) (sym c.in-None.is)

pub resolved-requires : goal.resolved-requires
resolved-requires c =
    (placed_chain c.args.placed.now (Some c.in-Some.number), ap (λ (ts : List (Option PlacedChain)). slice_get ts c.in-Some.number) c.as_slice.ensures.value ∙ c.in_ok-resolve-in-Some.ensures.resolved)
