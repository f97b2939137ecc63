use Rattle.std.proofs.Common.{List, ◌++◌, ap, ◌∙◌}
use Rattle.display_list.specs.Trees.{trees_of}
use Rattle.list_summary.specs.declared.iframe.Iframe.{Iframe}
use Rattle.list_summary.proofs.Counted.{summed}
use Rattle.list_summary.specs.Iframes.{trees_iframes}
use Rattle.list_summary.proofs.summary.summarise.Goals as goal

pub returns : goal.returns
returns c =
    summed c.args.list.now c.in_ok-own.own c.count_items.new.iframes.items _ _
    (c.deref.ensures.value ∙ c.in_ok-counts.ensures) c.items.ensures.trees c.in_ok-own.ensures.own
    (c.in_ok-own.ensures.iframes ∙ ap (λ (before : List Iframe). before ++ trees_iframes c.deref.result.now 0 (trees_of c.items.result.now)) c.new-iframes.ensures.items)
