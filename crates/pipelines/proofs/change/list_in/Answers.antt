use Rattle.std.proofs.Common.{◌≡◌, subst}
use Rattle.std.specs.Option.{OnSome}
use Rattle.std.specs.FinMap as map
use Rattle.pipelines.specs.Changes.{with_list}
use Rattle.pipelines.proofs.Fitting.{written}
use Rattle.pipelines.proofs.change.list_in.Goals as goal

pub returns-in-Some-clause-ok : goal.returns-in-Some-clause-ok
returns-in-Some-clause-ok c =
    let new = c.replace_list.new.has in
    let after = subst (λ o. OnSome o (c.get_mut.follows.lender new ≡ map.insert c.args.present.now c.from.result new)) c.in-Some.is (c.get_mut.follows.holds new) in
    written c.args.present.now _ c.args.pipeline c.from.result c.in-Some.has.now new (with_list c.args.listed) c.from.ensures c.in-Some.ensures.value after c.replace_list.ensures
