use Rattle.std.proofs.Common.{◌≡◌, sym, subst}
use Rattle.std.specs.Option.{OnSome}
use Rattle.std.specs.FinMap as map
use Rattle.pipelines.specs.Changes.{changed, with_moves}
use Rattle.pipelines.proofs.Fitting.{written_ok, written_err}
use Rattle.pipelines.proofs.change.change_in.Goals as goal

pub returns-in-Some-clause-ok : goal.returns-in-Some-clause-ok
returns-in-Some-clause-ok c =
    let new = c.change_pipeline.new.has in
    let after = subst (λ o. OnSome o (c.get_mut.follows.lender new ≡ map.insert c.args.present.now c.from.result new)) c.in-Some.is (c.get_mut.follows.holds new) in
    written_ok c.args.present.now _ c.args.pipeline c.from.result c.in-Some.has.now new (with_moves (changed c.args.change)) c.change_pipeline.result
    c.from.ensures c.in-Some.ensures.value after c.change_pipeline.ensures.ok

pub returns-in-Some-clause-err : goal.returns-in-Some-clause-err
returns-in-Some-clause-err c =
    let new = c.change_pipeline.new.has in
    let has = c.in-Some.has.now in
    let after = subst (λ o. OnSome o (c.get_mut.follows.lender new ≡ map.insert c.args.present.now c.from.result new)) c.in-Some.is (c.get_mut.follows.holds new) in
    written_err c.args.present.now _ c.from.result has new c.change_pipeline.result
    c.in-Some.ensures.value (c.number_map_laws.ensures.inserted_again c.args.present.now c.from.result has (sym c.in-Some.ensures.value)) after c.change_pipeline.ensures.err
