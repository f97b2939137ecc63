use Rattle.pipelines.proofs.Fitting.{fit_after, fit_moved}
use Rattle.pipelines.proofs.table.Pipelines.change.Goals as goal

pub invariant_of-self : goal.invariant_of-self
invariant_of-self c =
    let m = c.self.inside.present in (
      fit_after m c.put_change.new.present _ c.put_change.result c.put_change.ensures.ok c.put_change.ensures.err c.self.invariant.0
          (fit_moved m c.args.pipeline c.args.change c.know_change.ensures c.self.invariant.0),
      c.self.invariant.1,
    )
