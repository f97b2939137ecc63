use Rattle.pipelines.proofs.Fitting.{fit_after, fit_removed}
use Rattle.pipelines.proofs.table.Pipelines.remove.Goals as goal

pub invariant_of-self : goal.invariant_of-self
invariant_of-self c =
    let m = c.self.inside.present in (
      fit_after m c.remove.new.present _ c.remove.result c.remove.ensures.ok c.remove.ensures.err c.self.invariant.0
          (fit_removed m c.args.pipeline c.self.invariant.0),
      c.self.invariant.1,
    )
