use Rattle.pipelines.proofs.Fitting.{fit_after, fit_listed}
use Rattle.pipelines.proofs.table.Pipelines.set_list.Goals as goal

pub invariant_of-self : goal.invariant_of-self
invariant_of-self c =
    let m = c.self.inside.present in (
      fit_after m c.put_list.new.present _ c.put_list.result c.put_list.ensures.ok c.put_list.ensures.err c.self.invariant.0
          (fit_listed m c.args.pipeline c.args.listed c.requires c.self.invariant.0),
      c.self.invariant.1,
    )
