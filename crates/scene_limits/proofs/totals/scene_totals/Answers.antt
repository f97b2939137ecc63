use Rattle.std.proofs.Common.{◌≡◌, ℕ, ◌+◌, ◌-◌, ◌<◌, true, false, List, length, set, sym, ap, subst, ◌∙◌, arith}
use Rattle.std.proofs.lemmas.List.{get_or_default}
use Rattle.list_summary.specs.declared.totals.Totals.{Totals}
use Rattle.pipelines.specs.Table.{listed_list, pipeline_list}
use Rattle.pipelines.specs.declared.pipeline.Pipeline.{Pipeline}
use Rattle.scene_limits.specs.Drawn.{is_marked}
use Rattle.scene_limits.specs.Expanded.{list_totals, totals_in}
use Rattle.scene_limits.proofs.Levels.{IsTable, table_grows, table_stays}
use Rattle.scene_limits.proofs.totals.scene_totals.Goals as goal
use Rattle.scene_limits.proofs.totals.scene_totals.Goals.{then-reached-from, else-reached-from}

pub loop-step-preserved : goal.loop-step-preserved
loop-step-preserved c =
    let ps = c.args.pipelines.now in
    let p : ℕ = 63 - c.loop-step.step in
    let marks = c.args.reached.now in
    let table = c.loop-step.table in
    let fit = c.get-pipeline.ensures.fit in
    let low : 64 - (c.loop-step.step + 1) ≡ p = omega arith in
    let at : c.from.result ≡ p = omega (arith, c.from.ensures) in
    let inside : c.from.result < length marks = omega arith in
    subst (λ (i : ℕ). IsTable (is_marked marks) c.if-reached-from.table ps i) (sym low)
    (elim c.if-reached-from.branch [
      | then-reached-from w ↦
          (let on : is_marked marks p ≡ true = ap (is_marked marks) (sym at) ∙ get_or_default marks c.from.result true false inside ∙ w.if-reached-from.true in
          let here : w.from-then-reached-from.result ≡ p = omega (arith, w.from-then-reached-from.ensures) in
          let t = w.pipeline_totals.result in
          let is_t : t ≡ list_totals (totals_in table) (pipeline_list ps p) = w.pipeline_totals.ensures ∙ ap (λ (l : Pipeline). list_totals (totals_in table) (listed_list l.listed)) c.get-pipeline.ensures.value in
          subst (λ (ts : List Totals). IsTable (is_marked marks) ts ps p) (sym (w.table-is ∙ ap (λ (i : ℕ). set table i t) here))
          (table_grows marks ps p (64 - c.loop-step.step) t table fit c.requires (omega arith) on (omega arith) (omega arith) is_t c.loop-step.invariant))
      | else-reached-from w ↦
          (let off : is_marked marks p ≡ false = ap (is_marked marks) (sym at) ∙ get_or_default marks c.from.result true false inside ∙ w.if-reached-from.false in
          subst (λ (ts : List Totals). IsTable (is_marked marks) ts ps p) (sym w.table-is)
          (table_stays marks ps p (64 - c.loop-step.step) table (omega arith) off c.loop-step.invariant))
    ])
