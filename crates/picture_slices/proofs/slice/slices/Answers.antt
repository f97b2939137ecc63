use Rattle.std.proofs.Common.{List, length, subst, sym, ap, ◌≡◌, ◌∙◌, arith}
use Rattle.std.specs.Prelude.{All}
use Rattle.primitives.specs.declared.entry.Top.{Top}
use Rattle.primitives.specs.Facts.{IsEntry}
use Rattle.slice_rules.specs.Keys.{slice_keys}
use Rattle.slice_rules.specs.Runs.{Run}
use Rattle.slice_rules.proofs.Runs.{slices_few}
use Rattle.picture_slices.specs.TopClips.{home_of_top}
use Rattle.picture_slices.specs.Facts.{HaveGoodEntries, AreSlices}
use Rattle.primitives.specs.Tops.{IsTop, AreTops}
use Rattle.picture_slices.specs.Slices.{keyed_slices, picture_slices}
use Rattle.picture_slices.proofs.Fitting.{slices_good}
use Rattle.picture_slices.proofs.Keyed.{each_slice, all_tops}
use Rattle.picture_slices.proofs.slice.slices.Goals as goal

pub sliced-requires-clause-few : goal.sliced-requires-clause-few
sliced-requires-clause-few c =
    let few = slices_few home_of_top c.args.tops in
    let count = ap length c.in_ok-runs.ensures in
    omega (arith, few, count)

pub sliced-requires-clause-tops : goal.sliced-requires-clause-tops
sliced-requires-clause-tops c = subst (All (λ (r : Run Top). AreTops r.members)) (sym c.in_ok-runs.ensures) (each_slice IsTop c.args.tops c.requires)

pub returns-clause-good : goal.returns-clause-good
returns-clause-good c =
    let each = subst (All (λ (r : Run Top). HaveGoodEntries r.members)) c.in_ok-runs.ensures c.in_ok-slices.ensures.good in
    all_tops (λ (t : Top). All IsEntry t.entries) c.args.tops each

pub returns-clause-slices : goal.returns-clause-slices
returns-clause-slices c =
    let each = subst (All (λ (r : Run Top). HaveGoodEntries r.members)) c.in_ok-runs.ensures c.in_ok-slices.ensures.good in
    let good = all_tops (λ (t : Top). All IsEntry t.entries) c.args.tops each in
    let value : c.from_vec.result ≡ picture_slices c.args.view c.args.tops = c.from_vec.ensures ∙ c.in_ok-slices.ensures.value ∙ ap (λ (rs : List (Run Top)). keyed_slices c.args.view (slice_keys rs) rs) c.in_ok-runs.ensures in
    subst (AreSlices c.args.view) (sym value) (slices_good c.args.view c.args.tops c.requires good)
