use Rattle.std.proofs.Common.{arith}
use Rattle.std.proofs.lemmas.Grind.{common_steps}
use Rattle.picture_slices.proofs.Gathers.{add_same, add_new}
use Rattle.picture_slices.proofs.gather.add.Goals as goal

pub returns-in_ok-push-in-Some-clause-value : goal.returns-in_ok-push-in-Some-clause-value
returns-in_ok-push-in-Some-clause-value c = grind (arith, common_steps, add_same)

pub returns-in_ok-push-in-Some-3-clause-value : goal.returns-in_ok-push-in-Some-3-clause-value
returns-in_ok-push-in-Some-3-clause-value c = grind (arith, common_steps, add_new)
