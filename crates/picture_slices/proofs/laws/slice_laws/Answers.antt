use Rattle.picture_slices.proofs.Fitting.{slices_good}
use Rattle.picture_slices.proofs.Keyed.{have_the_keys}
use Rattle.picture_slices.proofs.Nesting.{slices_are_shallow, slices_have_few_entries}
use Rattle.picture_slices.proofs.laws.slice_laws.Goals as goal

pub returns : goal.returns
returns c = record { good = slices_good; keys = have_the_keys; shallow = slices_are_shallow; few = slices_have_few_entries }
