use Rattle.slice_rules.proofs.Keys.{mapped_keys}
use Rattle.slice_rules.proofs.Mapped.{runs_mapped, slices_mapped, shared_mapped, shown_mapped}
use Rattle.slice_rules.proofs.laws.mapping_laws.Goals as goal

pub returns : goal.returns
returns g c = record { runs = runs_mapped; slices = slices_mapped; keys = mapped_keys; shared = shared_mapped; shown = shown_mapped }
