use Rattle.scene_flatten.proofs.Paints.{item_entries_paint, pipeline_entries_paint}
use Rattle.scene_flatten.proofs.Wholes.{item_rows}
use Rattle.scene_flatten.proofs.laws.entry_laws.Goals as goal

pub returns : goal.returns
returns c = record { item = item_entries_paint; pipeline = pipeline_entries_paint; rows = item_rows }
