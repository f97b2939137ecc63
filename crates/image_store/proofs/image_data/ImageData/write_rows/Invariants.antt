use Rattle.image_store.proofs.Patching.{AreRowsIn}
use Rattle.image_store.proofs.image_data.ImageData.write_rows.Given as goal

abbrev pub invariant-loop-row : goal.invariant-loop-row
invariant-loop-row l = AreRowsIn l.patch l.fn.self l.bytes l.row l.self l.rest l.over
