use Rattle.std.proofs.Common.{sym}
use Rattle.batching.proofs.Rows.{length-row}
use Rattle.batching.proofs.cover.Cover.width.Goals as goal

pub returns : goal.returns
returns c = sym (length-row c.self.inside.width c.self.inside.intervals.items c.args.self.now c.self.view_is)
