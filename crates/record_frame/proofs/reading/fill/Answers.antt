use Rattle.std.proofs.Common.{length}
use Rattle.record_frame.proofs.Takings.{failed_read}
use Rattle.record_frame.proofs.reading.fill.Goals as goal

pub returns-in-Err-clause-told : goal.returns-in-Err-clause-told
returns-in-Err-clause-told g c =
    failed_read (g.S.Source.left c.args.source.now) (g.S.Source.left c.read_exact.new.source) (length c.read_exact.new.out) c.read_exact.new.out c.in-Err.ensures.told
