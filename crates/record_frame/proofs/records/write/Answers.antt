use Rattle.std.proofs.Common.{rules, ◌<◌, length}
use Rattle.record_frame.specs.declared.error.RunError.TheVariants.{WriteFailed}
use Rattle.record_frame.proofs.Writing.{less_written}
use Rattle.record_frame.proofs.records.write.Goals as goal

pub returns-in-Err-clause-told : goal.returns-in-Err-clause-told
returns-in-Err-clause-told g c =
    let some : 0 < length c.args.piece.now = search rules in
    less_written (g.K.Sink.written c.args.sink.now) (g.K.Sink.written c.write_whole.new.sink) c.args.piece.now WriteFailed some c.in-Err.ensures.told
