use Rattle.std.proofs.Common.{sym, ◌∙◌}
use Rattle.record_frame.proofs.Writing.{note_written}
use Rattle.frame_replay.proofs.program.run.Goals as goal

pub returns-clause-note_prefix : goal.returns-clause-note_prefix
returns-clause-note_prefix g c =
    let old = g.N.Sink.written c.args.notes.now in
    let new = g.N.Sink.written c.write_whole.new.sink in
    rw (sym (c.as_bytes.ensures.value ∙ c.note.ensures)) (note_written old new c.as_bytes.result.now c.write_whole.result c.write_whole.ensures.told)
