use Rattle.std.proofs.Common.{◌≡◌, IfSome}
use Rattle.record_frame.specs.Reading.{Took}
use Rattle.record_frame.specs.Steps.{Progress}
use Rattle.record_frame.proofs.records.answer_records.Given as goal

-- So far whole entries were taken and answered.
abbrev pub invariant-loop-buffers : goal.invariant-loop-buffers
invariant-loop-buffers g l = record {
  told : IfSome (g.S.Source.left l.fn.source) (λ bytes. Took bytes (g.S.Source.left l.source)
      (Progress g.A.Session.form g.A.Session.rule 4294967295 l.entries_left (g.A.Session.state l.fn.session l.fn.subject) (g.A.Session.state l.fn.session l.subject) (g.K.Sink.written l.fn.sink) (g.K.Sink.written l.sink)));
  source_count : g.S.Source.faults l.source ≡ g.S.Source.faults l.fn.source;
  sink_count : g.K.Sink.faults l.sink ≡ g.K.Sink.faults l.fn.sink;
}

abbrev pub decreases-loop-buffers : goal.decreases-loop-buffers
decreases-loop-buffers g l = l.entries_left
