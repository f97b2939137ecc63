use Rattle.std.proofs.Common.{◌-◌, ◌++◌, [], Ok, Err, nat_lt, ap, ◌∙◌}
use Rattle.std.proofs.lemmas.Result.{err_from_is_err_and}
use Rattle.record_frame.specs.Answers.{output_from}
use Rattle.record_frame.specs.Framing.{framing}
use Rattle.record_frame.specs.Steps.{Progress, ReachesState, StepLeaves, BodyLeaves}
use Rattle.record_frame.specs.declared.records.StepEnd.TheVariants.{Answered, Closed}
use Rattle.record_frame.proofs.Takings.{joined}
use Rattle.record_frame.proofs.States.{of_all, state_closed, state_ended}
use Rattle.record_frame.proofs.Progress.{progress_on, body_closed, body_ends}
use Rattle.record_frame.proofs.records.answer_records.Goals as goal

pub returns-in_err-step-clause-told : goal.returns-in_err-step-clause-told
returns-in_err-step-clause-told g c =
    let p = err_from_is_err_and c.from_residual.result c.from_residual.ensures.1 in
    let form = g.A.Session.form in
    let rule = g.A.Session.rule in
    let n = c.loop-buffers.entries_left in
    let start = g.A.Session.state c.args.session.now c.args.subject.now in
    let mid = g.A.Session.state c.args.session.now c.loop-buffers.subject in
    let next = g.A.Session.state c.args.session.now c.step.new.subject in
    let w0 = g.K.Sink.written c.args.sink.now in
    let w1 = g.K.Sink.written c.loop-buffers.sink in
    let w2 = g.K.Sink.written c.step.new.sink in
    let e = c.in_err-step.field-0.0 in
    rw (p.1, p.2) (joined (g.S.Source.left c.args.source.now) (g.S.Source.left c.loop-buffers.source) (g.S.Source.left c.step.new.source)
    (Progress form rule 4294967295 n start mid w0 w1) (StepLeaves form rule (nat_lt 0 n) mid next w1 w2 (Err e)) (BodyLeaves (output_from form [] rule start) 4294967295 w0 w2 (Err e))
    (λ t r u s split p h. body_ends form c.requires rule 4294967295 n start mid w0 w1 w2 t r u s split p e next h)
    c.loop-buffers.invariant.told c.in_err-step.ensures.told)

pub returns-in-Closed-clause-told : goal.returns-in-Closed-clause-told
returns-in-Closed-clause-told g c =
    let form = g.A.Session.form in
    let rule = g.A.Session.rule in
    let n = c.loop-buffers.entries_left in
    let start = g.A.Session.state c.args.session.now c.args.subject.now in
    let mid = g.A.Session.state c.args.session.now c.loop-buffers.subject in
    let next = g.A.Session.state c.args.session.now c.step.new.subject in
    let w0 = g.K.Sink.written c.args.sink.now in
    let w1 = g.K.Sink.written c.loop-buffers.sink in
    let w2 = g.K.Sink.written c.step.new.sink in
    joined (g.S.Source.left c.args.source.now) (g.S.Source.left c.loop-buffers.source) (g.S.Source.left c.step.new.source)
    (Progress form rule 4294967295 n start mid w0 w1) (StepLeaves form rule (nat_lt 0 n) mid next w1 w2 (Ok Closed)) (BodyLeaves (output_from form [] rule start) 4294967295 w0 w2 (Ok tt))
    (λ t r u s split p h. body_closed form c.requires rule 4294967295 n start mid w0 w1 w2 t r u s split p next h)
    c.loop-buffers.invariant.told (rw c.in-Closed.is at c.in_ok-step.ensures.told)

pub loop-buffers-preserved : goal.loop-buffers-preserved
loop-buffers-preserved g c =
    let form = g.A.Session.form in
    let rule = g.A.Session.rule in
    let n = c.loop-buffers.entries_left in
    let start = g.A.Session.state c.args.session.now c.args.subject.now in
    let mid = g.A.Session.state c.args.session.now c.loop-buffers.subject in
    let next = g.A.Session.state c.args.session.now c.step.new.subject in
    let w0 = g.K.Sink.written c.args.sink.now in
    let w1 = g.K.Sink.written c.loop-buffers.sink in
    let w2 = g.K.Sink.written c.step.new.sink in
    let some = c.in_ok-step.ensures.allowed (ap Ok c.in-Answered.is) in
    record {
      told = joined (g.S.Source.left c.args.source.now) (g.S.Source.left c.loop-buffers.source) (g.S.Source.left c.step.new.source)
          (Progress form rule 4294967295 n start mid w0 w1) (StepLeaves form rule (nat_lt 0 n) mid next w1 w2 (Ok Answered)) (Progress form rule 4294967295 (n - 1) start next w0 w2)
          (λ t r u s split p h. progress_on form c.requires rule 4294967295 n start mid next w0 w1 w2 t r u s split some p h)
          c.loop-buffers.invariant.told (rw c.in-Answered.is at c.in_ok-step.ensures.told);
      source_count = c.in_ok-step.ensures.ok_keeps_counts.0 ∙ c.loop-buffers.invariant.source_count;
      sink_count = c.in_ok-step.ensures.ok_keeps_counts.1 ∙ c.loop-buffers.invariant.sink_count;
    }

pub returns-in_err-step-clause-state : goal.returns-in_err-step-clause-state
returns-in_err-step-clause-state g c =
    let p = err_from_is_err_and c.from_residual.result c.from_residual.ensures.1 in
    let form = g.A.Session.form in
    let rule = g.A.Session.rule in
    let n = c.loop-buffers.entries_left in
    let start = g.A.Session.state c.args.session.now c.args.subject.now in
    let mid = g.A.Session.state c.args.session.now c.loop-buffers.subject in
    let next = g.A.Session.state c.args.session.now c.step.new.subject in
    let w0 = g.K.Sink.written c.args.sink.now in
    let w1 = g.K.Sink.written c.loop-buffers.sink in
    let w2 = g.K.Sink.written c.step.new.sink in
    let e = c.in_err-step.field-0.0 in
    rw (p.1, p.2) (of_all (g.S.Source.left c.args.source.now) (g.S.Source.left c.step.new.source) (λ bytes. ReachesState rule start next (Err e) (framing form 4294967295 bytes).entries)
    (joined (g.S.Source.left c.args.source.now) (g.S.Source.left c.loop-buffers.source) (g.S.Source.left c.step.new.source)
    (Progress form rule 4294967295 n start mid w0 w1) (StepLeaves form rule (nat_lt 0 n) mid next w1 w2 (Err e)) (λ t r. ReachesState rule start next (Err e) (framing form 4294967295 (t ++ r)).entries)
    (λ t r u s split q h. state_ended form c.requires rule 4294967295 n start mid next w0 w1 w2 t r u s split q e h c.in_err-step.ensures.state)
    c.loop-buffers.invariant.told c.in_err-step.ensures.told))

pub returns-in-Closed-clause-state : goal.returns-in-Closed-clause-state
returns-in-Closed-clause-state g c =
    let form = g.A.Session.form in
    let rule = g.A.Session.rule in
    let n = c.loop-buffers.entries_left in
    let start = g.A.Session.state c.args.session.now c.args.subject.now in
    let mid = g.A.Session.state c.args.session.now c.loop-buffers.subject in
    let next = g.A.Session.state c.args.session.now c.step.new.subject in
    let w0 = g.K.Sink.written c.args.sink.now in
    let w1 = g.K.Sink.written c.loop-buffers.sink in
    let w2 = g.K.Sink.written c.step.new.sink in
    of_all (g.S.Source.left c.args.source.now) (g.S.Source.left c.step.new.source) (λ bytes. ReachesState rule start next (Ok tt) (framing form 4294967295 bytes).entries)
    (joined (g.S.Source.left c.args.source.now) (g.S.Source.left c.loop-buffers.source) (g.S.Source.left c.step.new.source)
    (Progress form rule 4294967295 n start mid w0 w1) (StepLeaves form rule (nat_lt 0 n) mid next w1 w2 (Ok Closed)) (λ t r. ReachesState rule start next (Ok tt) (framing form 4294967295 (t ++ r)).entries)
    (λ t r u s split q h. state_closed form c.requires rule 4294967295 n start mid next w0 w1 w2 t r u s split q h (rw c.in-Closed.is at c.in_ok-step.ensures.state))
    c.loop-buffers.invariant.told (rw c.in-Closed.is at c.in_ok-step.ensures.told))
