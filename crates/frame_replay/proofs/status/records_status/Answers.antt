use Rattle.std.proofs.Common.{◌++◌, [], sym, ◌∙◌}
use Rattle.record_frame.specs.Framing.{framing}
use Rattle.record_frame.specs.Answers.{output_from}
use Rattle.record_frame.specs.Steps.{BodyLeaves, ReachesState}
use Rattle.record_frame.proofs.States.{of_all}
use Rattle.record_frame.proofs.Takings.{weaker}
use Rattle.frame_replay.specs.Outcome.{BodyCompletes, BodyOutcome, ReachesEnd}
use Rattle.frame_replay.proofs.Outcomes.{body_completes_of, ends_of, if_some}
use Rattle.frame_replay.proofs.Statuses.{refused_from}
use Rattle.frame_replay.proofs.status.records_status.Goals as goal

pub returns-clause-told : goal.returns-clause-told
returns-clause-told g c =
    let output = output_from g.A.Session.form [] g.A.Session.rule (g.A.Session.state c.args.session.now c.args.subject.now) in
    let old = g.K.Sink.written c.args.sink.now in
    let new = g.K.Sink.written c.answer_records-ended.new.sink in
    let ended = c.answer_records-ended.result in
    weaker (g.S.Source.left c.args.source.now) (g.S.Source.left c.answer_records-ended.new.source) (BodyLeaves output 4294967295 old new ended) (BodyOutcome output c.status.result old new)
    (λ t r h. record { ended = ended; is = c.status.ensures; leaves = h }) c.answer_records-ended.ensures.told

pub returns-clause-state : goal.returns-clause-state
returns-clause-state g c =
    let rule = g.A.Session.rule in
    let start = g.A.Session.state c.args.session.now c.args.subject.now in
    let now = g.A.Session.state c.args.session.now c.answer_records-ended.new.subject in
    let ended = c.answer_records-ended.result in
    if_some (g.S.Source.left c.args.source.now) (λ bytes. ReachesState rule start now ended (framing g.A.Session.form 4294967295 bytes).entries) (λ bytes. ReachesEnd rule c.status.result start now (framing g.A.Session.form 4294967295 bytes).entries)
    (λ bytes h. rw c.status.ensures (ends_of rule start now (framing g.A.Session.form 4294967295 bytes).entries ended h)) c.answer_records-ended.ensures.state

pub returns-clause-refused : goal.returns-clause-refused
returns-clause-refused g c e =
    refused_from g.A.Session.rule (g.S.Source.faults c.args.source.now) (g.S.Source.faults c.answer_records-ended.new.source) (g.K.Sink.faults c.args.sink.now) (g.K.Sink.faults c.answer_records-ended.new.sink)
    c.answer_records-ended.result c.answer_records-ended.ensures.causes (sym c.status.ensures ∙ e)

pub returns-clause-complete : goal.returns-clause-complete
returns-clause-complete g c no_read no_write =
    let output = output_from g.A.Session.form [] g.A.Session.rule (g.A.Session.state c.args.session.now c.args.subject.now) in
    let old = g.K.Sink.written c.args.sink.now in
    let new = g.K.Sink.written c.answer_records-ended.new.sink in
    let ended = c.answer_records-ended.result in
    of_all (g.S.Source.left c.args.source.now) (g.S.Source.left c.answer_records-ended.new.source) (BodyCompletes output c.status.result)
    (weaker (g.S.Source.left c.args.source.now) (g.S.Source.left c.answer_records-ended.new.source) (BodyLeaves output 4294967295 old new ended) (λ t r. BodyCompletes output c.status.result (t ++ r))
    (λ t r h. rw c.status.ensures (body_completes_of output old new t r ended h (rw c.status.ensures at no_read) (rw c.status.ensures at no_write))) c.answer_records-ended.ensures.told)
