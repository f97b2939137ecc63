use Rattle.std.proofs.Common.{List, ℕ, [], Some, None, Ok, Err, refl, sym, ap, subst, ◌∙◌}
use Rattle.std.proofs.lemmas.Result.{err_from_is_err_and}
use Rattle.record_frame.specs.Errors.{unanswered_input, unread_input}
use Rattle.record_frame.specs.Answers.{AnswersBy, unless}
use Rattle.record_frame.specs.Reading.{Decides, record_read}
use Rattle.record_frame.specs.Steps.{StepLeaves, whole, close}
use Rattle.record_frame.specs.declared.error.RunError.TheVariants.{WriteFailed}
use Rattle.record_frame.proofs.Takings.{weaker}
use Rattle.record_frame.proofs.Writing.{none_written}
use Rattle.record_frame.proofs.Progress.{step_unanswered, step_unread}
use Rattle.record_frame.proofs.States.{unanswered_state, unread_state}
use Rattle.record_frame.proofs.records.step.Goals as goal

pub returns-in_err-write-in-None-clause-told : goal.returns-in_err-write-in-None-clause-told
returns-in_err-write-in-None-clause-told g c =
    let p = err_from_is_err_and c.from_residual-in_err-write-in-None.result c.from_residual-in_err-write-in-None.ensures.1 in
    let form = g.A.Session.form in
    let state = g.A.Session.state c.args.session.now c.args.subject.now in
    let old = g.K.Sink.written c.args.sink.now in
    let new = g.K.Sink.written c.write.new.sink in
    let w = c.in_err-write-in-None.ensures.told in
    rw (p.1, p.2 ∙ c.in_err-write-in-None.ensures.causes.0) (weaker (g.S.Source.left c.args.source.now) (g.S.Source.left c.read.new.source)
    (Decides 5 (form.first c.args.is_allowed) (record_read g.A.Session.entry_of c.read.new.payload.items) (Ok None))
    (StepLeaves form g.A.Session.rule c.args.is_allowed state state old new (Err WriteFailed))
    (λ t r h. record { found = close h; out = []; part = ([], refl); wrote = none_written old new w.0 w.2 w.3 })
    (rw c.in-None.is at c.in_ok-read.ensures.told))

pub returns-in_err-answer-in-Some-clause-told : goal.returns-in_err-answer-in-Some-clause-told
returns-in_err-answer-in-Some-clause-told g c =
    let p = err_from_is_err_and c.from_residual-in_err-answer-in-Some.result c.from_residual-in_err-answer-in-Some.ensures.1 in
    let form = g.A.Session.form in
    let rule = g.A.Session.rule in
    let state = g.A.Session.state c.args.session.now c.args.subject.now in
    let next = g.A.Session.state c.args.session.now c.answer.new.subject in
    let old = g.K.Sink.written c.args.sink.now in
    let items = c.read.new.payload.items in
    let e = c.in_err-answer-in-Some.field-0.0 in
    rw (p.1, p.2) (weaker (g.S.Source.left c.args.source.now) (g.S.Source.left c.read.new.source)
    (Decides 5 (form.first c.args.is_allowed) (record_read g.A.Session.entry_of items) (Ok (Some c.in-Some.head)))
    (StepLeaves form rule c.args.is_allowed state next old old (Err (unanswered_input e)))
    (λ t r h. step_unanswered form rule c.args.is_allowed state next old (g.A.Session.entry_of c.in-Some.head items) c.answer.new.out.items e t r
    (subst (λ (b : List ℕ). AnswersBy rule (g.A.Session.entry_of c.in-Some.head b) state next c.answer.new.out.items (Err e)) c.deref.ensures.value c.in_err-answer-in-Some.ensures) h)
    (rw c.in-Some.is at c.in_ok-read.ensures.told))

pub returns-in_err-write-in-Some-clause-told : goal.returns-in_err-write-in-Some-clause-told
returns-in_err-write-in-Some-clause-told g c =
    let p = err_from_is_err_and c.from_residual-in_err-write-in-Some.result c.from_residual-in_err-write-in-Some.ensures.1 in
    let form = g.A.Session.form in
    let rule = g.A.Session.rule in
    let state = g.A.Session.state c.args.session.now c.args.subject.now in
    let next = g.A.Session.state c.args.session.now c.answer.new.subject in
    let old = g.K.Sink.written c.args.sink.now in
    let new = g.K.Sink.written c.write-in-Some.new.sink in
    let items = c.read.new.payload.items in
    let r = g.A.Session.entry_of c.in-Some.head items in
    let a = rw c.deref.ensures.value at c.in_ok-answer-in-Some.ensures in
    let w = c.in_err-write-in-Some.ensures.told in
    rw (p.1, p.2 ∙ c.in_err-write-in-Some.ensures.causes.0) (weaker (g.S.Source.left c.args.source.now) (g.S.Source.left c.read.new.source)
    (Decides 5 (form.first c.args.is_allowed) (record_read g.A.Session.entry_of items) (Ok (Some c.in-Some.head)))
    (StepLeaves form rule c.args.is_allowed state next old new (Err WriteFailed))
    (λ t s h. record { found = whole r h; out = w.0; part = (w.1.0, ap (λ o. unless o (rule.record_of r state)) a.0 ∙ sym (c.deref-in-Some.ensures.value ∙ a.2) ∙ w.1.1); wrote = w.3 })
    (rw c.in-Some.is at c.in_ok-read.ensures.told))

pub returns-in_err-read-clause-told : goal.returns-in_err-read-clause-told
returns-in_err-read-clause-told g c =
    let p = err_from_is_err_and c.from_residual.result c.from_residual.ensures.1 in
    let form = g.A.Session.form in
    let rule = g.A.Session.rule in
    let state = g.A.Session.state c.args.session.now c.args.subject.now in
    let w = g.K.Sink.written c.args.sink.now in
    let e = c.in_err-read.field-0.0 in
    let found = record_read g.A.Session.entry_of c.read.new.payload.items in
    rw (p.1, p.2) (weaker (g.S.Source.left c.args.source.now) (g.S.Source.left c.read.new.source)
    (Decides 5 (form.first c.args.is_allowed) found (Err e)) (StepLeaves form rule c.args.is_allowed state state w w (Err (unread_input e)))
    (λ t r h. step_unread form rule c.args.is_allowed state w found e t r h) c.in_err-read.ensures.told)

pub returns-in_err-read-clause-state : goal.returns-in_err-read-clause-state
returns-in_err-read-clause-state g c =
    let p = err_from_is_err_and c.from_residual.result c.from_residual.ensures.1 in
    rw (p.1, p.2) (unread_state c.in_err-read.field-0.0 (g.A.Session.state c.args.session.now c.args.subject.now))

pub returns-in_err-answer-in-Some-clause-state : goal.returns-in_err-answer-in-Some-clause-state
returns-in_err-answer-in-Some-clause-state g c =
    let p = err_from_is_err_and c.from_residual-in_err-answer-in-Some.result c.from_residual-in_err-answer-in-Some.ensures.1 in
    rw (p.1, p.2) (unanswered_state c.in_err-answer-in-Some.field-0.0 (g.A.Session.state c.args.session.now c.args.subject.now) (g.A.Session.state c.args.session.now c.answer.new.subject))
