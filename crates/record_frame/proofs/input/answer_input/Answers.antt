use Rattle.std.proofs.Common.{◌++◌, [], Ok, Err, refl}
use Rattle.std.proofs.lemmas.Result.{err_from_is_err_and}
use Rattle.record_frame.specs.Framing.{entries_of, framing}
use Rattle.record_frame.specs.Answers.{output_from}
use Rattle.record_frame.specs.Steps.{BodyLeaves, ReachesState}
use Rattle.record_frame.specs.Outcome.{OpeningLeaves, InputLeaves}
use Rattle.record_frame.proofs.Takings.{weaker, joined}
use Rattle.record_frame.proofs.Progress.{body_with}
use Rattle.record_frame.proofs.Magic.{input_after}
use Rattle.record_frame.proofs.Openings.{input_unopened}
use Rattle.record_frame.proofs.States.{after_opening, of_all, state_opened, state_unopened}
use Rattle.record_frame.proofs.input.answer_input.Goals as goal

pub returns-in_err-open_input-clause-told : goal.returns-in_err-open_input-clause-told
returns-in_err-open_input-clause-told g c =
    let p = err_from_is_err_and c.from_residual.result c.from_residual.ensures.1 in
    let e = c.in_err-open_input.field-0.0 in
    let output = output_from g.A.Session.form c.args.magic.now g.A.Session.rule (g.A.Session.state c.args.session.now c.args.subject.now) in
    let old = g.K.Sink.written c.args.sink.now in
    let new = g.K.Sink.written c.open_input.new.sink in
    rw (p.1, p.2) (weaker (g.S.Source.left c.args.source.now) (g.S.Source.left c.open_input.new.source) (OpeningLeaves output.form.opens output.magic old new (Err e)) (InputLeaves output old new (Err e))
    (λ t r h. input_unopened output c.requires refl old new e t r h) c.in_err-open_input.ensures.told)

pub returns-in_err-open_input-clause-state : goal.returns-in_err-open_input-clause-state
returns-in_err-open_input-clause-state g c =
    let p = err_from_is_err_and c.from_residual.result c.from_residual.ensures.1 in
    let e = c.in_err-open_input.field-0.0 in
    let rule = g.A.Session.rule in
    let start = g.A.Session.state c.args.session.now c.args.subject.now in
    let output = output_from g.A.Session.form c.args.magic.now rule start in
    let old = g.K.Sink.written c.args.sink.now in
    let new = g.K.Sink.written c.open_input.new.sink in
    rw (p.1, p.2) (of_all (g.S.Source.left c.args.source.now) (g.S.Source.left c.open_input.new.source) (λ bytes. ReachesState rule start start (Err e) (entries_of output.form bytes))
    (weaker (g.S.Source.left c.args.source.now) (g.S.Source.left c.open_input.new.source) (OpeningLeaves output.form.opens output.magic old new (Err e)) (λ t r. ReachesState rule start start (Err e) (entries_of output.form (t ++ r)))
    (λ t r h. state_unopened output rule start old new e t r h) c.in_err-open_input.ensures.told))

pub returns-clause-told : goal.returns-clause-told
returns-clause-told g c =
    let form = g.A.Session.form in
    let rule = g.A.Session.rule in
    let start = g.A.Session.state c.args.session.now c.args.subject.now in
    let output = output_from form c.args.magic.now rule start in
    let w0 = g.K.Sink.written c.args.sink.now in
    let w1 = g.K.Sink.written c.open_input.new.sink in
    let w2 = g.K.Sink.written c.answer_records.new.sink in
    let ended = c.answer_records.result in
    joined (g.S.Source.left c.args.source.now) (g.S.Source.left c.open_input.new.source) (g.S.Source.left c.answer_records.new.source)
    (OpeningLeaves output.form.opens output.magic w0 w1 (Ok tt)) (BodyLeaves (output_from form [] rule start) 4294967295 w1 w2 ended) (InputLeaves output w0 w2 ended)
    (λ t r u s split h q. input_after output c.requires refl w0 w1 w2 t u s h.1 h.0.0 h.0.1 ended (body_with form c.args.magic.now rule start 4294967295 w1 w2 ended u s q))
    c.in_ok-open_input.ensures.told c.answer_records.ensures.told

pub returns-clause-state : goal.returns-clause-state
returns-clause-state g c =
    let form = g.A.Session.form in
    let rule = g.A.Session.rule in
    let start = g.A.Session.state c.args.session.now c.args.subject.now in
    let now = g.A.Session.state c.args.session.now c.answer_records.new.subject in
    let output = output_from form c.args.magic.now rule start in
    let w0 = g.K.Sink.written c.args.sink.now in
    let w1 = g.K.Sink.written c.open_input.new.sink in
    let ended = c.answer_records.result in
    after_opening (g.S.Source.left c.args.source.now) (g.S.Source.left c.open_input.new.source) (OpeningLeaves output.form.opens output.magic w0 w1 (Ok tt))
    (λ bytes. ReachesState rule start now ended (framing form 4294967295 bytes).entries) (λ bytes. ReachesState rule start now ended (entries_of form bytes))
    (λ t r h reached. state_opened output rule start now ended t r h.0 reached)
    c.in_ok-open_input.ensures.told c.answer_records.ensures.state
