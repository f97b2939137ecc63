use Rattle.std.proofs.Common.{Ok, Err}
use Rattle.std.proofs.lemmas.Result.{err_from_is_err_and}
use Rattle.record_frame.specs.Errors.{unread_input}
use Rattle.record_frame.specs.Outcome.{Opens, OpeningLeaves}
use Rattle.record_frame.proofs.Takings.{weaker}
use Rattle.record_frame.proofs.Openings.{cause_of, opening_told, opening_unread}
use Rattle.record_frame.proofs.input.open_input.Goals as goal

pub returns-in_err-read_magic-clause-told : goal.returns-in_err-read_magic-clause-told
returns-in_err-read_magic-clause-told g c =
    let p = err_from_is_err_and c.from_residual.result c.from_residual.ensures.1 in
    let e = c.in_err-read_magic.field-0.0 in
    let opens = g.A.Session.form.opens in
    let w = g.K.Sink.written c.args.sink.now in
    rw (p.1, p.2) (weaker (g.S.Source.left c.args.source.now) (g.S.Source.left c.read_magic.new.source) (Opens opens (Err e)) (OpeningLeaves opens c.args.magic.now w w (Err (unread_input e)))
    (λ t r h. opening_unread opens c.args.magic.now w e t r h) c.in_err-read_magic.ensures.told)

pub returns-clause-told : goal.returns-clause-told
returns-clause-told g c =
    let opens = g.A.Session.form.opens in
    let old = g.K.Sink.written c.args.sink.now in
    let new = g.K.Sink.written c.write.new.sink in
    let ended = c.write.result in
    weaker (g.S.Source.left c.args.source.now) (g.S.Source.left c.read_magic.new.source) (Opens opens (Ok tt)) (OpeningLeaves opens c.args.magic.now old new ended)
    (λ t r h. opening_told opens c.args.magic.now old new ended (cause_of c.write.result (g.K.Sink.faults c.args.sink.now) (g.K.Sink.faults c.write.new.sink) c.write.ensures.causes) t r h c.write.ensures.told) c.in_ok-read_magic.ensures.told
