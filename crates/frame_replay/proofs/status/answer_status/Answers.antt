use Rattle.std.proofs.Common.{sym, ◌∙◌}
use Rattle.frame_replay.proofs.Statuses.{refused_from}
use Rattle.frame_replay.proofs.status.answer_status.Goals as goal

pub returns-clause-refused : goal.returns-clause-refused
returns-clause-refused g c e =
    refused_from g.A.Session.rule (g.S.Source.faults c.args.source.now) (g.S.Source.faults c.answer_input-ended.new.source) (g.K.Sink.faults c.args.sink.now) (g.K.Sink.faults c.answer_input-ended.new.sink)
    c.answer_input-ended.result c.answer_input-ended.ensures.causes (sym c.status.ensures ∙ e)
