use Rattle.std.proofs.Common.{◌≡◌, ℕ, List, subst, ◌∙◌, arith}
use Rattle.record_frame.specs.Writing.{IsPrefix, Wrote}
use Rattle.record_frame.proofs.Writing.{note_written}
use Rattle.frame_replay.specs.Load.{summary}
use Rattle.frame_replay.proofs.load.load.Goals as goal

pub returns-clause-told : goal.returns-clause-told
returns-clause-told g c =
    let old = g.K.Sink.written c.args.sink.now in
    let new = g.K.Sink.written c.write_whole.new.sink in
    let text : c.as_slice.result.now ≡ summary c.args.number c.args.count = c.as_slice.ensures.value ∙ c.in-Ok.ensures.text in
    record {
      done = λ e. absurd (omega (arith, e));
      part = subst (λ (bytes : List ℕ). (out : List ℕ) × IsPrefix out bytes × Wrote old new out) text (note_written old new c.as_slice.result.now c.write_whole.result c.write_whole.ensures.told);
    }
