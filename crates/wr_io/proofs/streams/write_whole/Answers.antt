use Rattle.std.proofs.Common.{rules, arith, ◌∙◌}
use Rattle.wr_io.proofs.Filling.{write_more}
use Rattle.wr_io.proofs.streams.write_whole.Goals as goal

pub loop-done-preserved : goal.loop-done-preserved
loop-done-preserved g c = record {
  within = search rules;
  told = write_more (g.K.Sink.written c.args.sink.now) (g.K.Sink.written c.loop-done.sink) (g.K.Sink.written c.write.new.self) c.args.piece.now c.loop-done.done c.in_ok-done.field-0
      c.loop-done.invariant.told c.in_ok-done.ensures.told;
  same_count = c.in_ok-done.ensures.ok_keeps_count ∙ c.loop-done.invariant.same_count;
  no_call = λ e. absurd (omega (arith, e));
}
