use Rattle.std.proofs.Common.{rules, arith, length, ◌-◌, ◌∙◌}
use Rattle.wr_io.proofs.Filling.{read_more, read_end, room_stays}
use Rattle.wr_io.proofs.streams.read_exact.Goals as goal

pub loop-filled-preserved : goal.loop-filled-preserved
loop-filled-preserved g c = record {
  within = search rules;
  told = read_more (g.S.Source.left c.args.source.now) (g.S.Source.left c.loop-filled.source) (g.S.Source.left c.read.new.self) c.loop-filled.out c.read.new.out c.loop-filled.filled c.in_ok-count.count
      c.loop-filled.invariant.within c.in_ok-count.ensures.count c.loop-filled.invariant.told c.in_ok-count.ensures.told;
  same_count = c.in_ok-count.ensures.ok_keeps_count ∙ c.loop-filled.invariant.same_count;
  no_call = λ e. absurd (omega (arith, e, room_stays c.loop-filled.filled (length c.loop-filled.out - c.loop-filled.filled) c.loop-filled.out c.read.new.out c.loop-filled.invariant.within));
}

pub returns-then-count-eq0-clause-told : goal.returns-then-count-eq0-clause-told
returns-then-count-eq0-clause-told g c =
    read_end (g.S.Source.left c.args.source.now) (g.S.Source.left c.loop-filled.source) (g.S.Source.left c.read.new.self) c.loop-filled.out c.read.new.out c.loop-filled.filled c.in_ok-count.count
    c.loop-filled-test.true (search rules) c.if-count-eq0.true c.loop-filled.invariant.told c.in_ok-count.ensures.told
