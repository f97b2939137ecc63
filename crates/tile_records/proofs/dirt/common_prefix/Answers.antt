use Rattle.std.proofs.Common.{◌≡◌, ◌∙◌, get_or, true, false, arith}
use Rattle.tile_records.specs.Dirt.{no_id, same_id}
use Rattle.tile_records.proofs.Commons.{common_step, common_stop, common_end}
use Rattle.tile_records.proofs.dirt.common_prefix.Goals as goal

pub returns-clause-longest : goal.returns-clause-longest
returns-clause-longest c = c.loop-i.invariant ∙ common_end c.args.old.now c.args.new.now c.loop-i.i c.min.result (omega arith) (omega arith) (omega arith)

pub loop-i-preserved : goal.loop-i-preserved
loop-i-preserved c =
    let e : same_id (get_or c.args.old.now c.loop-i.i no_id) (get_or c.args.new.now c.loop-i.i no_id) ≡ true = cc in
    c.loop-i.invariant ∙ common_step c.args.old.now c.args.new.now c.loop-i.i (omega arith) (omega arith) e

pub returns-then-not-same_at-clause-longest : goal.returns-then-not-same_at-clause-longest
returns-then-not-same_at-clause-longest c =
    let e : same_id (get_or c.args.old.now c.loop-i.i no_id) (get_or c.args.new.now c.loop-i.i no_id) ≡ false = cc in
    c.loop-i.invariant ∙ common_stop c.args.old.now c.args.new.now c.loop-i.i (omega arith) (omega arith) e
