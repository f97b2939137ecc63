use Rattle.txn_format.proofs.PutOps.{fits_at, more_written, all_written}
use Rattle.txn_format.proofs.writing.put_ops.Goals as goal

pub put_op-requires : goal.put_op-requires
put_op-requires c = fits_at c.args.ops.now c.loop-placed.placed-index _ c.loop-placed-test.true c.requires

pub loop-placed-preserved : goal.loop-placed-preserved
loop-placed-preserved c =
    more_written c.args.ops.now c.loop-placed.placed-index _ c.loop-placed.out.items c.put_op.new.out.items _ c.loop-placed-test.true c.in_ok-put_op.ensures c.loop-placed.invariant

pub returns : goal.returns
returns c = all_written c.args.ops.now c.loop-placed.placed-index c.loop-placed.out.items _ c.loop-placed-test.false c.loop-placed.invariant
