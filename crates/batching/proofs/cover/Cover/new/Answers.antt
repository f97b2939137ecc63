use Rattle.batching.proofs.Rows.{row-open}
use Rattle.batching.proofs.cover.Cover.new.Goals as goal

pub returns : goal.returns
returns c = rw c.open_all.ensures.items (row-open c.args.width)
