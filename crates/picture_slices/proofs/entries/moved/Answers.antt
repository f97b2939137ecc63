use Rattle.picture_slices.proofs.Closeness.{entry_moves}
use Rattle.picture_slices.proofs.entries.moved.Goals as goal

pub shift-requires : goal.shift-requires
shift-requires c = entry_moves c.args.entry c.args.by c.requires.close c.requires.by
