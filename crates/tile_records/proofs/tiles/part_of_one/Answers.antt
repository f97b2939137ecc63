use Rattle.std.proofs.Common.{sym, ◌∙◌}
use Rattle.tile_records.proofs.Ones.{one_met, one_missed}
use Rattle.tile_records.proofs.tiles.part_of_one.Goals as goal

pub returns-then-meets-clause-meets : goal.returns-then-meets-clause-meets
returns-then-meets-clause-meets c x y h k = one_met x y _ h k (sym c.meets.ensures ∙ c.if-meets.true)

pub returns-else-meets-clause-meets : goal.returns-else-meets-clause-meets
returns-else-meets-clause-meets c x y h k = one_missed x y _ h k (sym c.meets.ensures ∙ c.if-meets.false)
