-- The order of entries is a total one.
use Rattle.std.specs.Cmp.{IsTotalOrder}
use Rattle.primitives.specs.contracts.entry.EntryOrd.TheImpl.Laws.{total-law}
use Rattle.tile_records.specs.Keys.{entry_cmp}

pub entry_total : IsTotalOrder entry_cmp
entry_total = total-law
