use Rattle.std.proofs.Common.{refl}
use Rattle.tile_records.proofs.Middles.{middles_matter_inside, dirt_is_enough, same_is_clean, dirt_is_in_tile}
use Rattle.tile_records.proofs.Stale.{nothing_is_stale}
use Rattle.tile_records.proofs.laws.dirt_laws.Goals as goal

pub returns-clause-middles : goal.returns-clause-middles
returns-clause-middles c = middles_matter_inside

pub returns-clause-enough : goal.returns-clause-enough
returns-clause-enough c = dirt_is_enough (λ a b h. (c.entry_order_laws.ensures.equality a b).0 h)

pub returns-clause-stale : goal.returns-clause-stale
returns-clause-stale c = nothing_is_stale (λ a b h. (c.entry_order_laws.ensures.equality a b).0 h)

pub returns-clause-same : goal.returns-clause-same
returns-clause-same c = same_is_clean (λ a b h. (c.entry_order_laws.ensures.equality a b).0 h) (λ a. (c.entry_order_laws.ensures.equality a a).1 refl)

pub returns-clause-tile : goal.returns-clause-tile
returns-clause-tile c = dirt_is_in_tile
