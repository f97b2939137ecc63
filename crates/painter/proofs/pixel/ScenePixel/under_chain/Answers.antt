use Rattle.painter.proofs.Reaching.{origin_within}
use Rattle.painter.proofs.pixel.ScenePixel.under_chain.Goals as goal

pub chain_cover_at-requires-clause-origin : goal.chain_cover_at-requires-clause-origin
chain_cover_at-requires-clause-origin c =
    origin_within (record { pipeline = c.placed.inside.pipeline; list = c.placed.inside.list.now; moves = c.placed.inside.moves.now; origin = c.placed.inside.origin }) c.placed.invariant
