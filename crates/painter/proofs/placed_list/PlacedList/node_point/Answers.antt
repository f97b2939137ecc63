use Rattle.painter.proofs.Reaching.{origin_within}
use Rattle.painter.proofs.placed_list.PlacedList.node_point.Goals as goal

pub node_offset-requires-clause-origin : goal.node_offset-requires-clause-origin
node_offset-requires-clause-origin c = origin_within (record { pipeline = c.self.inside.pipeline; list = c.self.inside.list.now; moves = c.self.inside.moves.now; origin = c.self.inside.origin }) c.self.invariant
