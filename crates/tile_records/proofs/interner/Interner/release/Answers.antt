use Rattle.tile_records.proofs.Claims.{released_moves}
use Rattle.tile_records.proofs.Counting.{released_one}
use Rattle.tile_records.proofs.interner.Interner.release.Goals as goal

pub returns : goal.returns
returns c =
    let counts = released_one c.args.self.now c.lower.new.self c.args.id.key c.lower.ensures in
    record { counts = counts; moves = released_moves c.args.self.now c.lower.new.self _ counts }
