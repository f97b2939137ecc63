use Rattle.tile_records.proofs.Acquiring.{old_once, new_once}
use Rattle.tile_records.proofs.interner.Interner.acquire.Goals as goal

pub returns-in-Old : goal.returns-in-Old
returns-in-Old c =
    let f = rw c.in-Old.is at c.in_ok-id.ensures.ok in
    let h = old_once c.args.self.now c.find_or_add.new.self c.raise.new.self c.in-Old.id.key c.args.entry.now f.0 f.1 c.raise.ensures in
    record { entry = h.entry; counts = h.counts; moves = h.moves; err = tt }

pub returns-in-New : goal.returns-in-New
returns-in-New c =
    let f = rw c.in-New.is at c.in_ok-id.ensures.ok in
    let h = new_once c.args.self.now c.find_or_add.new.self c.raise-in-New.new.self c.in-New.id.key c.args.entry.now f.0 f.1 c.raise-in-New.ensures in
    record { entry = h.entry; counts = h.counts; moves = h.moves; err = tt }
