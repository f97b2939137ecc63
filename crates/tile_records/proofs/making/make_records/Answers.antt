use Rattle.tile_records.specs.declared.tiles.Tiles.TheVariants.{Grid}
use Rattle.tile_records.specs.Passing.{joined, keys_of_records}
use Rattle.tile_records.proofs.Claims.{acquired_moves}
use Rattle.tile_records.proofs.Interns.{entries_are, records_held}
use Rattle.tile_records.proofs.making.make_records.Goals as goal

pub returns : goal.returns
returns c =
    let a = c.in_ok-records.ensures.ok in
    let new = c.make.new.interner in
    record {
      count = a.count;
      entries = λ i h. entries_are new _ _ (a.entries i h);
      held = records_held (Grid c.args.grid) c.args.entries.now new (keys_of_records c.in_ok-records.records.items) a;
      counts = c.in_ok-records.ensures.counts;
      moves = acquired_moves c.args.interner.now new (joined (keys_of_records c.in_ok-records.records.items)) c.in_ok-records.ensures.counts;
      err = tt;
    }
