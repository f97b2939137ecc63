use Rattle.std.proofs.Common.{rules, ◌<◌, length, arith}
use Rattle.std.proofs.lemmas.List.{length-map}
use Rattle.tile_records.specs.Interning.{record_keys}
use Rattle.tile_records.proofs.GroupSteps.{popped}
use Rattle.tile_records.proofs.Interns.{one_record}
use Rattle.tile_records.proofs.making.make_record.Goals as goal

pub unwrap-requires : goal.unwrap-requires
unwrap-requires c =
    let e = length-map c.in_ok-records.records.items record_keys in
    let f = c.in_ok-records.ensures.ok.count in
    let h : 0 < length c.in_ok-records.records.items = omega (arith, e, f) in
    search rules

pub returns : goal.returns
returns c =
    let h = one_record c.args.interner.now c.make.new.interner c.args.rect c.args.entries.now c.in_ok-records.records.items c.pop.new.self.items c.unwrap.result c.in_ok-records.ensures.ok c.in_ok-records.ensures.counts
    (popped c.in_ok-records.records.items c.pop.new.self.items c.pop.result c.unwrap.result c.pop.ensures.items c.unwrap.ensures) in
    record { entries = h.entries; held = h.held; counts = h.counts; moves = h.moves; err = tt }
