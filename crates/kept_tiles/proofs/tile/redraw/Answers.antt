use Rattle.std.proofs.Common.{[], subst, arith}
use Rattle.primitives.specs.Stacks.{value_at}
use Rattle.tile_store.specs.Tiles.{tile_at}
use Rattle.tile_records.specs.Counts.{Moves}
use Rattle.tile_records.specs.Interning.{entries_under, record_keys}
use Rattle.tile_raster.proofs.Held.{held_count}
use Rattle.kept_tiles.proofs.Dropping.{tile_there}
use Rattle.kept_tiles.proofs.Heading.{drawn_anew, note_before, still_kept}
use Rattle.kept_tiles.proofs.tile.redraw.Goals as goal

pub raster-requires-clause-few : goal.raster-requires-clause-few
raster-requires-clause-few c = omega (arith, held_count c.args.interner.now c.args.next.ids.items c.requires.held, c.requires.drawable.few)

pub swap_note-old-requires : goal.swap_note-old-requires
swap_note-old-requires c =
    let t = tile_there c.args.part (tile_at c.args.place.now.key c.args.tiles.now.tiles) c.requires.inside in
    record { kept = still_kept c.args.tiles.now c.raster.new.tiles c.args.place.now.key c.args.part t.0 (value_at (entries_under c.args.interner.now (record_keys c.args.next)) c.args.store.now) t.1 c.raster.ensures.drawn }

pub returns-clause-drawn : goal.returns-clause-drawn
returns-clause-drawn c t at =
    drawn_anew c.args.tiles.now c.raster.new.tiles c.swap_note-old.new.self c.args.place.now.key c.args.part t c.args.next
    (value_at (entries_under c.args.interner.now (record_keys c.args.next)) c.args.store.now) at c.raster.ensures.drawn c.swap_note-old.ensures.store

pub returns-clause-moves : goal.returns-clause-moves
returns-clause-moves c t at =
    subst (λ n. Moves c.args.interner.now c.give_up.new.interner (record_keys n) [])
    (note_before c.args.tiles.now c.raster.new.tiles c.args.place.now.key c.args.part t (value_at (entries_under c.args.interner.now (record_keys c.args.next)) c.args.store.now)
    c.swap_note-old.result at c.raster.ensures.drawn c.swap_note-old.ensures.old) c.give_up.ensures.moves
