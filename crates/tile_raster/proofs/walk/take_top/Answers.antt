use Rattle.std.proofs.Common.{◌≡◌, ◌<◌, ◌≤◌, ◌+◌, ◌-◌, ℕ, suc, length, inl, inr, ap, subst, ◌∙◌, arith}
use Rattle.tile_raster.specs.Lists.{entries_of}
use Rattle.tile_raster.specs.Levels.{IsAt}
use Rattle.tile_raster.specs.Rows.{pixel}
use Rattle.tile_raster.specs.Spans.{x_of}
use Rattle.tile_raster.specs.Rasters.{start_of, start_at}
use Rattle.tile_raster.proofs.Levels.{dropped_as, same_level, before_primitive, before_pop, level_by_push, level_between}
use Rattle.tile_raster.proofs.Begun.{begun_taken, begun_same}
use Rattle.tile_raster.proofs.Entries.{entry_is, fact_at, note_is, starts_inside}
use Rattle.tile_raster.proofs.walk.take_top.Goals as goal

pub unreachable-requires : goal.unreachable-requires
unreachable-requires c =
    let es = (entries_of c.args.drawing.entries) in
    let l = c.args.level in
    let i = c.args.i - 1 in
    let next : c.args.i ≡ i + 1 = omega (arith, c.requires.some) in
    let in_list : i < length es = omega (arith, c.requires.some, c.requires.order, c.requires.level.inside) in
    let low : l.from ≤ i = omega (arith, c.requires.some) in
    let own = dropped_as es i _ _ in_list (c.at.ensures _) (c.in-Push.is) in
    let here = level_between es l.depth l.from i low c.requires.level.place in
    let up = level_by_push es l.depth here.0 i _ _ _ own here.1 (subst (λ (k : ℕ). IsAt es l.depth k) next c.requires.place) in
    omega (arith, up, c.requires.level.within i here.0 low (omega (arith, c.requires.order)) here.1)

pub returns-then-note-clause-begun : goal.returns-then-note-clause-begun
returns-then-note-clause-begun c k h =
    let es = (entries_of c.args.drawing.entries) in
    let store = c.args.drawing.store.now in
    let l = c.args.level in
    let i = c.args.i - 1 in
    let first = c.args.strip.first in
    let next : c.args.i ≡ i + 1 = omega (arith, c.requires.some) in
    let in_list : i < length es = omega (arith, c.requires.some, c.requires.order, c.requires.level.inside) in
    let low : l.from ≤ i = omega (arith, c.requires.some) in
    let same = c.in-Primitive.is in
    let own = dropped_as es i _ _ in_list (c.at.ensures _) same in
    let is = entry_is es i _ _ in_list (c.at.ensures _) same in
    let note = note_is store es i _ _ is c.note_at-note.ensures in
    let place = before_primitive es l.depth i _ own (subst (λ (k : ℕ). IsAt es l.depth k) next c.requires.place) in
    elim (c.take_opaque.ensures.taken.inside k h) [
      | inl left ↦ begun_same store es l.depth l.from l.to l.from (x_of first k) first.y (start_at c.args.rows.now.cover k) (start_at c.take_opaque.new.cover k) (pixel c.args.row.now k) (pixel c.take_opaque.new.row k)
          (ap start_of left.depth) left.colour (c.requires.begun k h)
      | inr taken ↦ begun_taken store es l.depth l.from l.to i (x_of first k) first.y (start_at c.take_opaque.new.cover k) (pixel c.take_opaque.new.row k) _
          low (omega (arith, c.requires.order, next)) c.requires.level.place place c.requires.level.within c.requires.drawing.store c.requires.drawing.entries own
          (fact_at es i _ c.requires.drawing.entries in_list is) (note.opaque c.if-note.true) taken.inside taken.whole (ap start_of taken.depth ∙ omega arith) taken.colour
    ]

pub returns-in-Pop-clause-left : goal.returns-in-Pop-clause-left
returns-in-Pop-clause-left c =
    let es = (entries_of c.args.drawing.entries) in
    let store = c.args.drawing.store.now in
    let l = c.args.level in
    let i = c.args.i - 1 in
    let next : c.args.i ≡ i + 1 = omega (arith, c.requires.some) in
    let in_list : i < length es = omega (arith, c.requires.some, c.requires.order, c.requires.level.inside) in
    let low : l.from ≤ i = omega (arith, c.requires.some) in
    let same = c.in-Pop.is in
    let own = dropped_as es i _ _ in_list (c.at.ensures _) same in
    let note = note_is store es i _ _ (entry_is es i _ _ in_list (c.at.ensures _) same) c.note_at-note.ensures in
    let place = before_pop es l.depth i own (subst (λ (k : ℕ). IsAt es l.depth k) next c.requires.place) in
    starts_inside es l.depth l.from c.note_at-note.result.partner i c.requires.level.place low (note l.depth (same_level es (suc l.depth) (l.depth + 1) i (omega arith) place))

pub returns-in-Pop-clause-less : goal.returns-in-Pop-clause-less
returns-in-Pop-clause-less c =
    let es = (entries_of c.args.drawing.entries) in
    let store = c.args.drawing.store.now in
    let l = c.args.level in
    let i = c.args.i - 1 in
    let next : c.args.i ≡ i + 1 = omega (arith, c.requires.some) in
    let in_list : i < length es = omega (arith, c.requires.some, c.requires.order, c.requires.level.inside) in
    let same = c.in-Pop.is in
    let own = dropped_as es i _ _ in_list (c.at.ensures _) same in
    let note = note_is store es i _ _ (entry_is es i _ _ in_list (c.at.ensures _) same) c.note_at-note.ensures in
    let place = before_pop es l.depth i own (subst (λ (k : ℕ). IsAt es l.depth k) next c.requires.place) in
    omega (arith, next, (note l.depth (same_level es (suc l.depth) (l.depth + 1) i (omega arith) place)).order)
