use Rattle.std.proofs.Common.{◌≡◌, ◌<◌, ◌≤◌, ◌+◌, ◌⊎◌, ℕ, suc, length, inl, inr, ap, subst, ◌∙◌, arith, leb, if◌then◌else◌, refl}
use Rattle.std.proofs.lemmas.Int.{ints}
use Rattle.std.proofs.lemmas.Bool.{cases_lt}
use Rattle.blend_rules.specs.Colour.{scaled, blended}
use Rattle.blend_rules.specs.declared.colour.Px.{Px}
use Rattle.clip_masks.proofs.Chains.{within_cut}
use Rattle.tile_raster.specs.Lists.{entries_of}
use Rattle.tile_raster.specs.Levels.{IsBegun, over_primitive, over_group}
use Rattle.tile_raster.specs.Notes.{everywhere, IsPushNote}
use Rattle.tile_raster.specs.Rows.{pixel, IsIn}
use Rattle.tile_raster.specs.Spans.{x_of, coverage_at}
use Rattle.tile_raster.specs.Rasters.{start_at, IsWide, IsFit}
use Rattle.tile_raster.proofs.Levels.{dropped_as, same_level, after_push}
use Rattle.tile_raster.proofs.Begun.{begun_last, begun_primitive, begun_group, begun_hidden}
use Rattle.tile_raster.proofs.Entries.{entry_is, fact_at, note_is}
use Rattle.tile_raster.proofs.Groups.{opens_group, over_group_is, above_start, nothing_beside}
use Rattle.tile_raster.proofs.Wide.{rest_wide}
use Rattle.tile_raster.proofs.walk.+level.Goals as goal

pub draw_group-unreachable-requires : goal.draw_group-unreachable-requires
draw_group-unreachable-requires t c =
    let es = (entries_of c.args.drawing.entries) in
    let i = c.args.i in
    let in_list : i < length es = omega (arith, c.requires.order, c.requires.level.inside) in
    let e = c.at.result.now in
    let push = opens_group es c.args.level.depth i c.args.note.partner e (dropped_as es i e e in_list (c.at.ensures _) refl) c.requires.place c.requires.end in
    c.in_default.not-Push push.0 push.1 push.2 push.3

pub draw_group-returns-then-shown-clause-begun : goal.draw_group-returns-then-shown-clause-begun
draw_group-returns-then-shown-clause-begun t c k h =
    let es = (entries_of c.args.drawing.entries) in
    let store = c.args.drawing.store.now in
    let l = c.args.level in
    let i = c.args.i in
    let j = c.args.note.partner in
    let first = c.args.strip.first in
    let o = c.in-Push.opacity in
    let clips = c.in-Push.clips in
    let in_list : i < length es = omega (arith, c.requires.order, c.requires.level.inside) in
    let same = c.in-Push.is in
    let own = dropped_as es i _ _ in_list (c.at.ensures _) same in
    let is = entry_is es i _ _ in_list (c.at.ensures _) same in
    let note : IsPushNote es i clips c.args.note = note_is store es i _ _ is c.requires.note in
    let small = fact_at es i _ c.requires.drawing.entries in_list is in
    let shown = c.cut_strip-shown.result in
    let beside : (k < shown.from) ⊎ (shown.to ≤ k) = elim (cases_lt k shown.from) [ inl less ↦ inl less | inr more ↦ inr (omega (arith, more, c.if-shown.true)) ] in
    let none = nothing_beside clips c.args.note.shown first k note.shown c.requires.strip.first (omega (arith, ints, h.high, c.requires.strip.reach)) (c.cut_strip-shown.ensures.outside k h beside) in
    begun_hidden store es l.depth l.from l.to i j (x_of first k) first.y (start_at c.args.rows.now.cover k) (pixel c.args.row.now k) (pixel c.args.row.now k) o c.in-Push.mode clips own c.requires.end
    (same_level es (suc l.depth) (l.depth + 1) (i + 1) (omega arith) (after_push es l.depth i o c.in-Push.mode clips own c.requires.place)) c.requires.drawing.store c.requires.drawing.entries small
    (c.know_pixels.ensures k) none (c.requires.begun k h) refl

pub draw_group-fade_group-requires-clause-whole : goal.draw_group-fade_group-requires-clause-whole
draw_group-fade_group-requires-clause-whole t c w k h =
    let es = (entries_of c.args.drawing.entries) in
    let i = c.args.i in
    let first = c.args.strip.first in
    let clips = c.in-Push.clips in
    let in_list : i < length es = omega (arith, c.requires.order, c.requires.level.inside) in
    let is = entry_is es i _ _ in_list (c.at.ensures _) (c.in-Push.is) in
    let note : IsPushNote es i clips c.args.note = note_is c.args.drawing.store.now es i _ _ is c.requires.note in
    rw c.as_slice-clips.ensures (within_cut everywhere clips 255 (x_of first k) first.y (note.whole w) (rw note.shown at c.cut_strip-shown.ensures.inside k h))

pub draw_group-returns-clause-begun : goal.draw_group-returns-clause-begun
draw_group-returns-clause-begun t c k h =
    let es = (entries_of c.args.drawing.entries) in
    let store = c.args.drawing.store.now in
    let l = c.args.level in
    let i = c.args.i in
    let j = c.args.note.partner in
    let first = c.args.strip.first in
    let o = c.in-Push.opacity in
    let m = c.in-Push.mode in
    let clips = c.in-Push.clips in
    let cover = c.args.rows.now.cover in
    let d = pixel c.args.row.now k in
    let u = pixel c.lay_group.new.row k in
    let x = x_of first k in
    let y = first.y in
    let in_list : i < length es = omega (arith, c.requires.order, c.requires.level.inside) in
    let same = c.in-Push.is in
    let own = dropped_as es i _ _ in_list (c.at.ensures _) same in
    let is = entry_is es i _ _ in_list (c.at.ensures _) same in
    let note : IsPushNote es i clips c.args.note = note_is store es i _ _ is c.requires.note in
    let small = fact_at es i _ c.requires.drawing.entries in_list is in
    let shown = c.cut_strip-shown.result in
    let hidden : (k < shown.from) ⊎ (shown.to ≤ k) → u ≡ d → IsBegun store es l.depth l.from l.to (j + 1) x y (start_at cover k) u = λ beside stays.
    begun_hidden store es l.depth l.from l.to i j x y (start_at cover k) d u o m clips own c.requires.end
    (same_level es (suc l.depth) (l.depth + 1) (i + 1) (omega arith) (after_push es l.depth i o m clips own c.requires.place)) c.requires.drawing.store c.requires.drawing.entries small
    (c.know_pixels.ensures k) (nothing_beside clips c.args.note.shown first k note.shown c.requires.strip.first (omega (arith, ints, h.high, c.requires.strip.reach)) (c.cut_strip-shown.ensures.outside k h beside)) (c.requires.begun k h) stays in
    elim (cases_lt k shown.from) [
      | inl less ↦ hidden (inl less) (c.lay_group.ensures.before k less)
      | inr low ↦ elim (cases_lt k shown.to) [
        | inr more ↦ hidden (inr more) (c.lay_group.ensures.after k more)
        | inl high ↦
            let here : IsIn shown k = record { low = low; high = high } in
            let top = pixel c.draw_level.new.row k in
            let group = c.fade_group.new.group in
            let faded : blended m (pixel group k) d ≡ over_group o m clips x y top d =
            ap (λ (z : Px). blended m z d) (c.fade_group.ensures.group.inside k here ∙ ap (λ cs. scaled (scaled top o) (coverage_at cs first k)) c.as_slice-clips.ensures) ∙ over_group_is o m clips x y top d in
            begun_group store es l.depth l.from l.to i j x y (start_at cover k) d top u o m clips own c.requires.end (c.draw_level.ensures.run k here) (c.requires.begun k h)
            (c.lay_group.ensures.inside k here ∙ above_start (λ (n : ℕ) (z : Px). blended m (pixel group n) z) i cover k d ∙ ap (λ (z : Px). if leb (start_at cover k) i then z else d) faded)
      ]
    ]

pub draw_level-tops-init : goal.draw_level-tops-init
draw_level-tops-init t c = record {
  left = omega arith;
  right = c.requires.level.order;
  place = c.requires.level.place;
  begun = c.take_all.ensures.begun;
  row = c.take_all.ensures.width ∙ c.fill.ensures.width;
  wide = subst (λ (n : ℕ). IsWide n c.take_all.new.rows) c.fill.ensures.width c.take_all.ensures.wide;
  deeper = let cases = rw c.unwrap.ensures at c.split_first_mut.ensures.cases in rest_wide _ _ _ _ cases.0 c.requires.wide;
  tools = subst (λ (n : ℕ). IsFit n c.take_all.new.tools) c.fill.ensures.width c.take_all.ensures.tools;
}

pub draw_level-returns-clause-run : goal.draw_level-returns-clause-run
draw_level-returns-clause-run t c k h =
    let l = c.args.level in
    begun_last c.args.drawing.store.now (entries_of c.args.drawing.entries) l.depth l.from l.to c.tops.i _ _ _ _ (omega (arith, c.tops-test.false, c.tops.invariant.right)) (c.tops.invariant.begun k h)

pub draw_top-returns-in-Primitive-clause-begun : goal.draw_top-returns-in-Primitive-clause-begun
draw_top-returns-in-Primitive-clause-begun t c k h =
    let es = (entries_of c.args.drawing.entries) in
    let store = c.args.drawing.store.now in
    let l = c.args.level in
    let i = c.args.i in
    let first = c.args.strip.first in
    let in_list : i < length es = omega (arith, c.requires.order, c.requires.level.inside) in
    let own = dropped_as es i _ _ in_list (c.at.ensures _) (c.in-Primitive.is) in
    let q = c.in-Primitive.primitive in
    begun_primitive store es l.depth l.from l.to i (x_of first k) first.y (start_at c.args.rows.now.cover k) (pixel c.args.row.now k) (pixel c.lay_primitive.new.row k) q own (c.requires.begun k h)
    (c.lay_primitive.ensures.row.inside k h ∙ above_start (λ (n : ℕ) (z : Px). over_primitive store q (x_of first n) first.y z) i c.args.rows.now.cover k (pixel c.args.row.now k))
