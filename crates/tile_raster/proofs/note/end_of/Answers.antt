use Rattle.std.proofs.Common.{arith, ◌<◌, ◌≤◌, ◌+◌, ℕ, suc, length}
use Rattle.tile_raster.specs.Lists.{entries_of}
use Rattle.tile_raster.specs.Levels.{IsAt}
use Rattle.tile_raster.proofs.Levels.{dropped_as, same_level, after_primitive, after_push, after_pop, stays_more, stays_here}
use Rattle.tile_raster.proofs.note.end_of.Goals as goal
use Rattle.tile_raster.proofs.note.end_of.Goals.{in-Primitive, in-Push, in-Pop+else-opened-eq0}

pub entries-init : goal.entries-init
entries-init c = record {
  left = omega arith;
  right = c.requires.other;
  few = omega arith;
  place = λ n h. same_level (entries_of c.args.entries) n (n + 0) c.args.from (omega arith) h;
  within = λ n h. stays_here (entries_of c.args.entries) n c.args.from h;
}

pub entries-preserved : goal.entries-preserved
entries-preserved c =
    let es = (entries_of c.args.entries) in
    let i = c.entries.i in
    let opened = c.match-at.opened in
    let room : i < length es = omega (arith, c.entries-test.true, c.len.ensures) in
    let place : (n : ℕ) → IsAt es n c.args.from → IsAt es (n + opened) (i + 1) = λ n h.
    let at = c.entries.invariant.place n h in
    let m = n + c.entries.opened in
    elim c.match-at.branch [
      | in-Primitive w ↦ same_level es m (n + opened) (i + 1) (omega (arith, w.opened-is)) (after_primitive es m i _ (dropped_as es i _ _ room (c.at.ensures _) w.in-Primitive.is) at)
      | in-Push w ↦ same_level es (suc m) (n + opened) (i + 1) (omega (arith, w.opened-is)) (after_push es m i _ _ _ (dropped_as es i _ _ room (c.at.ensures _) w.in-Push.is) at)
      | in-Pop+else-opened-eq0 w ↦ after_pop es (n + opened) i (dropped_as es i _ _ room (c.at.ensures _) w.in-Pop.is)
          (same_level es m (suc (n + opened)) i (omega (arith, w.opened-is, w.if-opened-eq0.false)) at)
    ] in
    let few : opened ≤ i + 1 =
    elim c.match-at.branch [
      | in-Primitive w ↦ omega (arith, w.opened-is, c.entries.invariant.few)
      | in-Push w ↦ omega (arith, w.opened-is, c.entries.invariant.few)
      | in-Pop+else-opened-eq0 w ↦ omega (arith, w.opened-is, c.entries.invariant.few)
    ] in
    record {
      left = omega (arith, c.entries.invariant.left);
      right = omega (arith, room);
      few = few;
      place = place;
      within = λ n h. stays_more es n c.args.from i (n + opened) (c.entries.invariant.within n h) (place n h) (omega arith);
    }

pub returns-then-opened-eq0-clause-end : goal.returns-then-opened-eq0-clause-end
returns-then-opened-eq0-clause-end c = λ h. dropped_as (entries_of c.args.entries) c.entries.i _ _ h (c.at.ensures _) c.in-Pop.is
