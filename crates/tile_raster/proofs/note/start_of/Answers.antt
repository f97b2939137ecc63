use Rattle.std.proofs.Common.{arith, ◌≡◌, ◌<◌, ◌+◌, ◌-◌, ℕ, suc, subst}
use Rattle.tile_raster.specs.Lists.{entries_of}
use Rattle.tile_raster.specs.Levels.{IsAt, StaysWithin}
use Rattle.tile_raster.proofs.Levels.{dropped_as, same_level, before_primitive, before_pop, before_push, stays_less, stays_here}
use Rattle.tile_raster.proofs.note.start_of.Goals as goal

pub entries-init : goal.entries-init
entries-init c = record {
  right = omega arith;
  few = omega arith;
  place = λ n h. same_level (entries_of c.args.entries) (n + 1) (n + 1 + 0) c.args.to (omega arith) h;
  within = λ n h. stays_here (entries_of c.args.entries) (n + 1) c.args.to h;
}

pub entries-preserved-in-Primitive : goal.entries-preserved-in-Primitive
entries-preserved-in-Primitive c =
    let es = (entries_of c.args.entries) in
    let i = c.entries.i - 1 in
    let next : c.entries.i ≡ i + 1 = omega (arith, c.entries-test.true) in
    let own = dropped_as es i _ _ (omega (arith, c.requires.other, c.entries.invariant.right, c.entries-test.true)) (c.at.ensures _) c.in-Primitive.is in
    let place = λ (n : ℕ) (h : IsAt es (n + 1) c.args.to).
    before_primitive es (n + 1 + c.entries.closed) i _ own (subst (λ (k : ℕ). IsAt es (n + 1 + c.entries.closed) k) next (c.entries.invariant.place n h)) in
    record {
      right = omega (arith, c.entries.invariant.right);
      few = omega (arith, c.entries.invariant.few);
      place = place;
      within = λ n h. stays_less es (n + 1) i c.args.to (n + 1 + c.entries.closed) (subst (λ (k : ℕ). StaysWithin es (n + 1) k c.args.to) next (c.entries.invariant.within n h)) (place n h) (omega arith);
    }

pub entries-preserved-in-Push : goal.entries-preserved-in-Push
entries-preserved-in-Push c =
    let es = (entries_of c.args.entries) in
    let i = c.entries.i - 1 in
    let closed = c.entries.closed in
    let next : c.entries.i ≡ i + 1 = omega (arith, c.entries-test.true) in
    let some : 0 < closed = omega (arith, c.if-closed-eq0.false) in
    let own = dropped_as es i _ _ (omega (arith, c.requires.other, c.entries.invariant.right, c.entries-test.true)) (c.at.ensures _) c.in-Push.is in
    let place : (n : ℕ) → IsAt es (n + 1) c.args.to → IsAt es (n + 1 + (closed - 1)) i = λ n h.
    before_push es (n + 1 + (closed - 1)) i _ _ _ own (subst (λ (k : ℕ). IsAt es k (i + 1)) (omega (arith, some)) (subst (λ (k : ℕ). IsAt es (n + 1 + closed) k) next (c.entries.invariant.place n h))) in
    record {
      right = omega (arith, c.entries.invariant.right);
      few = omega (arith, c.entries.invariant.few);
      place = place;
      within = λ n h. stays_less es (n + 1) i c.args.to (n + 1 + (closed - 1)) (subst (λ (k : ℕ). StaysWithin es (n + 1) k c.args.to) next (c.entries.invariant.within n h)) (place n h) (omega arith);
    }

pub entries-preserved : goal.entries-preserved
entries-preserved c =
    let es = (entries_of c.args.entries) in
    let i = c.entries.i - 1 in
    let next : c.entries.i ≡ i + 1 = omega (arith, c.entries-test.true) in
    let own = dropped_as es i _ _ (omega (arith, c.requires.other, c.entries.invariant.right, c.entries-test.true)) (c.at.ensures _) c.in-Pop.is in
    let place : (n : ℕ) → IsAt es (n + 1) c.args.to → IsAt es (n + 1 + (c.entries.closed + 1)) i = λ n h.
    same_level es (suc (n + 1 + c.entries.closed)) (n + 1 + (c.entries.closed + 1)) i (omega arith) (before_pop es (n + 1 + c.entries.closed) i own (subst (λ (k : ℕ). IsAt es (n + 1 + c.entries.closed) k) next (c.entries.invariant.place n h))) in
    record {
      right = omega (arith, c.entries.invariant.right);
      few = omega (arith, c.entries.invariant.few, c.entries-test.true);
      place = place;
      within = λ n h. stays_less es (n + 1) i c.args.to (n + 1 + (c.entries.closed + 1)) (subst (λ (k : ℕ). StaysWithin es (n + 1) k c.args.to) next (c.entries.invariant.within n h)) (place n h) (omega arith);
    }

pub returns-then-closed-eq0 : goal.returns-then-closed-eq0
returns-then-closed-eq0 c = λ n first at all.
    let es = (entries_of c.args.entries) in
    let i = c.entries.i - 1 in
    let next : c.entries.i ≡ i + 1 = omega (arith, c.entries-test.true) in
    let own = dropped_as es i _ _ (omega (arith, c.requires.other, c.entries.invariant.right, c.entries-test.true)) (c.at.ensures _) c.in-Push.is in
    record {
      order = omega (arith, c.entries.invariant.right, c.entries-test.true);
      place = before_push es n i _ _ _ own (same_level es (n + 1 + c.entries.closed) (suc n) (i + 1) (omega (arith, c.if-closed-eq0.true)) (subst (λ (k : ℕ). IsAt es (n + 1 + c.entries.closed) k) next (c.entries.invariant.place n at)));
      within = subst (λ (k : ℕ). StaysWithin es (n + 1) k c.args.to) next (c.entries.invariant.within n at);
    }
