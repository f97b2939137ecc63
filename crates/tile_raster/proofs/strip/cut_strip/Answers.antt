use Rattle.std.proofs.Common.{arith, ◌≡◌, inl, inr, ℕ, ◌≤ℤ◌, ◌<ℤ◌, false}
use Rattle.std.proofs.lemmas.Int.{ints}
use Rattle.wr_geom.specs.Bounds.{holds}
use Rattle.tile_raster.specs.Spans.{x_of}
use Rattle.tile_raster.proofs.Spans.{holds_at, holds_left, holds_right, holds_above, holds_below}
use Rattle.tile_raster.proofs.strip.cut_strip.Goals as goal
use Rattle.tile_raster.proofs.strip.cut_strip.Goals.{then-strip-y0-via-then-strip-y0, then-strip-y0-via-else-strip-y0+then-y1-strip}

pub returns-then-strip-y0 : goal.returns-then-strip-y0
returns-then-strip-y0 c =
    let first = c.args.strip.first in
    let b = c.args.rect in
    let beside : (k : ℕ) → holds b (x_of first k) first.y ≡ false = λ k. elim c.then-strip-y0.branch [
      | then-strip-y0-via-then-strip-y0 w ↦ holds_above b (x_of first k) first.y (omega (arith, ints, w.if-strip-y0.true, c.y0.ensures.value))
      | then-strip-y0-via-else-strip-y0+then-y1-strip w ↦ holds_below b (x_of first k) first.y (omega (arith, ints, w.if-y1-strip.true, w.y1.ensures.value))
    ] in
    record {
      left = omega arith;
      order = omega arith;
      right = c.requires.order;
      inside = λ k h. absurd (omega (arith, h.low, h.high));
      outside = λ k h o. beside k;
    }

pub returns : goal.returns
returns c =
    let first = c.args.strip.first in
    let b = c.args.rect in
    let above : b.y0 ≤ℤ first.y = omega (arith, ints, c.if-strip-y0.false, c.y0.ensures.value) in
    let below : first.y <ℤ b.y1 = omega (arith, ints, c.if-y1-strip.false, c.y1.ensures.value) in
    let top = c.max.ensures in
    record {
      left = c.place_of-from.ensures.left;
      order = omega (arith, top);
      right = omega (arith, top, c.place_of-from.ensures.right, c.place_of-to.ensures.right);
      inside = λ k h.
          let after = c.place_of-from.ensures.after k h.low (omega (arith, top, h.high, c.place_of-from.ensures.right, c.place_of-to.ensures.right)) in
          let before = c.place_of-to.ensures.before k (omega (arith, h.low, c.place_of-from.ensures.left)) (omega (arith, top, h.low, h.high)) in
          holds_at b (x_of first k) first.y (omega (arith, ints, c.x0.ensures.value, after)) (omega (arith, ints, c.x1.ensures.value, before)) above below;
      outside = λ k h o. elim o [
        | inl less ↦ let before = c.place_of-from.ensures.before k h.low less in holds_left b (x_of first k) first.y (omega (arith, ints, c.x0.ensures.value, before))
        | inr more ↦ let after = c.place_of-to.ensures.after k (omega (arith, top, more)) h.high in holds_right b (x_of first k) first.y (omega (arith, ints, c.x1.ensures.value, after))
      ];
    }
