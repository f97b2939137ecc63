use Rattle.std.proofs.Common.{rules, ◌≡◌, ◌+◌, ◌*◌, Bool, true, false, cond, length, get_or, ◌==◌, refl, ap, ◌∙◌, arith}
use mir.Val.{bool_byte}
use Rattle.image_store.proofs.OpaqueCounts.{alphas_counted, counted_more, counted_below, counted_all}
use Rattle.image_store.proofs.planes.split_texels.Goals as goal

one_of : (t : Bool) → bool_byte t ≡ cond t 1 0
one_of true = refl
one_of false = refl

pub loop-i-init : goal.loop-i-init
loop-i-init c = record {
  blue = λ k h. absurd (omega arith);
  green = λ k h. absurd (omega arith);
  red = λ k h. absurd (omega arith);
  bound = omega arith;
  sound = λ e k h. absurd (omega arith);
  byte = λ k h. absurd (omega arith);
  exact = λ f i. 0;
  counted = λ i. 0;
  alpha = λ k h. absurd (omega arith);
}

pub loop-i-preserved : goal.loop-i-preserved
loop-i-preserved c =
    let more : c.loop-i.opaque + bool_byte (get_or c.args.bytes.now (4 * c.loop-i.i + 3) 0 == 255) ≡ alphas_counted c.args.bytes.now (c.loop-i.i + 1) =
    ap (λ n. c.loop-i.opaque + n) (one_of (get_or c.args.bytes.now (4 * c.loop-i.i + 3) 0 == 255)) ∙ counted_more c.args.bytes.now c.loop-i.i c.loop-i.opaque c.loop-i.invariant.counted in
    let below = counted_below c.args.bytes.now (c.loop-i.i + 1) in
    record {
      blue = search rules;
      green = search rules;
      red = search rules;
      bound = let f = c.from-opaque.ensures in omega (arith, more, below, f);
      sound = search rules;
      byte = search rules;
      exact = λ f. c.most_over-over.ensures.exact (c.loop-i.invariant.exact (λ k h. f k (omega arith))) (f c.loop-i.i (omega arith));
      counted = ap (λ n. c.loop-i.opaque + n) c.from-opaque.ensures ∙ more;
      alpha = search rules;
    }

pub returns-clause-opaque : goal.returns-clause-opaque
returns-clause-opaque c =
    let e : c.loop-i.i ≡ length c.loop-i.a = omega arith in
    c.loop-i.invariant.counted ∙ ap (λ n. alphas_counted c.args.bytes.now n) e ∙ counted_all c.args.bytes.now c.loop-i.a (λ i h. c.loop-i.invariant.alpha i (omega arith))
