use Rattle.std.proofs.Common.{arith, ◌≡◌, pos, ◌+ℤ◌, ◌-ℤ◌, ◌∙◌, to_z, of_z, w32}
use Rattle.std.proofs.lemmas.Int.{ints}
use Rattle.clip_masks.proofs.spans.between.Goals as goal

pub returns : goal.returns
returns c =
    let x0 = to_z w32 (of_z w32 c.x0-x0.result) in
    let x1 = to_z w32 (of_z w32 c.x1-x1.result) in
    let first_gone : to_z w32 (of_z w32 (x0 +ℤ to_z w32 c.args.first.gone)) ≡ c.args.rect.x0 +ℤ pos c.args.first.gone = omega (arith, ints) in
    let first_clear : to_z w32 (of_z w32 (x0 +ℤ to_z w32 c.args.first.clear)) ≡ c.args.rect.x0 +ℤ pos c.args.first.clear = omega (arith, ints) in
    let last_clear : to_z w32 (of_z w32 (x1 -ℤ to_z w32 c.args.last.clear)) ≡ c.args.rect.x1 -ℤ pos c.args.last.clear = omega (arith, ints) in
    let last_gone : to_z w32 (of_z w32 (x1 -ℤ to_z w32 c.args.last.gone)) ≡ c.args.rect.x1 -ℤ pos c.args.last.gone = omega (arith, ints) in
    let edge : x1 ≡ c.args.rect.x1 = omega (arith, ints) in
    let left : to_z w32 (of_z w32 c.min.result) ≡ c.min.result = omega (arith, ints) in
    let from : to_z w32 (of_z w32 c.min-from.result) ≡ c.min-from.result = omega (arith, ints) in
    let to : to_z w32 (of_z w32 c.max-to.result) ≡ c.max-to.result = omega (arith, ints) in
    let right : to_z w32 (of_z w32 c.max.result) ≡ c.max.result = omega (arith, ints) in
    record {
      left = left ∙ (rw (first_gone, edge) at c.min.ensures.value);
      from = from ∙ (rw (first_clear, edge) at c.min-from.ensures.value);
      to = to ∙ (rw last_clear at c.max-to.ensures.value);
      right = right ∙ (rw last_gone at c.max.ensures.value);
    }
