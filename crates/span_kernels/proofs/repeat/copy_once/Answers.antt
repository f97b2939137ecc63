use Rattle.std.proofs.Common.{◌≡◌, ◌+◌, ◌-◌, ◌%◌, ◌<◌, ℕ, length, get_or, inl, inr, sym, ap, ◌∙◌, arith}
use Rattle.std.proofs.lemmas.Bool.{cases_lt}
use Rattle.std.proofs.Math.Nat.{mod-eq_of_lt, add-mod_right}
use Rattle.span_kernels.proofs.repeat.copy_once.Goals as goal

pub returns : goal.returns
returns c k turn within =
    let s = c.args.s.now in
    let w : ℕ = length s in
    let first = c.args.first in
    let back = c.min-back.result in
    let b = c.min-back.ensures in
    let f = c.min-front.ensures in
    elim (cases_lt k back) [
      | inl l ↦
          let near : first + k < w = omega (arith, c.requires) in
          let here : first + (k - 0) ≡ first + k = omega arith in
          c.copy_part-2.ensures.below k l ∙ c.copy_part.ensures.inside k (omega arith) (omega arith) ∙ ap (λ (i : ℕ). get_or s i 0) (here ∙ sym (mod-eq_of_lt near))
      | inr m ↦
          let j : ℕ = k - back in
          let near : j < w = omega (arith, c.requires) in
          let here : first + k ≡ j + w = omega (arith, c.requires) in
          let turned : (first + k) % w ≡ j = ap (λ (i : ℕ). i % w) here ∙ add-mod_right j w ∙ mod-eq_of_lt near in
          let there : 0 + j ≡ j = omega arith in
          c.copy_part-2.ensures.inside k m (omega (arith, c.requires)) ∙ ap (λ (i : ℕ). get_or s i 0) (there ∙ sym turned)
    ]
