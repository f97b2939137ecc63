use Rattle.std.proofs.Common.{◌%◌, ◌<◌, ◌≤◌, ℕ, length, get_or, ap, ◌∙◌, arith}
use Rattle.std.proofs.lemmas.Nat.{mod_below}
use Rattle.std.proofs.Math.Nat.{add-mod-mod, mod-le}
use Rattle.span_kernels.proofs.repeat.copy_repeated.Goals as goal

pub returns : goal.returns
returns c i lt =
    let s = c.args.s.now in
    let w : ℕ = length s in
    let turn : i % w < w = mod_below i w (omega (arith, c.requires)) in
    let low : i % w ≤ i = mod-le i w in
    c.repeat_front.ensures i lt ∙ c.copy_once.ensures (i % w) turn (omega (arith, low, lt)) ∙ ap (λ (k : ℕ). get_or s k 0) (add-mod-mod c.args.first i w)
