use Rattle.std.proofs.Common.{subst, sym, ◌≡◌}
use Rattle.blend_rules.specs.declared.colour.Px.{Px}
use Rattle.blend_rules.specs.Colour.{scaled, IsPremultiplied}
use Rattle.blend_rules.proofs.Blends.{scaled_is_premultiplied, same_bytes}
use Rattle.blend_rules.proofs.rules.scale.Goals as goal

pub returns-clause-premultiplied : goal.returns-clause-premultiplied
unfolding scaled
returns-clause-premultiplied c h =
    let same : record { b = c.mul.result; g = c.mul-2.result; r = c.mul-3.result; a = c.mul-4.result } ≡ scaled c.args.p c.args.c =
    same_bytes _ _ c.mul.ensures.value c.mul-2.ensures.value c.mul-3.ensures.value c.mul-4.ensures.value in
    let P : Px → Type 0 = λ q. IsPremultiplied q in
    subst P (sym same) (scaled_is_premultiplied c.args.p c.args.c h)
