use Rattle.std.proofs.Common.{◌≡◌, ℤ, pos, ℕ, Bool, IsTrue, subst, sym, ap, ap₂, ◌∙◌, arith}
use Rattle.std.proofs.lemmas.Int.{ints}
use Rattle.std.proofs.lemmas.Bool.{and_parts}
use Rattle.wr_geom.specs.Bounds.{Bounds, holds}
use Rattle.black_tiles.proofs.place.place.Goals as goal

pub returns : goal.returns
returns c frame wide high = record {
  origin = record { left = omega (arith, ints); right = omega (arith, ints); top = omega (arith, ints); bottom = omega (arith, ints) };
  shown = λ x y h.
      let both = and_parts (holds c.args.part x y) (holds c.whole.result x y) (sym (c.intersect.ensures.points x y) ∙ h) in
      subst (λ (b : Bounds). IsTrue (holds b x y)) (c.whole.ensures ∙ ap₂ (λ (n m : ℕ). record { x0 = pos 0; y0 = pos 0; x1 = pos n; y1 = pos m }) (sym wide) (sym high)) both.1;
}
