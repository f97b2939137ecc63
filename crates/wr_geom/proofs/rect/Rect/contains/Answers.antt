use Rattle.std.proofs.Common.{arith, sym}
use Rattle.std.proofs.lemmas.Int.{ints}
use Rattle.wr_geom.proofs.Points.{misses_it}
use Rattle.wr_geom.proofs.rect.Rect.contains.Goals as goal

pub returns-then-p-self : goal.returns-then-p-self
returns-then-p-self c =
    rw (← c.self.view_is) (sym (misses_it _ _ _ (λ i. let l = i.left in let r = i.right in absurd (grind (arith, ints)))))

pub returns-then-p-self-2 : goal.returns-then-p-self-2
returns-then-p-self-2 c =
    rw (← c.self.view_is) (sym (misses_it _ _ _ (λ i. let l = i.top in let r = i.bottom in absurd (grind (arith, ints)))))
