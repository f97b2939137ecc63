use Rattle.std.proofs.Common.{sym, subst}
use Rattle.primitives.specs.PrimitiveModel.{PrimitiveModel}
use Rattle.primitives.specs.Moves.{CanShiftKind}
use Rattle.primitives.proofs.Moves.{kind_stays}
use Rattle.primitives.proofs.primitive.Primitive.shift.Goals as goal

pub invariant_of-result : goal.invariant_of-result
invariant_of-result c =
    let can = subst (λ (p : PrimitiveModel). CanShiftKind c.args.by p.kind) (sym c.self.view_is) c.requires.kind in
    rw (c.shift.ensures, c.shift-2.ensures.value) (kind_stays c.self.inside.rect c.self.inside.kind c.args.by c.self.invariant can)
