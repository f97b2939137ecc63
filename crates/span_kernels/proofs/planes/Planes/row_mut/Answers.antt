use Rattle.std.proofs.Common.{rules, refl, arith}
use Rattle.span_kernels.proofs.Parts.{part_written}
use Rattle.span_kernels.proofs.planes.Planes.row_mut.Goals as goal

pub returns-in-B : goal.returns-in-B
returns-in-B c = (
  (refl, λ w. search rules),
  record { writes_back = tt; value = search rules; len = search rules; stays = λ bytes h. part_written c.args.self.now c.args.p c.args.y c.args.x0 bytes (rw (c.in-B.is, ← c.self.view_is) c.self.invariant.0) c.requires.row (let o = c.requires.order in let n = c.requires.inside in omega arith) },
)

pub returns-in-G : goal.returns-in-G
returns-in-G c = (
  (refl, λ w. search rules),
  record { writes_back = tt; value = search rules; len = search rules; stays = λ bytes h. part_written c.args.self.now c.args.p c.args.y c.args.x0 bytes (rw (c.in-G.is, ← c.self.view_is) c.self.invariant.1) c.requires.row (let o = c.requires.order in let n = c.requires.inside in omega arith) },
)

pub returns-in-R : goal.returns-in-R
returns-in-R c = (
  (refl, λ w. search rules),
  record { writes_back = tt; value = search rules; len = search rules; stays = λ bytes h. part_written c.args.self.now c.args.p c.args.y c.args.x0 bytes (rw (c.in-R.is, ← c.self.view_is) c.self.invariant.2) c.requires.row (let o = c.requires.order in let n = c.requires.inside in omega arith) },
)

pub returns-in-A : goal.returns-in-A
returns-in-A c = (
  (refl, λ w. search rules),
  record { writes_back = tt; value = search rules; len = search rules; stays = λ bytes h. part_written c.args.self.now c.args.p c.args.y c.args.x0 bytes (rw (c.in-A.is, ← c.self.view_is) c.self.invariant.3) c.requires.row (let o = c.requires.order in let n = c.requires.inside in omega arith) },
)
