use Rattle.std.proofs.Common.{arith}
use Rattle.std.proofs.lemmas.Int.{ints}
use Rattle.tile_store.proofs.Ready.{within}
use Rattle.tile_store.proofs.tile.columns_in.Goals as goal

pub overflow_cast-result : goal.overflow_cast-result
overflow_cast-result c =
    let w = within c.args.tile c.args.rect c.requires.inside c.requires.across c.requires.down in
    let a = w.left in let b = w.right in let s = c.requires.sides.across in let r = c.requires.across in omega (arith, ints)

pub overflow_cast-result-2 : goal.overflow_cast-result-2
overflow_cast-result-2 c =
    let w = within c.args.tile c.args.rect c.requires.inside c.requires.across c.requires.down in
    let a = w.left in let b = w.right in let s = c.requires.sides.across in let r = c.requires.across in omega (arith, ints)

pub returns-clause-to : goal.returns-clause-to
returns-clause-to c =
    let w = within c.args.tile c.args.rect c.requires.inside c.requires.across c.requires.down in
    let a = w.left in let b = w.right in let r = c.requires.across in omega (arith, ints)

pub returns-clause-inside : goal.returns-clause-inside
returns-clause-inside c =
    let w = within c.args.tile c.args.rect c.requires.inside c.requires.across c.requires.down in
    let a = w.left in let b = w.right in let r = c.requires.across in omega (arith, ints)
