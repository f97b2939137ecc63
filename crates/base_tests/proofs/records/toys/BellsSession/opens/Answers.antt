use Rattle.std.proofs.Common.{rules, ◌≡◌, nat_eq, codes, sym, ◌∙◌}
use Rattle.std.specs.Cmp.Lexicographic.{pointwise}
use Rattle.base_tests.proofs.Toys.{bells_four}
use Rattle.base_tests.proofs.records.toys.BellsSession.opens.Goals as goal

pub returns : goal.returns
returns c =
    let same : c.eq.result ≡ pointwise nat_eq (codes "BELL") c.args.magic.now = search rules in
    same ∙ sym (bells_four c.args.magic.now c.requires)
