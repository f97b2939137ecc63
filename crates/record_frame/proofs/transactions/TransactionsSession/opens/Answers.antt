use Rattle.std.proofs.Common.{rules, ◌≡◌, nat_eq, sym, ◌∙◌}
use Rattle.std.specs.Cmp.Lexicographic.{pointwise}
use Rattle.record_frame.specs.Transactions.{input_magic}
use Rattle.record_frame.proofs.FirstRecords.{magic_four}
use Rattle.record_frame.proofs.transactions.TransactionsSession.opens.Goals as goal

pub returns : goal.returns
returns g c =
    let same : c.eq.result ≡ pointwise nat_eq input_magic c.args.magic.now = search rules in
    same ∙ sym (magic_four c.args.magic.now c.requires)
