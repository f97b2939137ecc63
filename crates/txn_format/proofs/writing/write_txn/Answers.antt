use Rattle.std.proofs.Common.{◌≡◌, rules, append_assoc, length, List, sym, ap, subst, ◌∙◌, arith}
use Rattle.std.specs.Prelude.{All}
use Rattle.std.proofs.lemmas.List.{length-map}
use Rattle.txn_format.specs.Txn.{PlacedModel}
use Rattle.txn_format.specs.Models.{placed_model}
use Rattle.txn_format.specs.Grammar.{TxnSpells}
use Rattle.txn_format.specs.Spelling.{txn_bytes}
use Rattle.txn_format.specs.Checks.{FitsLength}
use Rattle.txn_format.proofs.TxnSpellings.{is_txn, spelled_so, all_fit}
use Rattle.txn_format.proofs.writing.write_txn.Goals as goal

pub overflow_cast-ops : goal.overflow_cast-ops
overflow_cast-ops c =
    let long : length c.ops-ops.result.now ≡ length c.args.txn.now.ops =
    sym (length-map c.ops-ops.result.now placed_model) ∙ ap (λ (ps : List PlacedModel). length ps) c.ops-ops.ensures.value in
    let few = (is_txn c.args.txn.now c.ops-ops.ensures.spelled).few in
    record { fits = omega (arith, long, few) }

pub put_ops-requires : goal.put_ops-requires
put_ops-requires c = subst (λ (ps : List PlacedModel). All FitsLength ps) (sym c.ops-ops.ensures.value) (all_fit c.args.txn.now c.ops-ops.ensures.spelled)

pub returns-clause-spelled : goal.returns-clause-spelled
returns-clause-spelled c =
    let long : length c.ops-ops.result.now ≡ length c.args.txn.now.ops =
    sym (length-map c.ops-ops.result.now placed_model) ∙ ap (λ (ps : List PlacedModel). length ps) c.ops-ops.ensures.value in
    let e : c.put_ops.new.out.items ≡ txn_bytes c.args.txn.now = search (rules, append_assoc, long) in
    subst (TxnSpells c.args.txn.now) (sym e) (spelled_so c.args.txn.now c.ops-ops.ensures.spelled)
