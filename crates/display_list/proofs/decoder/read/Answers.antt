use Rattle.std.proofs.Common.{◌+◌, Some, Ok, Result, length, arith, ap, sym, ◌∙◌}
use Rattle.std.proofs.lemmas.Result.{err_from_is_err_and}
use Rattle.wr_io.specs.declared.fault.Fault.{Fault}
use Rattle.field_forms.specs.Form.{next}
use Rattle.display_list.specs.ListModel.{ListModel}
use Rattle.display_list.specs.PartialList.{PartialList, list_of}
use Rattle.display_list.specs.Decoding.{read_list}
use Rattle.field_forms.proofs.Bytes.{are_bytes}
use Rattle.display_list.proofs.Steps.{begins, goes_on, is_done, part_fails, end_fails, ran_out, fails_next}
use Rattle.display_list.proofs.ReadLists.{follows, closes, still_bytes, is_spelled}
use Rattle.display_list.proofs.decoder.read.Goals as goal

pub loop-init : goal.loop-init
loop-init c = (
  rw (c.in_ok-builder.ensures, c.new-reader.ensures) (begins (c.args.own + 1) c.args.bytes.now),
  rw c.new-reader.ensures (are_bytes c.args.bytes.now (λ i. omega (arith, c.type_inv.bytes i))),
)

pub returns-in_err-part : goal.returns-in_err-part
returns-in_err-part c =
    let p = err_from_is_err_and c.from_residual-in_err-part.result c.from_residual-in_err-part.ensures.1 in
    rw (p.1, p.2) (fails_next c.in_err-part.field-0.0 (read_list (c.args.own + 1) c.args.bytes.now) (λ (s : PartialList). Ok (list_of s))
    (part_fails c.in_err-part.field-0.0 (c.args.own + 1) (length c.args.bytes.now + 1) c.loop.counter c.loop.builder c.loop.reader (read_list (c.args.own + 1) c.args.bytes.now) c.loop-test.true c.in_err-part.ensures c.loop.invariant.0))

pub add-requires : goal.add-requires
add-requires c = follows (c.args.own + 1) c.loop.builder c.loop.reader c.read_next_part.new.reader c.in-Some.part c.loop.invariant.1 (rw c.in-Some.is at c.in_ok-part.ensures)

pub loop-preserved : goal.loop-preserved
loop-preserved c =
    let read_it = rw c.in-Some.is at c.in_ok-part.ensures in (
      rw c.in_ok-add.ensures
          (goes_on (c.args.own + 1) (length c.args.bytes.now + 1) c.loop.counter c.loop.builder c.loop.reader c.read_next_part.new.reader c.in-Some.part (read_list (c.args.own + 1) c.args.bytes.now) c.loop-test.true read_it c.loop.invariant.0),
      still_bytes (c.args.own + 1) c.loop.builder c.loop.reader c.read_next_part.new.reader (Some c.in-Some.part) c.loop.invariant.1 read_it,
    )

pub returns : goal.returns
returns c =
    rw (c.fault.ensures, c.at.ensures)
    (ap (λ (r : Result PartialList Fault). next r (λ s. Ok (list_of s)))
    (ran_out (c.args.own + 1) (length c.args.bytes.now + 1) c.loop.counter c.loop.builder c.loop.reader (read_list (c.args.own + 1) c.args.bytes.now) c.loop-test.false c.loop.invariant.0))

pub returns-in_err-finish : goal.returns-in_err-finish
returns-in_err-finish c =
    let p = err_from_is_err_and c.from_residual-in_err-finish.result c.from_residual-in_err-finish.ensures.1 in
    rw (p.1, p.2) (fails_next c.in_err-finish.field-0.0 (read_list (c.args.own + 1) c.args.bytes.now) (λ (s : PartialList). Ok (list_of s))
    (end_fails c.in_err-finish.field-0.0 (c.args.own + 1) (length c.args.bytes.now + 1) c.loop.counter c.loop.builder c.loop.reader c.read_next_part.new.reader (read_list (c.args.own + 1) c.args.bytes.now) c.loop-test.true
    (rw c.in_default.is at c.in_ok-part.ensures) c.in_err-finish.ensures c.loop.invariant.0))

pub finish-requires-in_default-clause-closed : goal.finish-requires-in_default-clause-closed
finish-requires-in_default-clause-closed c =
    closes (c.args.own + 1) c.loop.builder c.loop.reader c.read_next_part.new.reader c.loop.invariant.1 (rw c.in_default.is at c.in_ok-part.ensures)

pub finish-requires-in_default-clause-spelled : goal.finish-requires-in_default-clause-spelled
finish-requires-in_default-clause-spelled c =
    is_spelled c.args.own c.args.bytes.now c.loop.builder (are_bytes c.args.bytes.now (λ i. omega (arith, c.type_inv.bytes i)))
    (is_done (c.args.own + 1) (length c.args.bytes.now + 1) c.loop.counter c.loop.builder c.loop.reader c.read_next_part.new.reader (read_list (c.args.own + 1) c.args.bytes.now) c.loop-test.true
    (rw c.in_default.is at c.in_ok-part.ensures) c.in_ok-finish.ensures c.loop.invariant.0)

pub returns-in_default : goal.returns-in_default
returns-in_default c =
    ap (λ (r : Result PartialList Fault). next r (λ s. Ok (list_of s)))
    (is_done (c.args.own + 1) (length c.args.bytes.now + 1) c.loop.counter c.loop.builder c.loop.reader c.read_next_part.new.reader (read_list (c.args.own + 1) c.args.bytes.now) c.loop-test.true
    (rw c.in_default.is at c.in_ok-part.ensures) c.in_ok-finish.ensures c.loop.invariant.0)
    ∙ ap (λ (l : ListModel). Ok l) (sym c.finish-in_default.ensures)
