use Rattle.std.proofs.Common.{Ok, Err, Result, arith}
use Rattle.std.specs.Prelude.{IfOk}
use Rattle.wr_io.specs.declared.fault.DecodeError.{DecodeError}
use Rattle.display_list.specs.ListModel.{ListModel}
use Rattle.field_forms.proofs.Bytes.{are_bytes}
use Rattle.display_list.proofs.ReadLists.{is_found, is_only, is_faulty, is_within}
use Rattle.display_list.proofs.decoder.decode.Goals as goal

if_ok : {P Q : ListModel → Type 0} (r : Result ListModel DecodeError) → ((l : ListModel) → P l → Q l) → IfOk r P → IfOk r Q
if_ok (Ok l) f h = f l h
if_ok (Err e) f h = tt

pub returns-clause-found : goal.returns-clause-found
returns-clause-found c =
    if_ok c.read.result (λ l h. h.0)
    (is_found c.args.own c.args.bytes.now c.read.result (are_bytes c.args.bytes.now (λ i. omega (arith, c.type_inv.bytes i))) c.read.ensures)

pub returns-clause-fits : goal.returns-clause-fits
returns-clause-fits c =
    if_ok c.read.result (λ l h. h.1)
    (is_found c.args.own c.args.bytes.now c.read.result (are_bytes c.args.bytes.now (λ i. omega (arith, c.type_inv.bytes i))) c.read.ensures)

pub returns-clause-only : goal.returns-clause-only
returns-clause-only c = is_only c.args.own c.args.bytes.now c.read.result c.read.ensures

pub returns-clause-faulty : goal.returns-clause-faulty
returns-clause-faulty c = is_faulty c.args.own c.args.bytes.now c.read.result (are_bytes c.args.bytes.now (λ i. omega (arith, c.type_inv.bytes i))) c.read.ensures

pub returns-clause-within : goal.returns-clause-within
returns-clause-within c = is_within c.args.own c.args.bytes.now c.read.result (are_bytes c.args.bytes.now (λ i. omega (arith, c.type_inv.bytes i))) c.read.ensures
