use Rattle.std.proofs.Common.{rules, arith, List, ℕ, ◌++◌, [], ◌∷◌, sym, ap, ◌∙◌, inl, Ok, Err, append-nil, Option, Some, None}
use Rattle.std.proofs.lemmas.Result.{err_from_is_err_and}
use Rattle.record_frame.specs.Framing.{entry}
use Rattle.record_frame.specs.Transactions.{first_transaction, first_sized, payload_of}
use Rattle.record_frame.specs.Reading.{record_read}
use Rattle.record_frame.specs.Reading.{GetsTag, Decides}
use Rattle.record_frame.specs.declared.error.ReadError.TheVariants.{Broken}
use Rattle.record_frame.proofs.Takings.{joined, weaker, one_byte, then_decides, same_error, no_tag, closing_tag, transaction_tag, other_tag}
use Rattle.record_frame.proofs.transactions.read_transaction.Goals as goal

pub returns-in_err-read_tag-clause-told : goal.returns-in_err-read_tag-clause-told
returns-in_err-read_tag-clause-told g c =
    let p = err_from_is_err_and c.from_residual.result c.from_residual.ensures.1 in
    rw (p.1, p.2) (weaker (g.S.Source.left c.args.source.now) (g.S.Source.left c.read_tag.new.source)
    (GetsTag (Err c.in_err-read_tag.field-0.0))
    (Decides 5 (first_transaction c.args.is_allowed) (record_read payload_of c.args.payload.now.items) (Err c.in_err-read_tag.field-0.0))
    (λ t r got. no_tag c.args.is_allowed (record_read payload_of c.args.payload.now.items) c.in_err-read_tag.field-0.0 t r got)
    c.in_err-read_tag.ensures.told)

pub returns-in-90-clause-told : goal.returns-in-90-clause-told
returns-in-90-clause-told g c =
    weaker (g.S.Source.left c.args.source.now) (g.S.Source.left c.read_tag.new.source)
    (GetsTag (Ok c.in_ok-read_tag.field-0))
    (Decides 5 (first_transaction c.args.is_allowed) (record_read payload_of c.args.payload.now.items) (Ok None))
    (λ t r got tail. closing_tag c.args.is_allowed t tail (got ∙ ap (λ x. x ∷ []) c.in-90.is))
    c.in_ok-read_tag.ensures.told

pub returns-in_err-read_payload-in-84-clause-told : goal.returns-in_err-read_payload-in-84-clause-told
returns-in_err-read_payload-in-84-clause-told g c =
    let p = err_from_is_err_and c.from_residual-in_err-read_payload-in-84.result c.from_residual-in_err-read_payload-in-84.ensures.1 in
    rw (p.1, p.2) (joined (g.S.Source.left c.args.source.now) (g.S.Source.left c.read_tag.new.source) (g.S.Source.left c.read_payload.new.source)
    (GetsTag (Ok c.in_ok-read_tag.field-0))
    (Decides {X = Unit {0}} 4 first_sized (λ _. entry c.read_payload.new.payload.items) (Err c.in_err-read_payload-in-84.field-0.0))
    (Decides 5 (first_transaction c.args.is_allowed) (record_read payload_of c.read_payload.new.payload.items) (Err c.in_err-read_payload-in-84.field-0.0))
    (λ t r u s split got q.
    same_error {X = Unit {0}} {Y = Option (Unit {0})} 5 (first_transaction c.args.is_allowed) (λ _. entry c.read_payload.new.payload.items) (record_read payload_of c.read_payload.new.payload.items) c.in_err-read_payload-in-84.field-0.0 (t ++ u) s
    (then_decides {X = Unit {0}} 1 4 (first_transaction c.args.is_allowed) first_sized (λ _. entry c.read_payload.new.payload.items) (Err c.in_err-read_payload-in-84.field-0.0) t r u s split (one_byte c.in_ok-read_tag.field-0 t got)
    (λ tail. transaction_tag c.args.is_allowed t tail (got ∙ ap (λ x. x ∷ []) c.in-84.is) c.if-is_allowed.true) q))
    c.in_ok-read_tag.ensures.told c.in_err-read_payload-in-84.ensures.told)

pub returns-in_ok-read_payload-in-84-clause-told : goal.returns-in_ok-read_payload-in-84-clause-told
returns-in_ok-read_payload-in-84-clause-told g c =
    joined (g.S.Source.left c.args.source.now) (g.S.Source.left c.read_tag.new.source) (g.S.Source.left c.read_payload.new.source)
    (GetsTag (Ok c.in_ok-read_tag.field-0))
    (Decides {X = Unit {0}} 4 first_sized (λ _. entry c.read_payload.new.payload.items) (Ok c.in_ok-read_payload-in-84.field-0))
    (Decides 5 (first_transaction c.args.is_allowed) (record_read payload_of c.read_payload.new.payload.items) (Ok (Some tt)))
    (λ t r u s split got q.
    then_decides {X = Unit {0}} 1 4 (first_transaction c.args.is_allowed) first_sized (λ _. entry c.read_payload.new.payload.items) (Ok c.in_ok-read_payload-in-84.field-0) t r u s split (one_byte c.in_ok-read_tag.field-0 t got)
    (λ tail. transaction_tag c.args.is_allowed t tail (got ∙ ap (λ x. x ∷ []) c.in-84.is) c.if-is_allowed.true) q)
    c.in_ok-read_tag.ensures.told c.in_ok-read_payload-in-84.ensures.told

pub returns-in_default-clause-told : goal.returns-in_default-clause-told
returns-in_default-clause-told g c =
    weaker (g.S.Source.left c.args.source.now) (g.S.Source.left c.read_tag.new.source)
    (GetsTag (Ok c.in_ok-read_tag.field-0))
    (Decides 5 (first_transaction c.args.is_allowed) (record_read payload_of c.args.payload.now.items) (Err Broken))
    (λ t r got.
    let other = λ (tail : List ℕ). other_tag c.args.is_allowed c.in_ok-read_tag.field-0 t tail got (λ z. absurd (omega (arith, z, c.in-84.is))) (λ _. c.if-is_allowed.false) in
    (ap (first_transaction c.args.is_allowed) (sym (append-nil t)) ∙ other [], other r, inl (omega (arith, one_byte c.in_ok-read_tag.field-0 t got))))
    c.in_ok-read_tag.ensures.told

pub returns-in_default-2-clause-told : goal.returns-in_default-2-clause-told
returns-in_default-2-clause-told g c =
    weaker (g.S.Source.left c.args.source.now) (g.S.Source.left c.read_tag.new.source)
    (GetsTag (Ok c.in_ok-read_tag.field-0))
    (Decides 5 (first_transaction c.args.is_allowed) (record_read payload_of c.args.payload.now.items) (Err Broken))
    (λ t r got.
    let other = λ (tail : List ℕ). other_tag c.args.is_allowed c.in_ok-read_tag.field-0 t tail got (λ z. search rules) (λ z. search rules) in
    (ap (first_transaction c.args.is_allowed) (sym (append-nil t)) ∙ other [], other r, inl (omega (arith, one_byte c.in_ok-read_tag.field-0 t got))))
    c.in_ok-read_tag.ensures.told
