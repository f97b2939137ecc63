use Rattle.std.proofs.Common.{rules, arith, ℕ, List, Bool, [], ◌∷◌, ◌++◌, Option, Some, None, Ok, Err, inl, sym, ap, ◌∙◌, append_assoc, append-nil}
use Rattle.std.proofs.lemmas.Result.{err_from_is_err_and}
use Rattle.record_frame.specs.Framing.{entry}
use Rattle.base_tests.specs.Toys.{ring_of, first_after, first_ring}
use Rattle.record_frame.specs.Reading.{GetsTag, Decides, record_read}
use Rattle.record_frame.specs.declared.error.ReadError.TheVariants.{Broken}
use Rattle.record_frame.proofs.Takings.{weaker, joined, one_byte, same_error, then_decides, none_decides}
use Rattle.base_tests.proofs.Toys.{ring_none, ring_tag, ring_close, ring_other}
use Rattle.base_tests.proofs.records.toys.read_ring.Goals as goal

pub returns-in_err-tag-clause-told : goal.returns-in_err-tag-clause-told
returns-in_err-tag-clause-told g c =
    let p = err_from_is_err_and c.from_residual.result c.from_residual.ensures.1 in
    let e = c.in_err-tag.field-0.0 in
    let first = first_ring c.args.is_allowed in
    rw (p.1, p.2) (weaker (g.S.Source.left c.args.source.now) (g.S.Source.left c.read_tag.new.source) (GetsTag (Err e))
    (Decides 5 first (record_read ring_of c.args.payload.now.items) (Err e))
    (λ t r got. none_decides 5 first (record_read ring_of c.args.payload.now.items) e t r (ring_none c.args.is_allowed) got)
    c.in_err-tag.ensures.told)

pub returns-in_err-head-in_default-clause-told : goal.returns-in_err-head-in_default-clause-told
returns-in_err-head-in_default-clause-told g c =
    let p = err_from_is_err_and c.from_residual-in_err-head-in_default.result c.from_residual-in_err-head-in_default.ensures.1 in
    let e = c.in_err-head-in_default.field-0.0 in
    let tag = c.in_ok-tag.tag in
    let items = c.read_rest.new.payload.items in
    let first = first_ring c.args.is_allowed in
    rw (p.1, p.2) (joined (g.S.Source.left c.args.source.now) (g.S.Source.left c.read_tag.new.source) (g.S.Source.left c.read_rest.new.source)
    (GetsTag (Ok tag)) (Decides {X = Bool} 4 (first_after tag) (λ head. entry (ring_of head items)) (Err e)) (Decides 5 first (record_read ring_of items) (Err e))
    (λ t r u s split got q. same_error {X = Bool} {Y = Option Bool} 5 first (λ head. entry (ring_of head items)) (record_read ring_of items) e (t ++ u) s
    (then_decides {X = Bool} 1 4 first (first_after tag) (λ head. entry (ring_of head items)) (Err e) t r u s split (one_byte tag t got)
    (λ tail. ring_tag c.args.is_allowed tag t tail got (λ z. search rules) c.if-is_allowed.true) q))
    c.in_ok-tag.ensures.told c.in_err-head-in_default.ensures.told)

pub returns-in-90-clause-told : goal.returns-in-90-clause-told
returns-in-90-clause-told g c =
    weaker (g.S.Source.left c.args.source.now) (g.S.Source.left c.read_tag.new.source) (GetsTag (Ok c.in_ok-tag.tag))
    (Decides 5 (first_ring c.args.is_allowed) (record_read ring_of c.args.payload.now.items) (Ok None))
    (λ t r got tail. ring_close c.args.is_allowed t tail (got ∙ ap (λ x. x ∷ []) c.in-90.is))
    c.in_ok-tag.ensures.told

pub returns-in_ok-head-in_default-clause-told : goal.returns-in_ok-head-in_default-clause-told
returns-in_ok-head-in_default-clause-told g c =
    let tag = c.in_ok-tag.tag in
    let head = c.in_ok-head-in_default.head in
    let items = c.read_rest.new.payload.items in
    let first = first_ring c.args.is_allowed in
    joined (g.S.Source.left c.args.source.now) (g.S.Source.left c.read_tag.new.source) (g.S.Source.left c.read_rest.new.source)
    (GetsTag (Ok tag)) (Decides {X = Bool} 4 (first_after tag) (λ head. entry (ring_of head items)) (Ok head)) (Decides 5 first (record_read ring_of items) (Ok (Some head)))
    (λ t r u s split got q tail. ap first (append_assoc t u tail) ∙ ring_tag c.args.is_allowed tag t (u ++ tail) got (λ z. search rules) c.if-is_allowed.true ∙ q tail)
    c.in_ok-tag.ensures.told c.in_ok-head-in_default.ensures.told

pub returns-in_default-2-clause-told : goal.returns-in_default-2-clause-told
returns-in_default-2-clause-told g c =
    let tag = c.in_ok-tag.tag in
    let first = first_ring c.args.is_allowed in
    weaker (g.S.Source.left c.args.source.now) (g.S.Source.left c.read_tag.new.source) (GetsTag (Ok tag))
    (Decides 5 first (record_read ring_of c.args.payload.now.items) (Err Broken))
    (λ t r got.
    let other = λ (tail : List ℕ). ring_other c.args.is_allowed tag t tail got (λ z. search rules) c.if-is_allowed.false in
    (ap first (sym (append-nil t)) ∙ other [], other r, inl (omega (arith, one_byte tag t got))))
    c.in_ok-tag.ensures.told
