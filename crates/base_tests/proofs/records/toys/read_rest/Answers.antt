use Rattle.std.proofs.Common.{rules, arith, ℕ, List, Bool, true, false, [], ◌++◌, Option, Some, Ok, Err, inl, ap, ◌∙◌}
use Rattle.std.proofs.lemmas.Result.{err_from_is_err_and}
use Rattle.record_frame.specs.Framing.{entry, map_entry}
use Rattle.record_frame.specs.Transactions.{first_sized}
use Rattle.base_tests.specs.Toys.{ring_of, first_after}
use Rattle.record_frame.specs.Reading.{Decides}
use Rattle.record_frame.specs.declared.error.ReadError.TheVariants.{Broken}
use Rattle.record_frame.proofs.Takings.{weaker, nothing_taken, decides_mapped}
use Rattle.base_tests.proofs.Toys.{after_bell, after_sent, after_other}
use Rattle.base_tests.proofs.records.toys.read_rest.Goals as goal

pub returns-in_err-read_payload-in-80-clause-told : goal.returns-in_err-read_payload-in-80-clause-told
returns-in_err-read_payload-in-80-clause-told g c =
    let p = err_from_is_err_and c.from_residual.result c.from_residual.ensures.1 in
    let items = c.read_payload.new.payload.items in
    let e = c.in_err-read_payload-in-80.field-0.0 in
    rw (p.1, p.2) (weaker (g.S.Source.left c.args.source.now) (g.S.Source.left c.read_payload.new.source)
    (Decides {X = Unit {0}} 4 first_sized (λ _. entry items) (Err e))
    (Decides {X = Bool} 4 (first_after c.args.tag) (λ head. entry (ring_of head items)) (Err e))
    (λ t r q. decides_mapped {X = Unit {0}} {Y = Bool} 4 (λ (payload : List ℕ). Some payload) first_sized (first_after c.args.tag) (λ _. entry items) (λ head. entry (ring_of head items)) e t r (λ bytes. ap (λ x. first_after x bytes) c.in-80.is ∙ after_sent bytes) q)
    c.in_err-read_payload-in-80.ensures.told)

pub returns-in_ok-read_payload-in-80-clause-told : goal.returns-in_ok-read_payload-in-80-clause-told
returns-in_ok-read_payload-in-80-clause-told g c =
    let items = c.read_payload.new.payload.items in
    weaker (g.S.Source.left c.args.source.now) (g.S.Source.left c.read_payload.new.source)
    (Decides {X = Unit {0}} 4 first_sized (λ _. entry items) (Ok c.in_ok-read_payload-in-80.field-0))
    (Decides {X = Bool} 4 (first_after c.args.tag) (λ head. entry (ring_of head items)) (Ok true))
    (λ t r q tail. ap (λ x. first_after x (t ++ tail)) c.in-80.is ∙ after_sent (t ++ tail) ∙ ap (map_entry (λ (payload : List ℕ). Some payload)) (q tail))
    c.in_ok-read_payload-in-80.ensures.told

pub returns-in-66-clause-told : goal.returns-in-66-clause-told
returns-in-66-clause-told g c =
    let items = c.clear.new.self.items in
    nothing_taken (g.S.Source.left c.args.source.now) (Decides {X = Bool} 4 (first_after c.args.tag) (λ head. entry (ring_of head items)) (Ok false))
    (λ r tail. ap (λ x. first_after x tail) c.in-66.is ∙ after_bell tail)

pub returns-in_default-clause-told : goal.returns-in_default-clause-told
returns-in_default-clause-told g c =
    let items = c.clear.new.self.items in
    nothing_taken (g.S.Source.left c.args.source.now) (Decides {X = Bool} 4 (first_after c.args.tag) (λ head. entry (ring_of head items)) (Err Broken))
    (λ r. (after_other c.args.tag [] (search rules) (search rules), after_other c.args.tag r (search rules) (search rules), inl (omega arith)))
