use Rattle.std.proofs.Common.{rules, arith, ◌≡◌, [], true, false, Ok, Err, length, sym, ap, ◌∙◌}
use Rattle.std.proofs.lemmas.Result.{err_from_is_err_and}
use Rattle.record_frame.specs.Reading.{Gets}
use Rattle.record_frame.specs.Outcome.{Opens}
use Rattle.record_frame.specs.declared.error.ReadError.TheVariants.{Broken}
use Rattle.record_frame.proofs.Takings.{weaker}
use Rattle.record_frame.proofs.Magic.{opens_short}
use Rattle.record_frame.proofs.input.read_magic.Goals as goal

pub returns-in_err-fill-clause-told : goal.returns-in_err-fill-clause-told
returns-in_err-fill-clause-told g c =
    let p = err_from_is_err_and c.from_residual.result c.from_residual.ensures.1 in
    let len : length c.fill.new.out ≡ 4 = search rules in
    rw (p.1, p.2) (weaker (g.S.Source.left c.args.source.now) (g.S.Source.left c.fill.new.source)
    (Gets {X = Unit {0}} (Err c.in_err-fill.field-0.0) 4 [] c.fill.new.out) (Opens g.A.Session.form.opens (Err c.in_err-fill.field-0.0))
    (λ t r got. opens_short g.A.Session.form.opens c.requires.opens_short c.in_err-fill.field-0.0 c.fill.new.out t r got)
    (rw len at c.in_err-fill.ensures.told))

pub returns-then-not-opens-clause-told : goal.returns-then-not-opens-clause-told
returns-then-not-opens-clause-told g c =
    let len : length c.fill.new.out ≡ 4 = search rules in
    let other : g.A.Session.form.opens c.fill.new.out ≡ false = search rules in
    weaker (g.S.Source.left c.args.source.now) (g.S.Source.left c.fill.new.source)
    (Gets {X = Unit {0}} (Ok c.in_ok-fill.field-0) 4 [] c.fill.new.out) (Opens g.A.Session.form.opens (Err Broken))
    (λ t r got.
    let no : g.A.Session.form.opens t ≡ false = ap g.A.Session.form.opens (sym got.1) ∙ other in
    (no, c.requires.opens_four t r got.0 ∙ no, omega (arith, got.0)))
    (rw len at c.in_ok-fill.ensures.told)

pub returns-clause-told : goal.returns-clause-told
returns-clause-told g c =
    let len : length c.fill.new.out ≡ 4 = search rules in
    let same : g.A.Session.form.opens c.fill.new.out ≡ true = search rules in
    weaker (g.S.Source.left c.args.source.now) (g.S.Source.left c.fill.new.source)
    (Gets {X = Unit {0}} (Ok c.in_ok-fill.field-0) 4 [] c.fill.new.out) (Opens g.A.Session.form.opens (Ok tt))
    (λ t r got. (got.0, λ tail. c.requires.opens_four t tail got.0 ∙ ap g.A.Session.form.opens (sym got.1) ∙ same))
    (rw len at c.in_ok-fill.ensures.told)
