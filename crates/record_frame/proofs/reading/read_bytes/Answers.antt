use Rattle.std.proofs.Common.{rules, arith, ◌≡◌, ◌++◌, List, ℕ, ap, ◌∙◌, Ok, Err}
use Rattle.std.proofs.lemmas.Result.{err_from_is_err_and}
use Rattle.record_frame.specs.Framing.{entry}
use Rattle.record_frame.specs.Transactions.{first_payload}
use Rattle.record_frame.specs.Reading.{Gets, Decides}
use Rattle.record_frame.proofs.Takings.{joined, payload_cut}
use Rattle.record_frame.proofs.reading.read_bytes.Goals as goal

pub loop-source-preserved : goal.loop-source-preserved
loop-source-preserved g c = record {
  within = omega (arith, c.in_ok-read_piece.ensures.grown, c.min.ensures, c.len-in-loop-source.ensures);
  told = joined (g.S.Source.left c.args.source.now) (g.S.Source.left c.loop-source.source) (g.S.Source.left c.read_piece.new.source)
      (λ (t r : List ℕ). c.loop-source.payload.items ≡ t)
      (Gets {X = Unit {0}} (Ok c.in_ok-read_piece.field-0) c.min.result c.loop-source.payload.items c.read_piece.new.payload.items)
      (λ (t r : List ℕ). c.read_piece.new.payload.items ≡ t)
      (λ t r u s split same got. got.1 ∙ ap (λ x. x ++ u) same)
      c.loop-source.invariant.told c.in_ok-read_piece.ensures.told;
  same_count = search rules;
}

pub returns-in_err-read_piece-clause-told : goal.returns-in_err-read_piece-clause-told
returns-in_err-read_piece-clause-told g c =
    let p = err_from_is_err_and c.from_residual.result c.from_residual.ensures.1 in
    rw (p.1, p.2) (joined (g.S.Source.left c.args.source.now) (g.S.Source.left c.loop-source.source) (g.S.Source.left c.read_piece.new.source)
    (λ (t r : List ℕ). c.loop-source.payload.items ≡ t)
    (Gets {X = Unit {0}} (Err c.in_err-read_piece.field-0.0) c.min.result c.loop-source.payload.items c.read_piece.new.payload.items)
    (Decides {X = Unit {0}} 0 (first_payload c.args.size) (λ _. entry c.read_piece.new.payload.items) (Err c.in_err-read_piece.field-0.0))
    (λ t r u s split same got. payload_cut c.in_err-read_piece.field-0.0 c.args.size c.min.result (λ _. entry c.read_piece.new.payload.items)
    c.loop-source.payload.items c.read_piece.new.payload.items t r u s c.requires (omega (arith, c.min.ensures, c.len-in-loop-source.ensures)) split same got)
    c.loop-source.invariant.told c.in_err-read_piece.ensures.told)
