use Rattle.std.proofs.Common.{◌≡◌, ◌++◌, ℕ, List, sym, ap, subst, ◌∙◌}
use Rattle.file_generator.specs.Files.{ops, payload_bytes}
use Rattle.file_generator.specs.Laws.{IsShort}
use Rattle.file_generator.proofs.Payloads.{payload_short}
use Rattle.file_generator.proofs.generator.Generator.put_next.Goals as goal

pub returns-clause-short : goal.returns-clause-short
returns-clause-short c =
    let g = c.self.inside in
    let bytes = payload_bytes (ops g.next g.die.state).value in
    let same : c.put_payload.new.out.items ≡ bytes = c.in_ok-put_payload.ensures.out ∙ ap (λ (o : List ℕ). o ++ bytes) c.clear.ensures.items in
    subst IsShort (sym same) (payload_short g.next g.die.state)
