use Rattle.std.proofs.Common.{arith, Ok}
use Rattle.record_frame.specs.Framing.{entry}
use Rattle.record_frame.specs.Transactions.{first_sized, first_payload}
use Rattle.record_frame.specs.Reading.{Decides, DecidesWith}
use Rattle.record_frame.proofs.Takings.{joined, then_decides}
use Rattle.record_frame.proofs.reading.read_payload.Goals as goal

pub returns-clause-told : goal.returns-clause-told
returns-clause-told g c =
    joined (g.S.Source.left c.args.source.now) (g.S.Source.left c.read_length.new.source) (g.S.Source.left c.read_bytes.new.source)
    (DecidesWith 4 first_sized first_payload (Ok c.in_ok-length.length))
    (Decides 0 (first_payload c.in_ok-length.length) (λ _. entry c.read_bytes.new.payload.items) c.read_bytes.result)
    (Decides 4 first_sized (λ _. entry c.read_bytes.new.payload.items) c.read_bytes.result)
    (λ t r u s split h q. then_decides 4 0 first_sized (first_payload c.in_ok-length.length) (λ _. entry c.read_bytes.new.payload.items) c.read_bytes.result t r u s split (omega (arith, h.0)) h.1 q)
    c.in_ok-length.ensures.told c.read_bytes.ensures.told
