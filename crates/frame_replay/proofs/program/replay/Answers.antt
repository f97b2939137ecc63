use Rattle.std.proofs.Common.{◌≡◌, ◌++◌, Ok, Err}
use Rattle.record_frame.specs.Framing.{framing}
use Rattle.record_frame.specs.Outcome.{OpeningLeaves}
use Rattle.record_frame.specs.Transactions.{has_magic, transactions}
use Rattle.record_frame.proofs.FirstRecords.{transactions_form}
use Rattle.record_frame.proofs.States.{after_opening, of_all}
use Rattle.record_frame.proofs.Takings.{weaker}
use Rattle.frame_replay.specs.Answer.{body_replayed, replayed}
use Rattle.frame_replay.specs.Outcome.{BodyCompletes, BodyOutcome, Completes, Outcome, status_of}
use Rattle.frame_replay.specs.Slot.{SlotAfterRecords, SlotAfterReplay}
use Rattle.frame_replay.proofs.Slots.{after_taken, completes_opened, completes_unopened, outcome_opened, outcome_unopened, slot_opened, slot_unopened}
use Rattle.frame_replay.proofs.program.replay.Goals as goal

pub open_input-requires : goal.open_input-requires
open_input-requires g c = transactions_form

pub returns-in-Err-clause-told : goal.returns-in-Err-clause-told
returns-in-Err-clause-told g c =
    let stats = c.args.stats in
    let e = c.in-Err.error in
    let w0 = g.K.Sink.written c.args.sink.now in
    let w1 = g.K.Sink.written c.open_input.new.sink in
    rw c.status.ensures (weaker (g.S.Source.left c.args.source.now) (g.S.Source.left c.open_input.new.source) (OpeningLeaves has_magic (replayed stats).magic w0 w1 (Err e)) (Outcome (replayed stats) (status_of (Err e)) w0 w1)
    (λ t r h. outcome_unopened stats w0 w1 e t r h) c.in-Err.ensures.told)

pub returns-in-Err-clause-complete : goal.returns-in-Err-clause-complete
returns-in-Err-clause-complete g c no_read no_write =
    let stats = c.args.stats in
    let e = c.in-Err.error in
    let w0 = g.K.Sink.written c.args.sink.now in
    let w1 = g.K.Sink.written c.open_input.new.sink in
    let status : c.status.result ≡ status_of (Err e) = c.status.ensures in
    rw status (of_all (g.S.Source.left c.args.source.now) (g.S.Source.left c.open_input.new.source) (Completes (replayed stats) (status_of (Err e)))
    (weaker (g.S.Source.left c.args.source.now) (g.S.Source.left c.open_input.new.source) (OpeningLeaves has_magic (replayed stats).magic w0 w1 (Err e)) (λ t r. Completes (replayed stats) (status_of (Err e)) (t ++ r))
    (λ t r h. completes_unopened stats w0 w1 e t r (rw status at no_read) (rw status at no_write) h) c.in-Err.ensures.told))

pub returns-in-Err-clause-slot : goal.returns-in-Err-clause-slot
returns-in-Err-clause-slot g c =
    let stats = c.args.stats in
    let e = c.in-Err.error in
    let slot = c.args.slot.now in
    let w0 = g.K.Sink.written c.args.sink.now in
    let w1 = g.K.Sink.written c.open_input.new.sink in
    rw c.status.ensures (of_all (g.S.Source.left c.args.source.now) (g.S.Source.left c.open_input.new.source) (λ input. SlotAfterReplay stats (status_of (Err e)) input slot slot)
    (weaker (g.S.Source.left c.args.source.now) (g.S.Source.left c.open_input.new.source) (OpeningLeaves has_magic (replayed stats).magic w0 w1 (Err e)) (λ t r. SlotAfterReplay stats (status_of (Err e)) (t ++ r) slot slot)
    (λ t r h. slot_unopened stats w0 w1 e slot t r h) c.in-Err.ensures.told))

pub returns-in-Ok-clause-told : goal.returns-in-Ok-clause-told
returns-in-Ok-clause-told g c =
    let stats = c.args.stats in
    let status = c.replay_anew.result in
    let w0 = g.K.Sink.written c.args.sink.now in
    let w1 = g.K.Sink.written c.open_input.new.sink in
    let w2 = g.K.Sink.written c.replay_anew.new.sink in
    after_taken (g.S.Source.left c.args.source.now) (g.S.Source.left c.open_input.new.source) (g.S.Source.left c.replay_anew.new.source)
    (OpeningLeaves has_magic (replayed stats).magic w0 w1 (Ok tt)) (BodyOutcome (body_replayed stats) status w1 w2) (Outcome (replayed stats) status w0 w2)
    (λ t u s h q. outcome_opened stats w0 w1 w2 status t u s h q) c.in-Ok.ensures.told c.replay_anew.ensures.told

pub returns-in-Ok-clause-complete : goal.returns-in-Ok-clause-complete
returns-in-Ok-clause-complete g c no_read no_write =
    let stats = c.args.stats in
    let status = c.replay_anew.result in
    let w0 = g.K.Sink.written c.args.sink.now in
    let w1 = g.K.Sink.written c.open_input.new.sink in
    after_opening (g.S.Source.left c.args.source.now) (g.S.Source.left c.open_input.new.source) (OpeningLeaves has_magic (replayed stats).magic w0 w1 (Ok tt)) (BodyCompletes (body_replayed stats) status) (Completes (replayed stats) status)
    (λ t r h q. completes_opened stats w0 w1 status t r h q) c.in-Ok.ensures.told (c.replay_anew.ensures.complete no_read no_write)

pub returns-in-Ok-clause-slot : goal.returns-in-Ok-clause-slot
returns-in-Ok-clause-slot g c =
    let stats = c.args.stats in
    let status = c.replay_anew.result in
    let old = c.args.slot.now in
    let new = c.replay_anew.new.slot in
    let w0 = g.K.Sink.written c.args.sink.now in
    let w1 = g.K.Sink.written c.open_input.new.sink in
    after_opening (g.S.Source.left c.args.source.now) (g.S.Source.left c.open_input.new.source) (OpeningLeaves has_magic (replayed stats).magic w0 w1 (Ok tt))
    (λ bytes. SlotAfterRecords stats status (framing transactions 4294967295 bytes).entries new) (λ input. SlotAfterReplay stats status input old new)
    (λ t r h q. slot_opened stats w0 w1 status old new t r h q) c.in-Ok.ensures.told c.replay_anew.ensures.slot
