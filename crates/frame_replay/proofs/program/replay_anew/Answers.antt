use Rattle.std.proofs.Common.{Some, ap}
use Rattle.record_frame.specs.Framing.{framing}
use Rattle.record_frame.specs.Transactions.{transactions}
use Rattle.frame_replay.specs.Answer.{ReplayState, replaying, state_of}
use Rattle.frame_replay.specs.Outcome.{ReachesEnd}
use Rattle.frame_replay.specs.Slot.{SlotAfterRecords}
use Rattle.frame_replay.proofs.Outcomes.{if_some}
use Rattle.frame_replay.proofs.Slots.{no_renderer, slot_led}
use Rattle.frame_replay.proofs.program.replay_anew.Goals as goal

pub returns-in_default-clause-told : goal.returns-in_default-clause-told
returns-in_default-clause-told g c = no_renderer c.args.stats (g.S.Source.left c.args.source.now) (g.K.Sink.written c.args.sink.now)

pub returns-clause-told : goal.returns-clause-told
returns-clause-told g c = rw c.in-Ok.ensures at c.replay_on-ended.ensures.told

pub returns-clause-complete : goal.returns-clause-complete
returns-clause-complete g c no_read no_write = rw c.in-Ok.ensures at (c.replay_on-ended.ensures.complete no_read no_write)

pub returns-clause-slot : goal.returns-clause-slot
returns-clause-slot g c =
    let start : ReplayState = state_of c.in-Ok.renderer in
    let new = c.replay_on-ended.new.renderer in
    let status = c.replay_on-ended.result in
    let stats = c.args.stats in
    if_some (g.S.Source.left c.args.source.now) (λ bytes. ReachesEnd replaying status (stats, start) (stats, state_of new) (framing transactions 4294967295 bytes).entries)
    (λ bytes. SlotAfterRecords stats status (framing transactions 4294967295 bytes).entries (Some new))
    (λ bytes ends. slot_led stats status new start (framing transactions 4294967295 bytes).entries (ap state_of c.in-Ok.ensures) ends) c.replay_on-ended.ensures.state
