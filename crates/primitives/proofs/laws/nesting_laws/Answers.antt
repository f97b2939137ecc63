use Rattle.primitives.proofs.Nesting.{rows_leave_room, room_is_enough, shifted_is_shallow, fewer_clips_are_shallow}
use Rattle.primitives.proofs.laws.nesting_laws.Goals as goal

pub returns : goal.returns
returns c = record {
  rows = rows_leave_room;
  enough = room_is_enough;
  shifted = shifted_is_shallow;
  fewer_clips = fewer_clips_are_shallow;
}
