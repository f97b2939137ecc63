-- How many groups are open at once.
use Rattle.std.proofs.Common.{◌≡◌, ◌≤◌, ◌&&◌, ℕ, zero, suc, Bool, true, false, List, [], ◌∷◌, ◌++◌, refl, sym, ap, ◌∙◌, append_assoc, arith, true≢false}
use Rattle.wr_geom.specs.declared.point.Point.{Point}
use Rattle.primitives.specs.declared.entry.Entry.{Entry}
use Rattle.primitives.specs.declared.entry.Entry.TheVariants as entry
use Rattle.primitives.specs.Moves.{shifted_entries}
use Rattle.primitives.specs.Stacks.{is_shallow, IsRow}
use Rattle.primitives.specs.Stacks as row
use Rattle.primitives.specs.Laws.{RowsLeaveRoom, RoomIsEnough, ShiftedIsShallow, FewerClipsAreShallow}

and_assoc : (a b c : Bool) → (a && (b && c)) ≡ ((a && b) && c)
and_assoc true b c = refl
and_assoc false b c = refl

pub rows_leave_room : RowsLeaveRoom
rows_leave_room room _ fs row.none = refl
rows_leave_room room _ fs (row.primitive p es h) = rows_leave_room room es fs h
rows_leave_room zero _ fs (row.group o m clips es gs h i) = refl
rows_leave_room (suc room) _ fs (row.group o m clips es gs h i) =
    ap (is_shallow room) (append_assoc es (entry.Pop ∷ gs) fs)
    ∙ rows_leave_room room es (entry.Pop ∷ (gs ++ fs)) h
    ∙ ap (λ (b : Bool). is_shallow room es && b) (rows_leave_room (suc room) gs fs i)
    ∙ and_assoc (is_shallow room es) (is_shallow (suc room) gs) (is_shallow (suc room) fs)
    ∙ ap (λ (b : Bool). b && is_shallow (suc room) fs) (sym (rows_leave_room room es (entry.Pop ∷ gs) h))

pub room_is_enough : RoomIsEnough
room_is_enough room more [] h s = refl
room_is_enough room more (entry.Primitive p ∷ es) h s = room_is_enough room more es h s
room_is_enough zero more (entry.Push o m clips ∷ es) h s = absurd (true≢false (sym s))
room_is_enough (suc room) zero (entry.Push o m clips ∷ es) h s = absurd (omega (arith, h))
room_is_enough (suc room) (suc more) (entry.Push o m clips ∷ es) h s = room_is_enough room more es (omega (arith, h)) s
room_is_enough room more (entry.Pop ∷ es) h s = room_is_enough (suc room) (suc more) es (omega (arith, h)) s

pub shifted_is_shallow : ShiftedIsShallow
shifted_is_shallow room [] by = refl
shifted_is_shallow room (entry.Primitive p ∷ es) by = shifted_is_shallow room es by
shifted_is_shallow zero (entry.Push o m clips ∷ es) by = refl
shifted_is_shallow (suc room) (entry.Push o m clips ∷ es) by = shifted_is_shallow room es by
shifted_is_shallow room (entry.Pop ∷ es) by = shifted_is_shallow (suc room) es by

pub fewer_clips_are_shallow : FewerClipsAreShallow
fewer_clips_are_shallow room n (entry.Primitive p) es = refl
fewer_clips_are_shallow zero n (entry.Push o m clips) es = refl
fewer_clips_are_shallow (suc room) n (entry.Push o m clips) es = refl
fewer_clips_are_shallow room n entry.Pop es = refl
