-- Loops over Iframes and offsets, and the rooms of Iframes.
use Rattle.std.proofs.Common.{◌≡◌, ℕ, suc, ◌+◌, ◌<◌, ◌≤◌, ℤ, Bool, ◌&&◌, List, [], length, drop, get_or, Option, Some, None, sym, ap, ap₂, ◌∙◌, arith}
use Rattle.std.specs.List.{list_all}
use Rattle.std.proofs.Math.Bool.{and_assoc, and-true}
use Rattle.std.proofs.Math.Seq.{drop-cons}
use Rattle.std.proofs.lemmas.List.{nil_from_length, length-drop}
use Rattle.wr_geom.specs.Points.{point_sum}
use Rattle.wr_geom.specs.declared.point.Point.{Point}
use Rattle.scene_limits.specs.declared.room.Room.{Room}
use Rattle.scene_limits.specs.Rooms.{room_has, maybe_has, rooms_have}

-- one more passes
pub more_all : {X : Type 0} (f : X → Bool) (xs : List X) (k : ℕ) (d : X) (s t total : Bool) → k < length xs → t ≡ (s && f (get_or xs k d))
    → (s && list_all f (drop k xs)) ≡ total → (t && list_all f (drop (k + 1) xs)) ≡ total
more_all f xs k d s t total lt w h =
    let next : k + 1 ≡ suc k = omega arith in
    rw (w, next) (and_assoc s (f (get_or xs k d)) (list_all f (drop (suc k) xs)) ∙ ap (λ ys. s && list_all f ys) (sym (drop-cons xs k d lt)) ∙ h)

-- none is left
pub all_all : {X : Type 0} (f : X → Bool) (xs : List X) (k : ℕ) (s total : Bool) → length xs ≤ k → (s && list_all f (drop k xs)) ≡ total → s ≡ total
all_all f xs k s total le h =
    let none : drop k xs ≡ [] = nil_from_length (drop k xs) (omega (arith, length-drop k xs)) in
    sym (and-true s) ∙ ap (λ ys. s && list_all f ys) (sym none) ∙ h

-- ---- Iframes

pub with_room : (rooms : List (Option Room)) (q : ℕ) (room : Room) (s : Bool) (origin shift : Point) (i j : ℤ) → Some room ≡ get_or rooms q None → i ≡ shift.x → j ≡ shift.y
    → (s && room_has room (point_sum origin (record { x = i; y = j }))) ≡ (s && rooms_have rooms q (point_sum origin shift))
with_room rooms q room s origin shift i j e f g =
    ap₂ (λ (k l : ℤ). s && room_has room (point_sum origin (record { x = k; y = l }))) f g ∙ ap (λ (o : Option Room). s && maybe_has o (point_sum origin shift)) e

pub without_room : (rooms : List (Option Room)) (q : ℕ) (s : Bool) (origin : Point) → None ≡ get_or rooms q None → s ≡ (s && rooms_have rooms q origin)
without_room rooms q s origin e = sym (and-true s) ∙ ap (λ (o : Option Room). s && maybe_has o origin) e
