-- A part of the tiles is that of those that a primitive meets.
use Rattle.std.proofs.Common.{◌≡◌, ℕ, ◌+◌, ◌*◌, ◌<◌, ◌≤◌, Bool, true, false, ◌&&◌, nat_le, nat_lt, if◌then◌else◌, refl, ap, ◌∙◌, arith}
use Rattle.std.proofs.lemmas.Bool.Decides.{nat_tests}
use Rattle.primitives.specs.Colours.{visible_rect}
use Rattle.primitives.specs.PrimitiveModel.{PrimitiveModel}
use Rattle.tile_grid.specs.declared.part.GridPart.{GridPart}
use Rattle.tile_grid.specs.Parts.{is_in_part}
use Rattle.tile_grid.specs.Tiles.{meets}
use Rattle.tile_records.specs.declared.tiles.Tiles.{Tiles}
use Rattle.tile_records.specs.Tiles.{columns_of, rows_of, rect_at}
use Rattle.tile_records.specs.Passing.{State, TileState, HasDrawnBlock, HasPainted, drawn, tile_of}

is_le : (a b : ℕ) → nat_le a b ≡ true → a ≤ b
is_le a b e = grind (arith, nat_tests)

not_le : (a b : ℕ) → nat_le a b ≡ false → b < a
not_le a b e = grind (arith, nat_tests)

is_lt : (a b : ℕ) → nat_lt a b ≡ true → a < b
is_lt a b e = grind (arith, nat_tests)

not_lt : (a b : ℕ) → nat_lt a b ≡ false → b ≤ a
not_lt a b e = grind (arith, nat_tests)

module _ (columns left right top bottom n : ℕ) (old new : State) (b : HasDrawnBlock columns left right top bottom n old new) where
  paint_by : (c r : ℕ) → c < columns → (t u v w : Bool) → nat_le left c ≡ t → nat_lt c right ≡ u → nat_le top r ≡ v → nat_lt r bottom ≡ w
      → tile_of new (r * columns + c) ≡ (if (t && u) && (v && w) then drawn old.groups n (tile_of old (r * columns + c)) else tile_of old (r * columns + c))
  paint_by c r h true true true true e f g i = b.hit c r (is_le left c e) (is_lt c right f) (is_le top r g) (is_lt r bottom i)
  paint_by c r h false u v w e f g i = b.beside_left c r (not_le left c e)
  paint_by c r h true false v w e f g i = b.beside_right c r (not_lt c right f) h
  paint_by c r h true true false w e f g i = b.above c r h (not_le top r g)
  paint_by c r h true true true false e f g i = b.below c r h (not_lt r bottom i)

abbrev painted : State → ℕ → ℕ → Bool → TileState
painted old n k t = if t then drawn old.groups n (tile_of old k) else tile_of old k

paint_in : (columns : ℕ) (p : GridPart) (n : ℕ) (old new : State) → HasDrawnBlock columns p.columns.from p.columns.to p.rows.from p.rows.to n old new
    → (c r : ℕ) → c < columns → tile_of new (r * columns + c) ≡ painted old n (r * columns + c) (is_in_part p c r)
unfolding is_in_part
paint_in columns p n old new b c r h =
    paint_by columns p.columns.from p.columns.to p.rows.from p.rows.to n old new b c r h
    (nat_le p.columns.from c) (nat_lt c p.columns.to) (nat_le p.rows.from r) (nat_lt r p.rows.to) refl refl refl refl

pub paint_law : (over : Tiles) (q : PrimitiveModel) (p : GridPart) (n : ℕ) (old new : State)
    → ((c r : ℕ) → c < columns_of over → r < rows_of over → is_in_part p c r ≡ meets (rect_at over c r) (visible_rect q))
    → HasDrawnBlock (columns_of over) p.columns.from p.columns.to p.rows.from p.rows.to n old new → HasPainted over q n old new
paint_law over q p n old new f b = record {
  tiles = λ c r h k. paint_in (columns_of over) p n old new b c r h ∙ ap (painted old n (r * columns_of over + c)) (f c r h k);
  groups = b.groups;
  sides = b.sides;
  sound = b.sound;
}
