-- A row of pixels by what a shape covers of them.
use Rattle.std.specs.Prelude.{◌≡◌, ℕ, ◌<◌, ◌≤◌, true, false, ℤ, pos, ◌+ℤ◌, ◌-ℤ◌, ◌≤ℤ◌, ◌<ℤ◌}
use Rattle.std.specs.Int.{int_max, int_min}
use Rattle.wr_geom.specs.Bounds.{Bounds, IsCoordinate}
use Rattle.clip_masks.specs.Outline.{Outline, samples_inside}
use Rattle.clip_masks.specs.Corners.{side_excludes}
use Rattle.clip_masks.specs.declared.side.Ends.{Ends}
use Rattle.clip_masks.specs.declared.side.Side.{Side}
use Rattle.clip_masks.specs.declared.spans.Spans.{Spans}

-- nothing is covered beside left and right, and all from `from` to `to`
pub record AreSpans (s : Outline) (y : ℤ) (r : Spans) : Type 0 where
  pub first : r.left ≤ℤ r.from
  pub second : r.from ≤ℤ r.to
  pub third : r.to ≤ℤ r.right
  pub start : IsCoordinate r.left
  pub end : IsCoordinate r.right
  pub before : (x : ℤ) → x <ℤ r.left → samples_inside s x y ≡ 0
  pub solid : (x : ℤ) → r.from ≤ℤ x → x <ℤ r.to → samples_inside s x y ≡ 16
  pub after : (x : ℤ) → r.right ≤ℤ x → samples_inside s x y ≡ 0

-- a side's corners leave no sample of a row's first pixels, and each of those from `clear` on
pub record AreEnds (s : Side) (e : Ends) : Type 0 where
  pub gone : (k : ℕ) → k < e.gone → side_excludes s k 7 ≡ true
  pub clear : (k : ℕ) → e.clear ≤ k → side_excludes s k 1 ≡ false
  pub order : e.gone ≤ e.clear

-- a row of the rectangle less what both sides' corners take of it
pub record IsBetween (b : Bounds) (first last : Ends) (r : Spans) : Type 0 where
  pub left : r.left ≡ int_min (b.x0 +ℤ pos first.gone) b.x1
  pub from : r.from ≡ int_min (b.x0 +ℤ pos first.clear) b.x1
  pub to : r.to ≡ int_max (b.x1 -ℤ pos last.clear) r.from
  pub right : r.right ≡ int_max (b.x1 -ℤ pos last.gone) r.to
