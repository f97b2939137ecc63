-- Radii of corners and widths of sides, and when they fit a rectangle.
use Rattle.std.specs.Prelude.{ℕ, ◌+◌, ◌≤◌, Bool, ◌&&◌, ◌==◌, nat_le}
use Rattle.wr_geom.specs.Bounds.{Bounds}
pub use Rattle.wr_geom.specs.Bounds.{width_of, height_of}
use Rattle.wr_geom.specs.declared.limits.TheConstants.{MAX_RADIUS}
use Rattle.wr_geom.specs.declared.sides.Radii.{Radii}
use Rattle.wr_geom.specs.declared.sides.Widths.{Widths}

-- the radii of a rectangle without round corners
abbrev pub square : Radii
square = record { tl = (0, 0); tr = (0, 0); br = (0, 0); bl = (0, 0) }

-- whether two corners have the same radii
abbrev pub same_corner : ℕ × ℕ → ℕ × ℕ → Bool
same_corner a b = (a.0 == b.0) && (a.1 == b.1)

-- whether all eight radii are the same
unfoldable pub same_radii : Radii → Radii → Bool
same_radii a b = same_corner a.tl b.tl && (same_corner a.tr b.tr && (same_corner a.br b.br && same_corner a.bl b.bl))

-- neither radius of a corner is greater than `MAX_RADIUS`, 4,096 pixels
pub record IsSmallCorner (r : ℕ × ℕ) : Type 0 where
  pub across : r.0 ≤ MAX_RADIUS
  pub down : r.1 ≤ MAX_RADIUS

-- no radius is greater than `MAX_RADIUS`
pub record AreSmallRadii (r : Radii) : Type 0 where
  pub tl : IsSmallCorner r.tl
  pub tr : IsSmallCorner r.tr
  pub br : IsSmallCorner r.br
  pub bl : IsSmallCorner r.bl

-- no width is greater than `MAX_RADIUS`
pub record AreSmallWidths (w : Widths) : Type 0 where
  pub top : w.top ≤ MAX_RADIUS
  pub right : w.right ≤ MAX_RADIUS
  pub bottom : w.bottom ≤ MAX_RADIUS
  pub left : w.left ≤ MAX_RADIUS

-- the two radii along each side are together no longer than it
pub record RadiiFit (b : Bounds) (r : Radii) : Type 0 where
  pub top : r.tl.0 + r.tr.0 ≤ width_of b
  pub bottom : r.bl.0 + r.br.0 ≤ width_of b
  pub left : r.tl.1 + r.bl.1 ≤ height_of b
  pub right : r.tr.1 + r.br.1 ≤ height_of b

-- opposite widths fit beside each other
pub record WidthsFit (b : Bounds) (w : Widths) : Type 0 where
  pub across : w.left + w.right ≤ width_of b
  pub down : w.top + w.bottom ≤ height_of b

-- whether the radii fit
unfoldable pub radii_fit : Bounds → Radii → Bool
radii_fit b r =
    nat_le (r.tl.0 + r.tr.0) (width_of b) && nat_le (r.bl.0 + r.br.0) (width_of b)
    && nat_le (r.tl.1 + r.bl.1) (height_of b) && nat_le (r.tr.1 + r.br.1) (height_of b)

-- whether the widths fit
unfoldable pub widths_fit : Bounds → Widths → Bool
widths_fit b w = nat_le (w.left + w.right) (width_of b) && nat_le (w.top + w.bottom) (height_of b)
