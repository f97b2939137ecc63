-- The four sides of a border, and how much of a pixel it covers.
use Rattle.std.specs.Prelude.{ℕ, ◌+◌, ◌-◌, ◌*◌, nat_le, nat_lt, ℤ, pos, ◌-ℤ◌, unsigned_abs, Bool, true, false, if◌then◌else◌}
use Rattle.wr_geom.specs.Bounds.{Bounds}
use Rattle.wr_geom.specs.declared.sides.Radii.{Radii}
use Rattle.wr_geom.specs.declared.sides.Widths.{Widths}
use Rattle.blend_rules.specs.declared.colour.Px.{Px}
use Rattle.blend_rules.specs.Colour.{IsPixel, scaled}
use Rattle.clip_masks.specs.Outline.{Outline, samples_inside, share, inset_of}
use Rattle.primitives.specs.declared.border.Edge.{Edge}
use Rattle.primitives.specs.declared.border.BorderColours.{BorderColours}

-- each of a border's colours is premultiplied and of four bytes
pub record HasPixelColours (colours : BorderColours) : Type 0 where
  pub top : IsPixel colours.top
  pub right : IsPixel colours.right
  pub bottom : IsPixel colours.bottom
  pub left : IsPixel colours.left

-- Whether a pixel with so many others before it and after it, between two edges, belongs to the side at the first edge. It
-- does within that side's width; else not within the other's; and else where no more pixels lie before it than after it.
unfoldable pub is_at_first : ℕ → ℕ → ℕ → ℕ → Bool
is_at_first before after first last = if nat_lt before first then true else if nat_lt after last then false else nat_le before after

-- the side that it belongs to, how many pixels lie between that side's edge and it, and that side's width
unfoldable pub edge_of : ℕ → ℕ → ℕ → ℕ → Edge
edge_of before after first last =
    if is_at_first before after first last
    then record { is_first = true; distance = before; width = first }
    else record { is_first = false; distance = after; width = last }

-- how many pixels lie between a first edge and a coordinate
abbrev pub pixels_before : ℤ → ℤ → ℕ
pixels_before edge z = unsigned_abs (z -ℤ edge)

-- how many lie between a coordinate and a last edge
abbrev pub pixels_after : ℤ → ℤ → ℕ
pixels_after edge z = unsigned_abs (edge -ℤ pos 1 -ℤ z)

-- a pixel's vertical side, of a border with these widths
abbrev pub vertical_edge : Bounds → Widths → ℤ → Edge
vertical_edge b w x = edge_of (pixels_before b.x0 x) (pixels_after b.x1 x) w.left w.right

-- and its horizontal one
abbrev pub horizontal_edge : Bounds → Widths → ℤ → Edge
horizontal_edge b w y = edge_of (pixels_before b.y0 y) (pixels_after b.y1 y) w.top w.bottom

-- whether a pixel belongs to its horizontal side: its centre lies no farther from that edge than the line through the corners of
-- the outer and the inner rectangle
unfoldable pub is_horizontal : Edge → Edge → Bool
is_horizontal across down = nat_le ((2 * down.distance + 1) * across.width) ((2 * across.distance + 1) * down.width)

-- the colour of the side to which a pixel with these edges belongs
unfoldable pub colour_of_side : Edge → Edge → BorderColours → Px
colour_of_side across down colours =
    if is_horizontal across down
    then (if down.is_first then colours.top else colours.bottom)
    else (if across.is_first then colours.left else colours.right)

-- the colour of the side to which the pixel (x, y) of the rectangle belongs
unfoldable pub side_colour : Bounds → Widths → BorderColours → ℤ → ℤ → Px
side_colour b w colours x y = colour_of_side (vertical_edge b w x) (horizontal_edge b w y) colours

-- how much of the pixel (x, y) lies in the outer shape and not in the inner one, of 255
unfoldable pub border_coverage : Outline → Widths → ℤ → ℤ → ℕ
border_coverage outer w x y = share (samples_inside outer x y - samples_inside (inset_of outer w) x y)

-- a border's colour at the pixel (x, y) of its rectangle
abbrev pub border_colour : Bounds → Widths → BorderColours → Radii → ℤ → ℤ → Px
border_colour b w colours radii x y = scaled (side_colour b w colours x y) (border_coverage (record { rect = b; radii = radii }) w x y)
