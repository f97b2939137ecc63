-- The fields that several parts of a list share, each with its checks.
use Rattle.std.specs.Prelude.{ℕ, nat_lt}
use Rattle.std.specs.Int.{w16, w32}
use Rattle.wr_io.specs.declared.fault.Code.TheVariants as code
use Rattle.wr_geom.specs.Bounds.{Bounds}
use Rattle.wr_geom.specs.Sides.{radii_fit, widths_fit}
use Rattle.wr_geom.specs.declared.sides.Radii.{Radii}
use Rattle.wr_geom.specs.declared.sides.Widths.{Widths}
use Rattle.field_forms.specs.Form.{Form, done, ◌>>=◌}
use Rattle.field_forms.specs.Numbers.{number}
use Rattle.field_forms.specs.Fields.{refuse_if, refuse_unless, reference, optional_reference, coordinate, rectangle}
use Rattle.display_list.specs.declared.item.Spot.{Spot}
use Rattle.display_list.specs.declared.item.GlyphAt.{GlyphAt}

-- a corner's radius or a border's width: at most 4,096
unfoldable pub radius : Form ℕ
radius = refuse_if (nat_lt 4096) code.BadRadius (number w16)

-- a corner's two radii
unfoldable pub corner : Form (ℕ × ℕ)
corner = do
  across ← radius
  down ← radius
  done (across, down)

-- the radii of four corners
unfoldable pub corners : Form Radii
corners = do
  tl ← corner
  tr ← corner
  br ← corner
  bl ← corner
  done (record { tl = tl; tr = tr; br = br; bl = bl })

-- the radii of a rectangle's corners, which fit along each side
unfoldable pub corner_radii : Bounds → Form Radii
corner_radii b = refuse_unless (radii_fit b) code.BadRadius corners

-- the widths of four sides
unfoldable pub four_widths : Form Widths
four_widths = do
  top ← radius
  right ← radius
  bottom ← radius
  l ← radius
  done (record { top = top; right = right; bottom = bottom; left = l })

-- the widths of a rectangle's border, of which opposite ones fit
unfoldable pub border_widths : Bounds → Form Widths
border_widths b = refuse_unless (widths_fit b) code.BadRadius four_widths

-- a viewport's or a content's side: at most two to the 20th
unfoldable pub scroll_side : Form ℕ
scroll_side = refuse_if (nat_lt 1048576) code.BadNumber (number w32)

-- the node, chain and rectangle of an item, of so many nodes with the root and so many chains
unfoldable pub spot : ℕ → ℕ → Form Spot
spot nodes chains = do
  node ← reference nodes
  chain ← optional_reference chains
  rect ← rectangle
  done (record { node = node; chain = chain; rect = rect })

unfoldable pub glyph : Form GlyphAt
glyph = do
  number_of ← number w16
  x ← coordinate
  y ← coordinate
  done (record { glyph = number_of; x = x; y = y })
