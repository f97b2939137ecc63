-- The display list of a generated file: a page that scrolls behind a bar, with shapes at rolled places.
use Rattle.std.specs.Prelude.{ℕ, ◌+◌, ◌==◌, pos, List, [], ◌∷◌, ◌++◌, true, false, Option, Some, None, if◌then◌else◌}
use Rattle.wr_geom.specs.Bounds.{Bounds}
use Rattle.blend_rules.specs.declared.colour.Px.{Px}
use Rattle.blend_rules.specs.declared.mode.Mode.{Mode}
use Rattle.blend_rules.specs.declared.mode.Mode.TheVariants.{Normal, Multiply, Screen, Overlay, Darken, Lighten, HardLight, Difference, Exclusion}
use Rattle.display_list.specs.declared.item.Spot.{Spot}
use Rattle.display_list.specs.declared.node.Node.{Node}
use Rattle.display_list.specs.declared.node.Node.TheVariants as node
use Rattle.display_list.specs.declared.node.ClipDef.{ClipDef}
use Rattle.display_list.specs.declared.node.ChainDef.{ChainDef}
use Rattle.display_list.specs.declared.token.Token.{Token}
use Rattle.display_list.specs.declared.token.Token.TheVariants.{Solid, Image, Border, Push, Pop}
use Rattle.display_list.specs.ListModel.{ListModel}
use Rattle.wr_geom.specs.declared.sides.Radii.{Radii}
use Rattle.wr_geom.specs.declared.sides.Widths.{Widths}
use Rattle.file_generator.specs.Rolls.{Rolled, roll, rolled_list, rolled_colour}

-- a rectangle between two corners, in pixels
abbrev pub corners : ℕ → ℕ → ℕ → ℕ → Bounds
corners x0 y0 x1 y1 = record { x0 = pos x0; y0 = pos y0; x1 = pos x1; y1 = pos y1 }

-- a square of a side
abbrev pub square_at : ℕ → ℕ → ℕ → Bounds
square_at x y side = corners x y (x + side) (y + side)

-- where something stands: its node, its chain of clips, and its rectangle
abbrev pub spot_at : ℕ → Option ℕ → Bounds → Spot
spot_at node chain rect = record { node = node; chain = chain; rect = rect }

-- all four corners of the same radius
abbrev pub round_corners : ℕ → Radii
round_corners r = record { tl = (r, r); tr = (r, r); br = (r, r); bl = (r, r) }

-- all four sides of the same width
abbrev pub even_widths : ℕ → Widths
even_widths w = record { top = w; right = w; bottom = w; left = w }

-- an opaque grey of a given value
abbrev pub opaque_grey : ℕ → Px
opaque_grey v = record { b = v; g = v; r = v; a = 255 }

-- ---- what every list has

-- node 1: a viewport of the view's size on a page that is 704 pixels high
abbrev pub page : Node
page = node.Scroll 0 1 256 192 256 704

-- clip 0: most of the viewport's size, with round corners, on the page
abbrev pub rounding : ClipDef
rounding = record { node = 1; out = false; round = true; rect = corners 16 16 240 176; radii = round_corners 8 }

-- chain 0
abbrev pub rounded_chain : ChainDef
rounded_chain = record { parent = None; clips = 0 ∷ [] }

-- the page's ground
abbrev pub ground : Token
ground = Solid (spot_at 1 None (corners 0 0 256 704)) (opaque_grey 240)

-- a bar at the bottom of the view, which does not scroll
abbrev pub bar : Token
bar = Solid (spot_at 0 None (corners 0 176 256 192)) (record { b = 0; g = 0; r = 0; a = 128 })

-- ---- what is rolled

abbrev pub rolled_solid : Spot → ℕ → Rolled Token
rolled_solid spot x = record { value = Solid spot (rolled_colour x).value; state = (rolled_colour x).state }

-- a border of four rolled colours
unfoldable pub rolled_border : Spot → ℕ → Rolled Token
rolled_border spot x =
    let top = rolled_colour x in
    let right = rolled_colour top.state in
    let bottom = rolled_colour right.state in
    let left = rolled_colour bottom.state in
    record { value = Border spot (even_widths 2) top.value right.value bottom.value left.value (round_corners 4); state = left.state }

-- on the page, by its kind: a solid, one under the rounded clip, an image, or a border
abbrev pub rolled_shape : ℕ → Bounds → ℕ → Rolled Token
rolled_shape kind rect x =
    if kind == 0 then rolled_solid (spot_at 1 None rect) x else
    if kind == 1 then rolled_solid (spot_at 1 (Some 0) rect) x else
    if kind == 2 then record { value = Image (spot_at 1 None rect) 1 0 0; state = x } else rolled_border (spot_at 1 None rect) x

-- one of them, somewhere on the page
unfoldable pub rolled_square : ℕ → Rolled Token
rolled_square start =
    let kind = roll 4 start in
    let x = roll 224 kind.state in
    let y = roll 672 x.state in
    rolled_shape kind.value (square_at x.value y.value 32) y.state

-- a larger solid, somewhere on the page
unfoldable pub rolled_overlay : ℕ → Rolled Token
rolled_overlay start =
    let x = roll 192 start in
    let y = roll 640 x.state in
    rolled_solid (spot_at 1 None (square_at x.value y.value 64)) y.state

-- the mode of a number below 9
abbrev pub mode_numbered : ℕ → Mode
mode_numbered n =
    if n == 0 then Normal else if n == 1 then Multiply else if n == 2 then Screen else if n == 3 then Overlay else
    if n == 4 then Darken else if n == 5 then Lighten else if n == 6 then HardLight else if n == 7 then Difference else Exclusion

-- opens a context of a rolled mode, whose opacity property 1 may set
abbrev pub context : ℕ → Token
context mode = Push (record { node = 1; chain = None; opacity = 255; prop = Some 1; mode = mode_numbered mode; isolate = false })

-- the page's ground, sixteen shapes on it, four overlays in a context, and the bar
abbrev pub items_of : List Token → ℕ → List Token → List Token
items_of squares mode overlays = ground ∷ (squares ++ (context mode ∷ (overlays ++ (Pop ∷ (bar ∷ [])))))

unfoldable pub rolled_items : ℕ → Rolled (List Token)
rolled_items x =
    let squares = rolled_list rolled_square 16 x in
    let mode = roll 9 squares.state in
    let overlays = rolled_list rolled_overlay 4 mode.state in
    record { value = items_of squares.value mode.value overlays.value; state = overlays.state }

-- the whole list
abbrev pub rolled_display_list : ℕ → Rolled ListModel
rolled_display_list x = record {
  value = record { nodes = page ∷ []; clips = rounding ∷ []; chains = rounded_chain ∷ []; items = (rolled_items x).value };
  state = (rolled_items x).state;
}
