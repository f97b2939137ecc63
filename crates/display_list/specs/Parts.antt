-- The parts of a list: their fields and checks, after what stands before them.
use Rattle.std.specs.Prelude.{ℕ, ◌+◌, Bool, true, false, length, Option, Some, None, nat_lt, nat_le, ◌==◌, slice_index, if◌then◌else◌}
use Rattle.std.specs.List.{list_any}
use Rattle.std.specs.Int.{w16, w32}
use Rattle.wr_io.specs.declared.fault.Code.TheVariants as code
use Rattle.blend_rules.specs.declared.mode.Mode.{Mode}
use Rattle.blend_rules.specs.declared.mode.Mode.TheVariants.{Normal, Multiply, Screen, Overlay, Darken, Lighten, HardLight, Difference, Exclusion}
use Rattle.wr_geom.specs.Sides.{square}
use Rattle.display_list.specs.declared.node.Node.{Node}
use Rattle.display_list.specs.declared.node.Node.TheVariants as node
use Rattle.display_list.specs.declared.node.ClipDef.{ClipDef}
use Rattle.display_list.specs.declared.node.ChainDef.{ChainDef}
use Rattle.display_list.specs.declared.token.Token.{Token}
use Rattle.display_list.specs.declared.token.Token.TheVariants as token
use Rattle.display_list.specs.declared.token.Push.{Push}
use Rattle.display_list.specs.declared.token.Part.{Part}
use Rattle.display_list.specs.declared.token.Part.TheVariants as part
use Rattle.field_forms.specs.Form.{Form, done, here, refuse, choose, bind, ◌>>=◌}
use Rattle.field_forms.specs.Numbers.{byte, number}
use Rattle.field_forms.specs.Fields.{refuse_if, times, flag, reference, optional_reference, optional_number, coordinate, rectangle, colour}
use Rattle.display_list.specs.Fields.{corner_radii, border_widths, scroll_side, spot, glyph}
use Rattle.display_list.specs.Levels.{has_scroll, inherited}
use Rattle.display_list.specs.PartialList.{PartialList, takes_nodes, takes_clips, takes_chains}

-- ---- definitions

-- a node's parent, of which the level is below 64
unfoldable pub parent_node : PartialList → Form ℕ
parent_node s = refuse_if (λ n. nat_le 64 (slice_index s.levels n)) code.Limit (reference (length s.levels))

unfoldable pub reference_frame : PartialList → Form Node
reference_frame s = do
  parent ← parent_node s
  x ← coordinate
  y ← coordinate
  prop ← optional_number
  done (node.Reference parent x y prop)

-- a scroll number that no earlier node has
unfoldable pub scroll_number : PartialList → Form ℕ
scroll_number s = refuse_if (λ sid. list_any (has_scroll sid) s.nodes) code.BadRef (number w16)

unfoldable pub scroll_frame : PartialList → Form Node
scroll_frame s = do
  parent ← parent_node s
  sid ← scroll_number s
  view_w ← scroll_side
  view_h ← scroll_side
  content_w ← scroll_side
  content_h ← scroll_side
  done (node.Scroll parent sid view_w view_h content_w content_h)

unfoldable pub rect_clip : PartialList → Form ClipDef
rect_clip s = do
  node ← reference (length s.levels)
  rect ← rectangle
  done (record { node = node; out = false; round = false; rect = rect; radii = square })

unfoldable pub round_clip : PartialList → Form ClipDef
round_clip s = do
  node ← reference (length s.levels)
  out ← flag
  rect ← rectangle
  radii ← corner_radii rect
  done (record { node = node; out = out; round = true; rect = rect; radii = radii })

-- how many clips a chain has of its own: with its parents' at most 255
unfoldable pub clip_count : ℕ → Form ℕ
clip_count more = refuse_if (λ count. nat_lt 255 (more + count)) code.Limit byte

unfoldable pub chain : PartialList → Form ChainDef
chain s = do
  parent ← optional_reference (length s.totals)
  count ← clip_count (inherited s.totals parent)
  clips ← times count (reference (length s.clips))
  done (record { parent = parent; clips = clips })

-- a definition in its section, of which there are at most 4,096
abbrev pub definition_of : {A : Type 0} → Bool → ℕ → ℕ → Form A → Form A
definition_of in_section count at f = choose in_section (choose (nat_le 4096 count) (refuse code.Limit at) f) (refuse code.BadTag at)

unfoldable pub node_part : PartialList → ℕ → ℕ → Form Node
node_part s at tag = definition_of (takes_nodes s.section) (length s.nodes) at (choose (tag == 1) (reference_frame s) (scroll_frame s))

unfoldable pub clip_part : PartialList → ℕ → ℕ → Form ClipDef
clip_part s at tag = definition_of (takes_clips s.section) (length s.clips) at (choose (tag == 3) (rect_clip s) (round_clip s))

unfoldable pub chain_part : PartialList → ℕ → Form ChainDef
chain_part s at = definition_of (takes_chains s.section) (length s.chains) at (chain s)

-- by the tag, 1 to 5
unfoldable pub definition : PartialList → ℕ → ℕ → Form Part
definition s at tag =
    choose (nat_le tag 2) (bind (node_part s at tag) (λ n. done (part.Node n)))
    (choose (nat_le tag 4) (bind (clip_part s at tag) (λ c. done (part.Clip c))) (bind (chain_part s at) (λ c. done (part.Chain c))))

-- ---- items

unfoldable pub solid : ℕ → ℕ → Form Token
solid nodes chains = do
  spot ← spot nodes chains
  colour ← colour
  done (token.Solid spot colour)

unfoldable pub image : ℕ → ℕ → Form Token
image nodes chains = do
  spot ← spot nodes chains
  key ← number w32
  u ← number w16
  v ← number w16
  done (token.Image spot key u v)

unfoldable pub border : ℕ → ℕ → Form Token
border nodes chains = do
  spot ← spot nodes chains
  widths ← border_widths spot.rect
  top ← colour
  right ← colour
  bottom ← colour
  l ← colour
  radii ← corner_radii spot.rect
  done (token.Border spot widths top right bottom l radii)

unfoldable pub text : ℕ → ℕ → Form Token
text nodes chains = do
  spot ← spot nodes chains
  font ← number w16
  colour ← colour
  count ← number w16
  glyphs ← times count glyph
  done (token.Text spot font colour glyphs)

-- the mode of a number up to 8
abbrev pub mode_of : ℕ → Mode
mode_of n =
    if n == 0 then Normal else if n == 1 then Multiply else if n == 2 then Screen else if n == 3 then Overlay else if n == 4 then Darken else
    if n == 5 then Lighten else if n == 6 then HardLight else if n == 7 then Difference else Exclusion

unfoldable pub blend_mode : Form Mode
blend_mode = do
  n ← refuse_if (nat_lt 8) code.BadMode byte
  done (mode_of n)

unfoldable pub push_fields : ℕ → ℕ → Form Push
push_fields nodes chains = do
  node ← reference nodes
  chain ← optional_reference chains
  opacity ← byte
  prop ← optional_number
  mode ← blend_mode
  isolate ← flag
  done (record { node = node; chain = chain; opacity = opacity; prop = prop; mode = mode; isolate = isolate })

-- within 64 contexts there is none
unfoldable pub push : PartialList → ℕ → Form Token
push s at = choose (nat_le 64 s.depth) (refuse code.Limit at) (bind (push_fields (length s.levels) (length s.chains)) (λ p. done (token.Push p)))

unfoldable pub pop : ℕ → ℕ → Form Token
pop depth at = choose (depth == 0) (refuse code.Nesting at) (done token.Pop)

-- a pipeline up to 63, not below the first that may be named
unfoldable pub pipeline : ℕ → Form ℕ
pipeline min_pipeline = refuse_if (λ n. nat_lt n min_pipeline) code.IframeOrder (refuse_if (nat_lt 63) code.BadNumber byte)

unfoldable pub iframe : ℕ → ℕ → ℕ → Form Token
iframe min_pipeline nodes chains = do
  spot ← spot nodes chains
  pipeline ← pipeline min_pipeline
  done (token.Iframe spot pipeline)

unfoldable pub hit_area : ℕ → ℕ → Form Token
hit_area nodes chains = do
  spot ← spot nodes chains
  tag ← number w32
  done (token.HitArea spot tag)

-- by the tag, from 6 on: the items that are drawn
unfoldable pub primitive : ℕ → ℕ → ℕ → Form Token
primitive nodes chains tag =
    choose (tag == 6) (solid nodes chains) (choose (tag == 7) (image nodes chains) (choose (tag == 8) (border nodes chains) (text nodes chains)))

-- by the tag, from 6 on
unfoldable pub item : ℕ → PartialList → ℕ → ℕ → Form Token
item min_pipeline s at tag =
    choose (nat_le tag 9) (primitive (length s.levels) (length s.chains) tag)
    (choose (tag == 10) (push s at)
    (choose (tag == 11) (pop s.depth at)
    (choose (tag == 12) (iframe min_pipeline (length s.levels) (length s.chains))
    (choose (tag == 13) (hit_area (length s.levels) (length s.chains)) (refuse code.BadTag at)))))

-- ---- a part, or none at the End, which leaves no context open

unfoldable pub end : ℕ → ℕ → Form (Option Part)
end depth at = choose (depth == 0) (done None) (refuse code.Nesting at)

unfoldable pub next_part : ℕ → PartialList → Form (Option Part)
next_part min_pipeline s = do
  at ← here
  tag ← byte
  choose (tag == 0) (end s.depth at)
      (choose (nat_le tag 5) (bind (definition s at tag) (λ p. done (Some p))) (bind (item min_pipeline s at tag) (λ t. done (Some (part.Item t)))))
