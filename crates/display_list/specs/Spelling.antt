-- The one spelling of a list.
use Rattle.std.specs.Prelude.{ℕ, List, [], ◌∷◌, ◌++◌, length, Option, Some, None, if◌then◌else◌}
use Rattle.std.specs.List.{concat, flat_map}
use Rattle.blend_rules.specs.Colour.{mode_number, colour_bytes}
use Rattle.field_forms.specs.Spelling.{u16_bytes, u32_bytes, i32_bytes, optional_bytes, flag_bytes, rectangle_bytes}
use Rattle.wr_geom.specs.declared.sides.Radii.{Radii}
use Rattle.wr_geom.specs.declared.sides.Widths.{Widths}
use Rattle.display_list.specs.declared.item.Spot.{Spot}
use Rattle.display_list.specs.declared.item.GlyphAt.{GlyphAt}
use Rattle.display_list.specs.declared.node.Node.{Node}
use Rattle.display_list.specs.declared.node.Node.TheVariants as node
use Rattle.display_list.specs.declared.node.ClipDef.{ClipDef}
use Rattle.display_list.specs.declared.node.ChainDef.{ChainDef}
use Rattle.display_list.specs.declared.token.Token.{Token}
use Rattle.display_list.specs.declared.token.Token.TheVariants.{Solid, Image, Border, Text, Push, Pop, Iframe, HitArea}
use Rattle.display_list.specs.declared.token.Push as push
use Rattle.display_list.specs.declared.token.Part.{Part}
use Rattle.display_list.specs.declared.token.Part.TheVariants as part
use Rattle.display_list.specs.ListModel.{ListModel}

unfoldable pub corner_bytes : ℕ × ℕ → List ℕ
corner_bytes r = concat (u16_bytes r.0 ∷ u16_bytes r.1 ∷ [])

unfoldable pub radii_bytes : Radii → List ℕ
radii_bytes r = concat (corner_bytes r.tl ∷ corner_bytes r.tr ∷ corner_bytes r.br ∷ corner_bytes r.bl ∷ [])

unfoldable pub widths_bytes : Widths → List ℕ
widths_bytes w = concat (u16_bytes w.top ∷ u16_bytes w.right ∷ u16_bytes w.bottom ∷ u16_bytes w.left ∷ [])

unfoldable pub spot_bytes : Spot → List ℕ
spot_bytes s = concat (u16_bytes s.node ∷ optional_bytes s.chain ∷ rectangle_bytes s.rect ∷ [])

unfoldable pub glyph_bytes : GlyphAt → List ℕ
glyph_bytes g = concat (u16_bytes g.glyph ∷ i32_bytes g.x ∷ i32_bytes g.y ∷ [])

-- ---- each part's tag, and its fields after the tag

abbrev pub node_tag : Node → ℕ
node_tag (node.Reference parent x y prop) = 1
node_tag (node.Scroll parent sid view_w view_h content_w content_h) = 2

abbrev pub node_fields : Node → List ℕ
node_fields (node.Reference parent x y prop) = concat (u16_bytes parent ∷ i32_bytes x ∷ i32_bytes y ∷ optional_bytes prop ∷ [])
node_fields (node.Scroll parent sid view_w view_h content_w content_h) =
    concat (u16_bytes parent ∷ u16_bytes sid ∷ u32_bytes view_w ∷ u32_bytes view_h ∷ u32_bytes content_w ∷ u32_bytes content_h ∷ [])

abbrev pub node_bytes : Node → List ℕ
node_bytes n = node_tag n ∷ node_fields n

abbrev pub rect_clip_fields : ClipDef → List ℕ
rect_clip_fields c = concat (u16_bytes c.node ∷ rectangle_bytes c.rect ∷ [])

abbrev pub round_clip_fields : ClipDef → List ℕ
round_clip_fields c = concat (u16_bytes c.node ∷ flag_bytes c.out ∷ rectangle_bytes c.rect ∷ radii_bytes c.radii ∷ [])

abbrev pub clip_bytes : ClipDef → List ℕ
clip_bytes c = if c.round then 4 ∷ round_clip_fields c else 3 ∷ rect_clip_fields c

abbrev pub chain_fields : ChainDef → List ℕ
chain_fields c = concat (optional_bytes c.parent ∷ (length c.clips ∷ []) ∷ flat_map u16_bytes c.clips ∷ [])

abbrev pub chain_bytes : ChainDef → List ℕ
chain_bytes c = 5 ∷ chain_fields c

abbrev pub push_fields_bytes : push.Push → List ℕ
push_fields_bytes p =
    concat (u16_bytes p.node ∷ optional_bytes p.chain ∷ (p.opacity ∷ []) ∷ optional_bytes p.prop ∷ (mode_number p.mode ∷ []) ∷ flag_bytes p.isolate ∷ [])

abbrev pub push_bytes : push.Push → List ℕ
push_bytes p = 10 ∷ push_fields_bytes p

abbrev pub token_tag : Token → ℕ
token_tag (Solid spot colour) = 6
token_tag (Image spot key u v) = 7
token_tag (Border spot widths top right bottom l radii) = 8
token_tag (Text spot font colour glyphs) = 9
token_tag (Push p) = 10
token_tag Pop = 11
token_tag (Iframe spot pipeline) = 12
token_tag (HitArea spot tag) = 13

abbrev pub token_fields : Token → List ℕ
token_fields (Solid spot colour) = concat (spot_bytes spot ∷ colour_bytes colour ∷ [])
token_fields (Image spot key u v) = concat (spot_bytes spot ∷ u32_bytes key ∷ u16_bytes u ∷ u16_bytes v ∷ [])
token_fields (Border spot widths top right bottom l radii) =
    concat (spot_bytes spot ∷ widths_bytes widths ∷ colour_bytes top ∷ colour_bytes right ∷ colour_bytes bottom ∷ colour_bytes l ∷ radii_bytes radii ∷ [])
token_fields (Text spot font colour glyphs) =
    concat (spot_bytes spot ∷ u16_bytes font ∷ colour_bytes colour ∷ u16_bytes (length glyphs) ∷ flat_map glyph_bytes glyphs ∷ [])
token_fields (Push p) = push_fields_bytes p
token_fields Pop = []
token_fields (Iframe spot pipeline) = concat (spot_bytes spot ∷ (pipeline ∷ []) ∷ [])
token_fields (HitArea spot tag) = concat (spot_bytes spot ∷ u32_bytes tag ∷ [])

abbrev pub token_bytes : Token → List ℕ
token_bytes t = token_tag t ∷ token_fields t

abbrev pub part_bytes : Part → List ℕ
part_bytes (part.Node n) = node_bytes n
part_bytes (part.Clip c) = clip_bytes c
part_bytes (part.Chain c) = chain_bytes c
part_bytes (part.Item t) = token_bytes t

-- a part's bytes, or the End's
abbrev pub next_bytes : Option Part → List ℕ
next_bytes None = 0 ∷ []
next_bytes (Some p) = part_bytes p

-- nodes, clips, chains and items, and then the End
abbrev pub spelling : ListModel → List ℕ
spelling l = flat_map node_bytes l.nodes ++ (flat_map clip_bytes l.clips ++ (flat_map chain_bytes l.chains ++ (flat_map token_bytes l.items ++ 0 ∷ [])))
