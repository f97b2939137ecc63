-- What holds of every display list, in its own terms.
use Rattle.std.specs.Prelude.{◌≡◌, ℕ, ◌+◌, ◌<◌, ◌≤◌, ◌^◌, false, List, length, All, slice_index_or}
use Rattle.std.specs.List.{AllPairs}
use Rattle.wr_geom.specs.Bounds.{Bounds}
use Rattle.wr_geom.specs.Sides.{AreSmallRadii, AreSmallWidths, RadiiFit, WidthsFit, square}
use Rattle.wr_geom.specs.declared.sides.Radii.{Radii}
use Rattle.wr_geom.specs.declared.sides.Widths.{Widths}
use Rattle.display_list.specs.declared.item.Spot.{Spot}
use Rattle.display_list.specs.declared.item.GlyphAt.{GlyphAt}
use Rattle.display_list.specs.declared.node.Node.{Node}
use Rattle.display_list.specs.declared.node.Node.TheVariants as node
use Rattle.display_list.specs.declared.node.ClipDef.{ClipDef}
use Rattle.display_list.specs.declared.node.ChainDef.{ChainDef}
use Rattle.display_list.specs.declared.token.Token.{Token}
use Rattle.display_list.specs.declared.token.Token.TheVariants.{Solid, Image, Border, Text, Push, Pop, Iframe, HitArea}
use Rattle.display_list.specs.declared.token.Push as push
use Rattle.blend_rules.specs.Colour.{IsPixel}
use Rattle.field_forms.specs.Facts.{IsNear, IsRectangle, IsDefined, IsReference, IsOptionalReference, FitsOptional}
use Rattle.display_list.specs.ListModel.{ListModel}
use Rattle.display_list.specs.Levels.{parent_of, share_scroll, levels_of, totals_of, Nests}

-- a fact of each member and its index
abbrev pub EachAt : {A : Type 0} → (ℕ → A → Type 0) → List A → Type 0
EachAt P xs = (k : ℕ) (d : _) → k < length xs → P k (slice_index_or xs k d)

-- ---- nodes

-- near, or sides of at most two to the 20th; a property's id isn't 65535
abbrev pub IsNode : Node → Type 0
IsNode (node.Reference parent x y prop) = IsNear x × IsNear y × FitsOptional prop
IsNode (node.Scroll parent sid view_w view_h content_w content_h) =
    (sid < 2 ^ 16) × (view_w ≤ 1048576) × (view_h ≤ 1048576) × (content_w ≤ 1048576) × (content_h ≤ 1048576)

-- at most 4,096, at levels up to 64; each stands below one before it; no two are scrolled by one number
pub record AreNodes (nodes : List Node) : Type 0 where
  pub count : length nodes ≤ 4096
  pub parents : EachAt (λ k n. parent_of n ≤ k) nodes
  pub levels : All (λ level. level ≤ 64) (levels_of nodes)
  pub scrolls : AllPairs (λ m n. share_scroll m n ≡ false) nodes
  pub each : All IsNode nodes

-- ---- clips and chains

-- the radii of a rectangle's corners
pub record AreRadii (b : Bounds) (r : Radii) : Type 0 where
  pub small : AreSmallRadii r
  pub fit : RadiiFit b r

-- a rectangle clip keeps what lies inside and has no round corner
abbrev pub IsPlain : ClipDef → Type 0
IsPlain c = c.round ≡ false → (c.out ≡ false) × (c.radii ≡ square)

-- a clip of one of so many nodes, the root among them
pub record IsClip (nodes : ℕ) (c : ClipDef) : Type 0 where
  pub node : IsReference nodes c.node
  pub rect : IsRectangle c.rect
  pub radii : AreRadii c.rect c.radii
  pub plain : IsPlain c

pub record AreClips (nodes : ℕ) (clips : List ClipDef) : Type 0 where
  pub count : length clips ≤ 4096
  pub each : All (IsClip nodes) clips

-- at most 4,096 of at most 255 clips with their parents', of so many clips; each has a parent before it, or none
pub record AreChains (clips : ℕ) (chains : List ChainDef) : Type 0 where
  pub count : length chains ≤ 4096
  pub parents : EachAt (λ k c. IsDefined k c.parent) chains
  pub totals : All (λ total. total ≤ 255) (totals_of chains)
  pub each : All (λ c. All (λ k. k < clips) c.clips) chains

-- ---- items

-- an item's node, chain and rectangle, of so many nodes with the root and so many chains
pub record IsSpot (nodes chains : ℕ) (o : Spot) : Type 0 where
  pub node : IsReference nodes o.node
  pub chain : IsOptionalReference chains o.chain
  pub rect : IsRectangle o.rect

-- the widths and radii of a rectangle's border
pub record IsBorder (b : Bounds) (w : Widths) (r : Radii) : Type 0 where
  pub small : AreSmallWidths w
  pub fit : WidthsFit b w
  pub radii : AreRadii b r

pub record IsGlyph (g : GlyphAt) : Type 0 where
  pub glyph : g.glyph < 2 ^ 16
  pub x : IsNear g.x
  pub y : IsNear g.y

-- how a context is drawn
pub record IsContext (nodes chains : ℕ) (p : push.Push) : Type 0 where
  pub node : IsReference nodes p.node
  pub chain : IsOptionalReference chains p.chain
  pub opacity : p.opacity < 256
  pub prop : FitsOptional p.prop

-- an item's fields, of so many nodes with the root and so many chains
abbrev pub IsToken : ℕ → ℕ → Token → Type 0
IsToken nodes chains (Solid spot colour) = IsSpot nodes chains spot × IsPixel colour
IsToken nodes chains (Image spot key u v) = IsSpot nodes chains spot × (key < 2 ^ 32) × (u < 2 ^ 16) × (v < 2 ^ 16)
IsToken nodes chains (Border spot widths top right bottom l radii) =
    IsSpot nodes chains spot × IsBorder spot.rect widths radii × IsPixel top × IsPixel right × IsPixel bottom × IsPixel l
IsToken nodes chains (Text spot font colour glyphs) = IsSpot nodes chains spot × (font < 2 ^ 16) × IsPixel colour × (length glyphs < 2 ^ 16) × All IsGlyph glyphs
IsToken nodes chains (Push p) = IsContext nodes chains p
IsToken nodes chains Pop = Unit {0}
IsToken nodes chains (Iframe spot pipeline) = IsSpot nodes chains spot × (pipeline ≤ 63)
IsToken nodes chains (HitArea spot tag) = IsSpot nodes chains spot × (tag < 2 ^ 32)

-- contexts are closed in turn, and at most 64 are open at once
pub record AreItems (nodes chains : ℕ) (items : List Token) : Type 0 where
  pub each : All (IsToken nodes chains) items
  pub nested : Nests 0 items 0

-- ---- the whole

pub record IsList (l : ListModel) : Type 0 where
  pub nodes : AreNodes l.nodes
  pub clips : AreClips (length l.nodes + 1) l.clips
  pub chains : AreChains (length l.clips) l.chains
  pub items : AreItems (length l.nodes + 1) (length l.chains) l.items
