-- Items as trees: by their fields and their children in order, without where they lie in memory.
use Rattle.std.specs.Prelude.{ℕ, ◌+◌, ◌<◌, max, List, [], ◌∷◌, ◌++◌}
use Rattle.blend_rules.specs.declared.colour.Px.{Px}
use Rattle.wr_geom.specs.declared.sides.Radii.{Radii}
use Rattle.wr_geom.specs.declared.sides.Widths.{Widths}
use Rattle.display_list.specs.declared.token.Token.{Token}
use Rattle.display_list.specs.declared.token.Token.TheVariants as token
use Rattle.display_list.specs.declared.token.Push.{Push}
use Rattle.display_list.specs.declared.item.Spot.{Spot}
use Rattle.display_list.specs.declared.item.GlyphAt.{GlyphAt}
use Rattle.display_list.specs.declared.item.Item.{Item}
use Rattle.display_list.specs.declared.item.Item.TheOpen.{Item-F}
use Rattle.display_list.specs.declared.item.Item.TheFolds.{fold-Item}
use Rattle.display_list.specs.Facts.{IsToken, IsContext}

mutual
  -- one item; a context has items of its own
  pub data Tree : Type 0 where
    solid : Spot → Px → Tree
    image : Spot → ℕ → ℕ → ℕ → Tree
    border : Spot → Widths → Px → Px → Px → Px → Radii → Tree
    text : Spot → ℕ → Px → List GlyphAt → Tree
    context : Push → Trees → Tree
    iframe : Spot → ℕ → Tree
    hit_area : Spot → ℕ → Tree

  -- items in order, back to front
  pub data Trees : Type 0 where
    none : Trees
    more : Tree → Trees → Trees

-- ---- of items

abbrev pub row_of : List Tree → Trees
row_of [] = none
row_of (t ∷ ts) = more t (row_of ts)

abbrev pub tree_step : Item-F Tree → Tree
tree_step (Item-F.Solid spot colour) = solid spot colour
tree_step (Item-F.Image spot key u v) = image spot key u v
tree_step (Item-F.Border spot widths top right bottom l radii) = border spot widths top right bottom l radii
tree_step (Item-F.Text spot font colour glyphs) = text spot font colour glyphs
tree_step (Item-F.Context node chain opacity prop mode isolate children) =
    context (record { node = node; chain = chain; opacity = opacity; prop = prop; mode = mode; isolate = isolate }) (row_of children.items)
tree_step (Item-F.Iframe spot pipeline) = iframe spot pipeline
tree_step (Item-F.HitArea spot tag) = hit_area spot tag

abbrev pub tree_of : Item → Tree
tree_of = fold-Item Tree tree_step

-- items in order
abbrev pub trees_of : List Item → Trees
trees_of [] = none
trees_of (i ∷ is) = more (tree_of i) (trees_of is)

-- ---- of tokens

-- trees after others
abbrev pub joint : Trees → Trees → Trees
joint none us = us
joint (more t ts) us = more t (joint ts us)

-- with one tree more
abbrev pub and_tree : Trees → Tree → Trees
and_tree ts t = joint ts (more t none)

-- The trees that tokens make, after contexts that are open, each with what stands before it, and after what stands in the innermost.
abbrev pub told_after : List Token → List (Push × Trees) → Trees → Trees
told_after [] contexts now = now
told_after (token.Push p ∷ ts) contexts now = told_after ts ((p, now) ∷ contexts) none
told_after (token.Pop ∷ ts) [] now = told_after ts [] now
told_after (token.Pop ∷ ts) (c ∷ contexts) now = told_after ts contexts (and_tree c.1 (context c.0 now))
told_after (token.Solid spot colour ∷ ts) contexts now = told_after ts contexts (and_tree now (solid spot colour))
told_after (token.Image spot key u v ∷ ts) contexts now = told_after ts contexts (and_tree now (image spot key u v))
told_after (token.Border spot widths top right bottom l radii ∷ ts) contexts now = told_after ts contexts (and_tree now (border spot widths top right bottom l radii))
told_after (token.Text spot font colour glyphs ∷ ts) contexts now = told_after ts contexts (and_tree now (text spot font colour glyphs))
told_after (token.Iframe spot pipeline ∷ ts) contexts now = told_after ts contexts (and_tree now (iframe spot pipeline))
told_after (token.HitArea spot tag ∷ ts) contexts now = told_after ts contexts (and_tree now (hit_area spot tag))

-- the trees that tokens tell
unfoldable pub told : List Token → Trees
told ts = told_after ts [] none

abbrev mutual
  -- the tokens of trees
  pub tree_tokens : Tree → List Token
  tree_tokens (solid spot colour) = token.Solid spot colour ∷ []
  tree_tokens (image spot key u v) = token.Image spot key u v ∷ []
  tree_tokens (border spot widths top right bottom l radii) = token.Border spot widths top right bottom l radii ∷ []
  tree_tokens (text spot font colour glyphs) = token.Text spot font colour glyphs ∷ []
  tree_tokens (context p ts) = token.Push p ∷ (trees_tokens ts ++ token.Pop ∷ [])
  tree_tokens (iframe spot pipeline) = token.Iframe spot pipeline ∷ []
  tree_tokens (hit_area spot tag) = token.HitArea spot tag ∷ []

  pub trees_tokens : Trees → List Token
  trees_tokens none = []
  trees_tokens (more t ts) = tree_tokens t ++ trees_tokens ts

-- ---- facts

abbrev mutual
  -- how many contexts stand in one another at most
  pub tree_nesting : Tree → ℕ
  tree_nesting (solid spot colour) = 0
  tree_nesting (image spot key u v) = 0
  tree_nesting (border spot widths top right bottom l radii) = 0
  tree_nesting (text spot font colour glyphs) = 0
  tree_nesting (context p ts) = nesting_of ts + 1
  tree_nesting (iframe spot pipeline) = 0
  tree_nesting (hit_area spot tag) = 0

  pub nesting_of : Trees → ℕ
  nesting_of none = 0
  nesting_of (more t ts) = max (tree_nesting t) (nesting_of ts)

abbrev mutual
  -- the fields of items at every depth, of so many nodes with the root and so many chains
  pub IsTree : ℕ → ℕ → Tree → Type 0
  IsTree nodes chains (solid spot colour) = IsToken nodes chains (token.Solid spot colour)
  IsTree nodes chains (image spot key u v) = IsToken nodes chains (token.Image spot key u v)
  IsTree nodes chains (border spot widths top right bottom l radii) = IsToken nodes chains (token.Border spot widths top right bottom l radii)
  IsTree nodes chains (text spot font colour glyphs) = IsToken nodes chains (token.Text spot font colour glyphs)
  IsTree nodes chains (context p ts) = IsContext nodes chains p × AreTrees nodes chains ts
  IsTree nodes chains (iframe spot pipeline) = IsToken nodes chains (token.Iframe spot pipeline)
  IsTree nodes chains (hit_area spot tag) = IsToken nodes chains (token.HitArea spot tag)

  pub AreTrees : ℕ → ℕ → Trees → Type 0
  AreTrees nodes chains none = Unit {0}
  AreTrees nodes chains (more t ts) = IsTree nodes chains t × AreTrees nodes chains ts

abbrev mutual
  -- each Iframe, at every depth, names a greater pipeline
  pub TreeNamesAbove : ℕ → Tree → Type 0
  TreeNamesAbove own (solid spot colour) = Unit {0}
  TreeNamesAbove own (image spot key u v) = Unit {0}
  TreeNamesAbove own (border spot widths top right bottom l radii) = Unit {0}
  TreeNamesAbove own (text spot font colour glyphs) = Unit {0}
  TreeNamesAbove own (context p ts) = TreesNameAbove own ts
  TreeNamesAbove own (iframe spot pipeline) = own < pipeline
  TreeNamesAbove own (hit_area spot tag) = Unit {0}

  pub TreesNameAbove : ℕ → Trees → Type 0
  TreesNameAbove own none = Unit {0}
  TreesNameAbove own (more t ts) = TreeNamesAbove own t × TreesNameAbove own ts
