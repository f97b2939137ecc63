-- Levels of nodes, clips of chains with their parents', and depths of items.
use Rattle.std.specs.Prelude.{◌≡◌, ℕ, ◌+◌, ◌-◌, ◌<◌, Bool, false, List, [], ◌∷◌, ◌++◌, length, Option, Some, None, slice_index, ◌==◌}
use Rattle.std.specs.List.{fold}
use Rattle.display_list.specs.declared.node.Node.{Node}
use Rattle.display_list.specs.declared.node.Node.TheVariants as node
use Rattle.display_list.specs.declared.node.ChainDef.{ChainDef}
use Rattle.display_list.specs.declared.token.Token.{Token}
use Rattle.display_list.specs.declared.token.Token.TheVariants.{Push, Pop}

-- the number of a node's parent
abbrev pub parent_of : Node → ℕ
parent_of (node.Reference parent x y prop) = parent
parent_of (node.Scroll parent sid view_w view_h content_w content_h) = parent

-- whether a node is scrolled by this number
abbrev pub has_scroll : ℕ → Node → Bool
has_scroll sid (node.Reference parent x y prop) = false
has_scroll sid (node.Scroll parent own view_w view_h content_w content_h) = own == sid

-- whether two nodes are scrolled by one number
abbrev pub share_scroll : Node → Node → Bool
share_scroll m (node.Reference parent x y prop) = false
share_scroll m (node.Scroll parent sid view_w view_h content_w content_h) = has_scroll sid m

-- the levels with that of one node more, which is one below its parent
abbrev pub with_level : List ℕ → Node → List ℕ
with_level levels n = levels ++ (slice_index levels (parent_of n) + 1) ∷ []

-- the level of each node, the root's 0 first
unfoldable pub levels_of : List Node → List ℕ
levels_of nodes = fold with_level (0 ∷ []) nodes

-- how many clips a parent chain has, with its parents'
abbrev pub inherited : List ℕ → Option ℕ → ℕ
inherited totals None = 0
inherited totals (Some chain) = slice_index totals chain

-- the totals with that of one chain more
abbrev pub with_total : List ℕ → ChainDef → List ℕ
with_total totals c = totals ++ (inherited totals c.parent + length c.clips) ∷ []

-- how many clips each chain has, with its parents'
unfoldable pub totals_of : List ChainDef → List ℕ
totals_of chains = fold with_total [] chains

-- how many contexts are open after an item's token
abbrev pub depth_after : ℕ → Token → ℕ
depth_after depth (Push p) = depth + 1
depth_after depth Pop = depth - 1
depth_after depth _ = depth

-- within 64 contexts none is pushed, and none is popped where none is open
abbrev pub MayNest : ℕ → Token → Type 0
MayNest depth (Push p) = depth < 64
MayNest depth Pop = 0 < depth
MayNest depth _ = Unit {0}

-- The tokens open and close contexts in turn, at most 64 at once, and lead from one depth to another.
abbrev pub Nests : ℕ → List Token → ℕ → Type 0
Nests depth [] last = depth ≡ last
Nests depth (t ∷ ts) last = MayNest depth t × Nests (depth_after depth t) ts last
