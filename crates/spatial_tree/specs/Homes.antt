-- Which scroll frames move a node.
use Rattle.std.specs.Prelude.{ℕ, List, [], ◌∷◌, map, Option, Some, None}
use Rattle.std.specs.Option.{option_or}
use Rattle.display_list.specs.declared.node.Node.{Node}
use Rattle.display_list.specs.declared.node.Node.TheVariants as node
use Rattle.display_list.specs.ListModel.{ListModel}
use Rattle.spatial_tree.specs.Lineage.{nodes_to, clips_of}

-- a scroll frame's number
abbrev pub scroll_of : Node → Option ℕ
scroll_of (node.Reference parent x y prop) = None
scroll_of (node.Scroll parent sid view_w view_h content_w content_h) = Some sid

-- the number of the first scroll frame of these
abbrev pub first_scroll : List Node → Option ℕ
first_scroll [] = None
first_scroll (n ∷ ns) = option_or (scroll_of n) (first_scroll ns)

-- the number of the outermost scroll frame on the way from the root to a node
unfoldable pub root_scroll_of : List Node → ℕ → Option ℕ
root_scroll_of nodes node = first_scroll (nodes_to nodes node)

-- of the node of each of a chain's clips
unfoldable pub homes_of : ListModel → Option ℕ → List (Option ℕ)
homes_of l chain = map (λ c. root_scroll_of l.nodes c.node) (clips_of l chain)
