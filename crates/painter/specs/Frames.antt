-- The scroll frame that moves a node with all around it: the outermost one on the way from the root.
use Rattle.std.specs.Prelude.{ℕ, zero, suc, List, length, Option, Some, None, slice_get}
use Rattle.std.specs.Option.{option_map, option_or}
use Rattle.display_list.specs.declared.node.Node.{Node}
use Rattle.display_list.specs.Levels.{parent_of}
use Rattle.spatial_tree.specs.Homes.{scroll_of}

-- a node's number, where it is a scroll frame
abbrev pub own_frame : ℕ → Node → Option ℕ
own_frame number n = option_map (λ sid. number) (scroll_of n)

-- the frame of a node's parent, and where that has none perhaps the node itself
abbrev pub outer_frame : (ℕ → Option ℕ) → ℕ → Option Node → Option ℕ
outer_frame frame_of number None = None
outer_frame frame_of number (Some n) = option_or (frame_of (parent_of n)) (own_frame number n)

-- as far up as so many steps reach
abbrev pub frame_within : List Node → ℕ → ℕ → Option ℕ
frame_within nodes steps zero = None
frame_within nodes zero (suc k) = None
frame_within nodes (suc steps) (suc k) = outer_frame (frame_within nodes steps) (suc k) (slice_get nodes k)

-- which node is the outermost scroll frame on the way from the root to a node, by its number; the root, which is 0, is none
unfoldable pub root_frame_of : List Node → ℕ → Option ℕ
root_frame_of nodes node = frame_within nodes (length nodes) node

-- the scroll number of a node that may be there
abbrev pub maybe_scroll : Option Node → Option ℕ
maybe_scroll None = None
maybe_scroll (Some n) = scroll_of n

-- the scroll number of the node with this number, where it is a scroll frame
abbrev pub scroll_at : List Node → Option ℕ → Option ℕ
scroll_at nodes None = None
scroll_at nodes (Some zero) = None
scroll_at nodes (Some (suc k)) = maybe_scroll (slice_get nodes k)
