use Rattle.std.proofs.Common.{◌≡◌, ◌≤◌, length}
use Rattle.std.specs.Option.{option_map, option_or}
use Rattle.spatial_tree.specs.Homes.{root_scroll_of}
use Rattle.painter.specs.Frames.{root_frame_of}
use Rattle.scene_flatten.proofs.placed_list.PlacedList.root_frame.Given as goal

-- the outermost scroll frame of what is left of the way, or else the one that was found, is the node's
abbrev pub invariant-up : goal.invariant-up
invariant-up l =
    (l.at ≤ length l.nodes)
    × (option_or (root_frame_of l.nodes l.at) (option_map (λ f. f.node) l.outermost) ≡ root_frame_of l.nodes l.fn.node)
    × (option_or (root_scroll_of l.nodes l.at) (option_map (λ f. f.scroll) l.outermost) ≡ root_scroll_of l.nodes l.fn.node)

abbrev pub decreases-up : goal.decreases-up
decreases-up l = l.at
