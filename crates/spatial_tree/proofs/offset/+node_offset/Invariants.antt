use Rattle.spatial_tree.proofs.offset.«+node_offset».Given as goal

abbrev pub decreases-node_offset : goal.decreases-node_offset
decreases-node_offset l = l.node
