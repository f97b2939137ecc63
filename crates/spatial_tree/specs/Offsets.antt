-- Where nodes are, in pixels.
use Rattle.std.specs.Prelude.{ℕ, ◌+◌, ◌-◌, ◌^◌, ℤ, pos, neg_ℤ, ◌≤ℤ◌, List, length, map, fold, Option, Some, None}
use Rattle.std.specs.List.{range_with_len}
use Rattle.std.specs.Int.{int_max, int_min}
use Rattle.std.specs.Ordering.{nat_cmp}
use Rattle.std.specs.FinMap.{FinMap, get}
use Rattle.wr_geom.specs.Points.{point_sum}
use Rattle.wr_geom.specs.declared.point.Point.{Point}
use Rattle.display_list.specs.declared.node.Node.{Node}
use Rattle.display_list.specs.declared.node.Node.TheVariants as node
use Rattle.spatial_tree.specs.Moves.{MovesModel}
use Rattle.spatial_tree.specs.Lineage.{nodes_to}

-- both coordinates are at most so many pixels from 0
pub record IsWithin (n : ℕ) (p : Point) : Type 0 where
  pub left : neg_ℤ (pos n) ≤ℤ p.x
  pub right : p.x ≤ℤ pos n
  pub top : neg_ℤ (pos n) ≤ℤ p.y
  pub bottom : p.y ≤ℤ pos n

-- where a root can be
abbrev pub IsOrigin : Point → Type 0
IsOrigin = IsWithin (2 ^ 28)

-- where a node can be
abbrev pub IsOffset : Point → Type 0
IsOffset = IsWithin (2 ^ 28 + 2 ^ 27)

-- ---- how far a node is from its parent

abbrev pub no_distance : Point
no_distance = record { x = pos 0; y = pos 0 }

abbrev pub distance_of : Option (ℤ × ℤ) → Point
distance_of None = no_distance
distance_of (Some d) = record { x = d.0; y = d.1 }

-- what is stored under a number, or (0, 0)
unfoldable pub stored : FinMap nat_cmp (ℤ × ℤ) → ℕ → Point
stored distances number = distance_of (get distances number)

-- the offset property with this number, if a frame has one and it is set
abbrev pub property_of : MovesModel → Option ℕ → Point
property_of moves None = no_distance
property_of moves (Some id) = stored moves.offsets id

-- a position that doesn't scroll the content beyond the viewport, on one axis
unfoldable pub clamped : ℤ → ℕ → ℕ → ℤ
clamped position view content = int_min (int_max position (pos 0)) (pos (content - view))

-- A reference frame is moved by its own distance and its property together. A scroll frame is moved against its position.
abbrev pub shift_of : MovesModel → Node → Point
shift_of moves (node.Reference parent x y prop) = point_sum (record { x = x; y = y }) (property_of moves prop)
shift_of moves (node.Scroll parent sid view_w view_h content_w content_h) =
    record { x = neg_ℤ (clamped (stored moves.scrolls sid).x view_w content_w); y = neg_ℤ (clamped (stored moves.scrolls sid).y view_h content_h) }

-- ---- how far it is from the root

-- the root's place, moved by each node on the way
unfoldable pub offset_of : List Node → MovesModel → Point → ℕ → Point
offset_of nodes moves origin node = fold (λ at n. point_sum at (shift_of moves n)) origin (nodes_to nodes node)

-- of each node by its number, the root first
unfoldable pub offsets_of : List Node → MovesModel → Point → List Point
offsets_of nodes moves origin = map (offset_of nodes moves origin) (range_with_len 0 (length nodes + 1))
