-- The room of a pipeline: the origins that leave each node in reach that is drawn in it. It is a rectangle.
use Rattle.std.specs.Prelude.{◌≡◌, ℕ, ℤ, Bool, true, ◌&&◌, int_le, List, Option, Some, None, slice_index_or}
use Rattle.std.specs.List.{list_all}
use Rattle.wr_geom.specs.Points.{point_sum}
use Rattle.wr_geom.specs.declared.point.Point.{Point}
use Rattle.display_list.specs.ListModel.{ListModel}
use Rattle.list_summary.specs.declared.iframe.Iframe.{Iframe}
use Rattle.list_summary.specs.Iframes.{summary_of}
use Rattle.spatial_tree.specs.Moves.{MovesModel}
use Rattle.spatial_tree.specs.Offsets.{offsets_of}
use Rattle.scene_limits.specs.declared.room.Span.{Span}
use Rattle.scene_limits.specs.declared.room.Room.{Room}
use Rattle.scene_limits.specs.Places.{zero_point, iframe_corner}
use Rattle.scene_limits.specs.Limits.{is_point_in_reach}

abbrev pub span_has : Span → ℤ → Bool
span_has s z = int_le s.from z && int_le z s.to

abbrev pub room_has : Room → Point → Bool
room_has r origin = span_has r.x origin.x && span_has r.y origin.y

-- a pipeline without a list has room everywhere
abbrev pub maybe_has : Option Room → Point → Bool
maybe_has None origin = true
maybe_has (Some r) origin = room_has r origin

-- a pipeline's, in a table
abbrev pub rooms_have : List (Option Room) → ℕ → Point → Bool
rooms_have rooms p origin = maybe_has (slice_index_or rooms p None) origin

-- from an origin, by the offsets of nodes from (0, 0): the nodes are in reach
abbrev pub nodes_reach : List Point → Point → Bool
nodes_reach offsets origin = list_all (λ o. is_point_in_reach (point_sum origin o)) offsets

-- how far an Iframe puts the origin of its pipeline from its own pipeline's
abbrev pub iframe_shift : List Point → Iframe → Point
iframe_shift offsets f = point_sum (slice_index_or offsets f.node zero_point) (iframe_corner f)

-- what an Iframe shows has room
abbrev pub iframe_reaches : (ℕ → Point → Bool) → List Point → Point → Iframe → Bool
iframe_reaches below offsets origin f = below f.pipeline (point_sum origin (iframe_shift offsets f))

-- from an origin: a list's nodes are in reach, and what its Iframes show has room; `below` tells where another pipeline has room
abbrev pub list_reaches : (ℕ → Point → Bool) → MovesModel → Option ListModel → Point → Bool
list_reaches below moves None origin = true
list_reaches below moves (Some l) origin =
    nodes_reach (offsets_of l.nodes moves zero_point) origin && list_all (iframe_reaches below (offsets_of l.nodes moves zero_point) origin) (summary_of l).iframes

-- these are the origins from which the list reaches no farther than it may
abbrev pub IsRoomOf : Option Room → (ℕ → Point → Bool) → MovesModel → Option ListModel → Type 0
IsRoomOf r below moves l = (origin : Point) → maybe_has r origin ≡ list_reaches below moves l origin
