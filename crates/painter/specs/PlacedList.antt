-- A pipeline's list where it is drawn: where its nodes and items are, and under which clips.
use Rattle.std.specs.Prelude.{ℕ, ◌==◌, Bool, true, false, ◌&&◌, not, List, [], ◌∷◌, ◌++◌, Option, Some, None, refl}
use Rattle.std.specs.FinMap as map
use Rattle.std.specs.Option.{option_map}
use Rattle.std.specs.Coded.{Coded, code_by, coded×, coded_ℕ}
use Rattle.wr_geom.specs.Bounds.{Bounds, shifted}
use Rattle.wr_geom.specs.declared.point.Point.{Point}
use Rattle.wr_geom.specs.contracts.point.Point as points
use Rattle.blend_rules.specs.declared.mode.Mode.{Mode}
use Rattle.blend_rules.specs.declared.mode.Mode.TheVariants.{Normal}
use Rattle.clip_masks.specs.declared.clip.Clip.{Clip}
use Rattle.clip_masks.specs.Clips.{rect_clip}
use Rattle.display_list.specs.declared.item.Spot.{Spot}
use Rattle.display_list.specs.declared.token.Push.{Push}
use Rattle.display_list.specs.ListModel.{ListModel}
use Rattle.display_list.specs.contracts.list.List as lists
use Rattle.spatial_tree.specs.Moves.{MovesModel, moves_code}
use Rattle.spatial_tree.specs.Offsets.{offset_of}
use Rattle.clip_tree.specs.Placed.{placed_clips}
use Rattle.pipelines.specs.Table.{PipelineMap, pipeline_at, pipeline_list}

-- a pipeline's list, what moves its nodes, and where its root is
pub record PlacedList : Type 0 where
  pub pipeline : ℕ
  pub list : ListModel
  pub moves : MovesModel
  pub origin : Point

abbrev pub placed_code : Coded PlacedList
placed_code =
    code_by (ℕ × (ListModel × (MovesModel × Point)))
    (coded× coded_ℕ (coded× lists.the_row.coded (coded× moves_code points.the_row.coded)))
    (λ l. (l.pipeline, (l.list, (l.moves, l.origin))))
    (λ p. record { pipeline = p.0; list = p.1.0; moves = p.1.1.0; origin = p.1.1.1 }) (λ _. refl)

-- the list of a pipeline whose root is at a point, where it has one
abbrev pub placed_at : PipelineMap → ℕ → Point → Option PlacedList
placed_at pipelines p origin =
    option_map (λ list. record { pipeline = p; list = list; moves = (pipeline_at pipelines p).moves; origin = origin }) (pipeline_list pipelines p)

-- where a node is
abbrev pub node_point : PlacedList → ℕ → Point
node_point l node = offset_of l.list.nodes l.moves l.origin node

-- where an item is
abbrev pub item_rect : PlacedList → Spot → Bounds
item_rect l spot = shifted spot.rect (node_point l spot.node)

-- the clips of a chain, where they are
abbrev pub chain_clips : PlacedList → Option ℕ → List Clip
chain_clips l chain = placed_clips l.list (node_point l) chain

-- the first corner of a rectangle
abbrev pub first_corner : Bounds → Point
first_corner b = record { x = b.x0; y = b.y0 }

-- what clips the items of an Iframe: its chain, and then its rectangle
abbrev pub iframe_clips : PlacedList → Spot → List Clip
iframe_clips l spot = chain_clips l spot.chain ++ rect_clip (item_rect l spot) ∷ []

-- ---- contexts

abbrev pub or_own : Option ℕ → ℕ → ℕ
or_own None own = own
or_own (Some set) own = set

-- the opacity property with this number where it is set, else the opacity that a context has of its own
abbrev pub bound_opacity : MovesModel → Option ℕ → ℕ → ℕ
bound_opacity moves None own = own
bound_opacity moves (Some id) own = or_own (map.get moves.opacities id) own

-- a context's opacity
abbrev pub opacity_of : PlacedList → Push → ℕ
opacity_of l push = bound_opacity l.moves push.prop push.opacity

abbrev pub is_normal : Mode → Bool
is_normal Normal = true
is_normal _ = false

abbrev pub is_none : Option ℕ → Bool
is_none None = true
is_none (Some n) = false

-- whether a context of this opacity, mode, isolation and chain only stands around its items, and is no group that is drawn by itself
unfoldable pub stands_around : ℕ → Mode → Bool → Option ℕ → Bool
stands_around opacity mode isolate chain = opacity == 255 && is_normal mode && not isolate && is_none chain

abbrev pub is_plain : PlacedList → Push → Bool
is_plain l push = stands_around (opacity_of l push) push.mode push.isolate push.chain
