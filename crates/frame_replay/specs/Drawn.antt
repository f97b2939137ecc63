-- The pipelines that are drawn, by number, each with the epoch of its list.
use Rattle.std.specs.Prelude.{◌≡◌, ℕ, zero, suc, List, [], ◌∷◌, ◌++◌, length, Bool, ◌&&◌, ◌||◌, ◌==◌, Option, Some, None, if◌then◌else◌}
use Rattle.std.specs.List.{flat_map, list_any, range_with_len}
use Rattle.std.specs.Option.{option_map}
use Rattle.field_forms.specs.Spelling.{u32_bytes}
use Rattle.pipelines.specs.Table.{PipelineMap, pipeline_at}
use Rattle.scene_limits.specs.Drawn.{has_list, is_drawn, names}
use Rattle.scene_state.specs.SceneModel.{SceneModel}

-- A pipeline is drawn through at most so many Iframes: it has a list, and is the root, or an Iframe of a smaller
-- one names it that is drawn through fewer.
unfoldable pub is_drawn_through : ℕ → PipelineMap → ℕ → Bool
is_drawn_through zero ps p = has_list ps p && (p == 0)
is_drawn_through (suc n) ps p = has_list ps p && ((p == 0) || list_any (λ q. is_drawn_through n ps q && names ps q p) (range_with_len 0 p))

-- whether a pipeline is drawn, of 64 that each name only greater ones
unfoldable pub is_pipeline_drawn : PipelineMap → ℕ → Bool
is_pipeline_drawn ps p = is_drawn_through 64 ps p

-- a table of marks says of each pipeline whether it is drawn
pub record MarkDrawn (drawn : List Bool) (ps : PipelineMap) : Type 0 where
  pub each : (p : ℕ) → is_drawn drawn p ≡ is_pipeline_drawn ps p

-- the epoch of a pipeline's list, where the pipeline is drawn
abbrev pub drawn_epoch : PipelineMap → ℕ → Option ℕ
drawn_epoch ps p = if is_pipeline_drawn ps p then option_map (λ listed. listed.epoch) (pipeline_at ps p).listed else None

-- a number with an epoch, where there is one
abbrev pub numbered : ℕ → Option ℕ → List (ℕ × ℕ)
numbered p None = []
numbered p (Some epoch) = (p, epoch) ∷ []

-- the pipelines below a number that are drawn, ascending
unfoldable pub drawn_below : ℕ → PipelineMap → List (ℕ × ℕ)
drawn_below zero ps = []
drawn_below (suc p) ps = drawn_below p ps ++ numbered p (drawn_epoch ps p)

-- all that are drawn, each with the epoch of its list
unfoldable pub drawn_pipelines : SceneModel → List (ℕ × ℕ)
drawn_pipelines s = drawn_below 64 s.pipelines

-- a number and an epoch
abbrev pub entry_bytes : ℕ × ℕ → List ℕ
entry_bytes entry = entry.0 ∷ u32_bytes entry.1

-- how many there are, and each
abbrev pub drawn_bytes : List (ℕ × ℕ) → List ℕ
drawn_bytes entries = length entries ∷ flat_map entry_bytes entries
