-- What an operation does to its pipeline.
use Rattle.std.specs.Prelude.{ℕ, ◌<◌, ◌^◌, ℤ, Some}
use Rattle.std.specs.FinMap as map
use Rattle.spatial_tree.specs.Moves.{MovesModel}
use Rattle.field_forms.specs.Facts.{IsNear}
use Rattle.pipelines.specs.declared.change.Change.{Change}
use Rattle.pipelines.specs.declared.change.Change.TheVariants as changes
use Rattle.pipelines.specs.Listed.{ListedModel}
use Rattle.pipelines.specs.Table.{PipelineMap, pipeline_at}
use Rattle.pipelines.specs.declared.pipeline.Pipeline.{Pipeline}

abbrev pub with_list : ListedModel → Pipeline → Pipeline
with_list listed has = record has { listed = Some listed }

abbrev pub with_moves : (MovesModel → MovesModel) → Pipeline → Pipeline
with_moves change has = record has { moves = change has.moves }

abbrev pub with_scroll : ℕ → ℤ × ℤ → MovesModel → MovesModel
with_scroll sid position moves = record moves { scrolls = map.insert moves.scrolls sid position }

abbrev pub with_offset : ℕ → ℤ × ℤ → MovesModel → MovesModel
with_offset id offset moves = record moves { offsets = map.insert moves.offsets id offset }

abbrev pub with_opacity : ℕ → ℕ → MovesModel → MovesModel
with_opacity id opacity moves = record moves { opacities = map.insert moves.opacities id opacity }

-- one pipeline changed
abbrev pub with_pipeline : ℕ → (Pipeline → Pipeline) → PipelineMap → PipelineMap
with_pipeline p change pipelines = map.insert pipelines p (change (pipeline_at pipelines p))

-- what a change of positions or properties does
abbrev pub changed : Change → MovesModel → MovesModel
changed (changes.Scroll sid x y) moves = with_scroll sid (x, y) moves
changed (changes.Offset id x y) moves = with_offset id (x, y) moves
changed (changes.Opacity id opacity) moves = with_opacity id opacity moves

-- its coordinates are at most two to the 20th from 0
abbrev pub IsNearChange : Change → Type 0
IsNearChange (changes.Scroll sid x y) = IsNear x × IsNear y
IsNearChange (changes.Offset id x y) = IsNear x × IsNear y
IsNearChange (changes.Opacity id opacity) = Unit {0}

-- an opacity that it sets is a byte
abbrev pub HasByteOpacity : Change → Type 0
HasByteOpacity (changes.Scroll sid x y) = Unit {0}
HasByteOpacity (changes.Offset id x y) = Unit {0}
HasByteOpacity (changes.Opacity id opacity) = opacity < 2 ^ 8
