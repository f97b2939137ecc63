-- What each pipeline has, by its number.
use Rattle.std.specs.Prelude.{◌≡◌, ℕ, ◌<◌, ◌^◌, Option, Some, None}
use Rattle.std.specs.Ordering.{nat_cmp}
use Rattle.std.specs.FinMap as map
use Rattle.spatial_tree.specs.Moves.{MovesModel}
use Rattle.display_list.specs.ListModel.{ListModel}
use Rattle.display_list.specs.Facts.{IsList}
use Rattle.display_list.specs.Grammar.{Fits}
use Rattle.pipelines.specs.Listed.{ListedModel}
use Rattle.pipelines.specs.declared.pipeline.Pipeline.{Pipeline}

-- those that have something
abbrev pub PipelineMap : Type 0
PipelineMap = map.FinMap nat_cmp Pipeline

-- neither a list nor a position nor a property
abbrev pub blank_pipeline : Pipeline
blank_pipeline = record { listed = None; moves = record { scrolls = map.empty; offsets = map.empty; opacities = map.empty } }

-- what is there, or else nothing
abbrev pub or_blank : Option Pipeline → Pipeline
or_blank None = blank_pipeline
or_blank (Some has) = has

-- what a pipeline has
abbrev pub pipeline_at : PipelineMap → ℕ → Pipeline
pipeline_at pipelines p = or_blank (map.get pipelines p)

-- a pipeline's list, where it has one
abbrev pub listed_list : Option ListedModel → Option ListModel
listed_list None = None
listed_list (Some listed) = Some listed.list

abbrev pub pipeline_list : PipelineMap → ℕ → Option ListModel
pipeline_list pipelines p = listed_list (pipeline_at pipelines p).listed

-- it meets the checks of lists, and names greater pipelines than its own
pub record IsListOf (p : ℕ) (l : ListModel) : Type 0 where
  pub list : IsList l
  pub fits : Fits p l

-- each opacity property is a byte
abbrev pub AreByteOpacities : MovesModel → Type 0
AreByteOpacities moves = (id opacity : ℕ) → map.get moves.opacities id ≡ Some opacity → opacity < 2 ^ 8

-- each pipeline's list fits it, and its opacities are bytes
pub record AreFit (pipelines : PipelineMap) : Type 0 where
  pub each : (p : ℕ) (l : ListModel) → pipeline_list pipelines p ≡ Some l → IsListOf p l
  pub opacities : (p : ℕ) → AreByteOpacities (pipeline_at pipelines p).moves
