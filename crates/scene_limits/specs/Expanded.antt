-- The expanded scene: pipeline 0, with the items of a pipeline at each Iframe that names it.
use Rattle.std.specs.Prelude.{ℕ, zero, suc, List, [], Option, Some, None, slice_index_or}
use Rattle.display_list.specs.Levels.{totals_of}
use Rattle.display_list.specs.ListModel.{ListModel}
use Rattle.display_list.specs.Trees.{told}
use Rattle.list_summary.specs.declared.totals.Totals.{Totals}
use Rattle.list_summary.specs.Iframes.{summary_of, with_iframes}
use Rattle.list_summary.specs.Shown.{Shown, shown_trees}
use Rattle.list_summary.specs.Totals.{no_totals}
use Rattle.pipelines.specs.Table.{PipelineMap, pipeline_list}

-- ---- the meaning

-- the items that a list stands for; `below` gives those of another pipeline
abbrev pub shown_list : (ℕ → List Shown) → Option ListModel → List Shown
shown_list below None = []
shown_list below (Some l) = shown_trees below (totals_of l.chains) (told l.items)

-- the items of a pipeline, through at most so many levels of pipelines
unfoldable pub expanded : ℕ → PipelineMap → ℕ → List Shown
expanded zero pipelines p = []
expanded (suc n) pipelines p = shown_list (expanded n pipelines) (pipeline_list pipelines p)

-- ---- by totals alone

-- the totals of an expanded list; `below` gives those of another pipeline
abbrev pub list_totals : (ℕ → Totals) → Option ListModel → Totals
list_totals below None = no_totals
list_totals below (Some l) = with_iframes below (summary_of l).iframes (summary_of l).own

-- a pipeline's, in a table
abbrev pub totals_in : List Totals → ℕ → Totals
totals_in table p = slice_index_or table p no_totals
