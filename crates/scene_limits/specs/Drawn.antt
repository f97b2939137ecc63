-- Which pipelines are drawn.
use Rattle.std.specs.Prelude.{ℕ, ◌<◌, Bool, true, false, IsTrue, List, [], ◌==◌, Option, Some, None, slice_index_or}
use Rattle.std.specs.List.{list_any}
use Rattle.display_list.specs.ListModel.{ListModel}
use Rattle.list_summary.specs.declared.iframe.Iframe.{Iframe}
use Rattle.list_summary.specs.Iframes.{summary_of}
use Rattle.pipelines.specs.Table.{PipelineMap, pipeline_list}

-- a list's Iframes
abbrev pub iframes_of : Option ListModel → List Iframe
iframes_of None = []
iframes_of (Some l) = (summary_of l).iframes

abbrev pub is_some_list : Option ListModel → Bool
is_some_list None = false
is_some_list (Some l) = true

abbrev pub has_list : PipelineMap → ℕ → Bool
has_list pipelines p = is_some_list (pipeline_list pipelines p)

abbrev pub have_iframe_of : ℕ → List Iframe → Bool
have_iframe_of q iframes = list_any (λ f. f.pipeline == q) iframes

-- an Iframe of the one names the other
abbrev pub names : PipelineMap → ℕ → ℕ → Bool
names pipelines p q = have_iframe_of q (iframes_of (pipeline_list pipelines p))

-- pipeline 0 where it has a list, and what has a list and is named by an Iframe of a pipeline that is drawn
pub data IsDrawn (pipelines : PipelineMap) : ℕ → Type 0 where
  root : IsTrue (has_list pipelines 0) → IsDrawn pipelines 0
  named : (p q : ℕ) → IsDrawn pipelines p → IsTrue (names pipelines p q) → IsTrue (has_list pipelines q) → IsDrawn pipelines q

-- ---- marks by number

abbrev pub is_drawn : List Bool → ℕ → Bool
is_drawn drawn p = slice_index_or drawn p false

-- those beyond the table count as marked
abbrev pub is_marked : List Bool → ℕ → Bool
is_marked marks p = slice_index_or marks p true

-- The root is marked, and each pipeline that an Iframe of a marked one names, with a list or without.
pub record AreReached (marks : List Bool) (pipelines : PipelineMap) : Type 0 where
  pub root : IsTrue (is_marked marks 0)
  pub named : (p q : ℕ) → p < 64 → IsTrue (is_marked marks p) → IsTrue (names pipelines p q) → IsTrue (is_marked marks q)

-- no others that have a list are marked
abbrev pub AreDrawn : List Bool → PipelineMap → Type 0
AreDrawn marks pipelines = (q : ℕ) → q < 64 → IsTrue (is_marked marks q) → IsTrue (has_list pipelines q) → IsDrawn pipelines q
