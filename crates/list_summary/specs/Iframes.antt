-- What a list has by itself, and the places where it shows another pipeline.
use Rattle.std.specs.Prelude.{ℕ, ◌+◌, List, [], ◌∷◌, ◌++◌}
use Rattle.display_list.specs.ListModel.{ListModel}
use Rattle.display_list.specs.Levels.{totals_of}
use Rattle.display_list.specs.Trees.{Tree, solid, image, border, text, context, iframe, hit_area, Trees, none, more, told}
use Rattle.list_summary.specs.declared.totals.Totals.{Totals}
use Rattle.list_summary.specs.declared.iframe.Iframe.{Iframe}
use Rattle.list_summary.specs.Shown.{chain_clip_count, shown_trees, nobody}
use Rattle.list_summary.specs.Totals.{totals_of_shown, both, lowered}

abbrev mutual
  -- the Iframes of a tree within so many contexts
  pub tree_iframes : List ℕ → ℕ → Tree → List Iframe
  tree_iframes counts depth (solid spot colour) = []
  tree_iframes counts depth (image spot key u v) = []
  tree_iframes counts depth (border spot widths top right bottom l radii) = []
  tree_iframes counts depth (text spot font colour glyphs) = []
  tree_iframes counts depth (context p ts) = trees_iframes counts (depth + 1) ts
  tree_iframes counts depth (iframe spot pipeline) =
      record { pipeline = pipeline; contexts = depth; clips = chain_clip_count counts spot.chain; node = spot.node; x = spot.rect.x0; y = spot.rect.y0 } ∷ []
  tree_iframes counts depth (hit_area spot tag) = []

  pub trees_iframes : List ℕ → ℕ → Trees → List Iframe
  trees_iframes counts depth none = []
  trees_iframes counts depth (more t ts) = tree_iframes counts depth t ++ trees_iframes counts depth ts

pub record SummaryModel : Type 0 where
  pub own : Totals
  pub iframes : List Iframe

-- a list's own items, each Iframe among them as one, and its Iframes
abbrev pub summary_of : ListModel → SummaryModel
summary_of l = record {
  own = totals_of_shown (shown_trees nobody (totals_of l.chains) (told l.items));
  iframes = trees_iframes (totals_of l.chains) 0 (told l.items);
}

-- what the items of the pipeline of an Iframe add
abbrev pub iframe_totals : Iframe → Totals → Totals
iframe_totals f inside = lowered f.contexts (f.clips + 1) inside

-- a sum with what each Iframe adds, where `below` gives the totals of a pipeline
abbrev pub with_iframes : (ℕ → Totals) → List Iframe → Totals → Totals
with_iframes below [] sum = sum
with_iframes below (f ∷ fs) sum = with_iframes below fs (both sum (iframe_totals f (below f.pipeline)))
