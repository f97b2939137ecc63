-- The Iframes of a list that fits its pipeline.
use Rattle.std.proofs.Common.{◌≡◌, ℕ, ◌+◌, ◌<◌, ◌≤◌, Bool, true, false, true≢false, ◌||◌, ◌==◌, List, [], ◌∷◌, ◌++◌, length, Option, Some, None, refl, sym, ap, subst, ◌∙◌, inl, inr}
use Rattle.std.proofs.lemmas.Bool.{eqb-true, or_cases}
use Rattle.std.proofs.lemmas.List.Folds.{list_any-append}
use Rattle.display_list.specs.Levels.{totals_of}
use Rattle.display_list.specs.ListModel.{ListModel}
use Rattle.display_list.specs.Trees.{Tree, solid, image, border, text, context, iframe, hit_area, Trees, none, more, told, IsTree, AreTrees, TreeNamesAbove, TreesNameAbove}
use Rattle.display_list.proofs.TreeFacts.{list_trees, fits_trees}
use Rattle.list_summary.specs.declared.iframe.Iframe.{Iframe}
use Rattle.list_summary.specs.Iframes.{tree_iframes, trees_iframes, summary_of}
use Rattle.pipelines.specs.Table.{PipelineMap, pipeline_list, IsListOf, AreFit}
use Rattle.scene_limits.specs.Drawn.{iframes_of, is_some_list, has_list, have_iframe_of, names}

-- it stands at one of so many nodes, and names a pipeline above its own
pub record IsIframe (own nodes : ℕ) (f : Iframe) : Type 0 where
  pub above : own < f.pipeline
  pub last : f.pipeline ≤ 63
  pub node : f.node < nodes

abbrev pub AreIframes : ℕ → ℕ → List Iframe → Type 0
AreIframes own nodes [] = Unit {0}
AreIframes own nodes (f ∷ fs) = IsIframe own nodes f × AreIframes own nodes fs

iframes_join : (own nodes : ℕ) (fs gs : List Iframe) → AreIframes own nodes fs → AreIframes own nodes gs → AreIframes own nodes (fs ++ gs)
iframes_join own nodes [] gs h k = k
iframes_join own nodes (f ∷ fs) gs h k = (h.0, iframes_join own nodes fs gs h.1 k)

mutual
  tree_iframes_are : (own nodes chains : ℕ) (counts : List ℕ) (d : ℕ) (t : Tree) → IsTree nodes chains t → TreeNamesAbove own t → AreIframes own nodes (tree_iframes counts d t)
  tree_iframes_are own nodes chains counts d (solid o c) h k = tt
  tree_iframes_are own nodes chains counts d (image o i u v) h k = tt
  tree_iframes_are own nodes chains counts d (border o w t r b l c) h k = tt
  tree_iframes_are own nodes chains counts d (text o f c gs) h k = tt
  tree_iframes_are own nodes chains counts d (context p ts) h k = trees_iframes_are own nodes chains counts (d + 1) ts h.1 k
  tree_iframes_are own nodes chains counts d (iframe o q) h k = (record { above = k; last = h.1; node = h.0.node.defined }, tt)
  tree_iframes_are own nodes chains counts d (hit_area o n) h k = tt

  trees_iframes_are : (own nodes chains : ℕ) (counts : List ℕ) (d : ℕ) (ts : Trees) → AreTrees nodes chains ts → TreesNameAbove own ts → AreIframes own nodes (trees_iframes counts d ts)
  trees_iframes_are own nodes chains counts d none h k = tt
  trees_iframes_are own nodes chains counts d (more t ts) h k =
      iframes_join own nodes (tree_iframes counts d t) (trees_iframes counts d ts) (tree_iframes_are own nodes chains counts d t h.0 k.0) (trees_iframes_are own nodes chains counts d ts h.1 k.1)

pub list_iframes : (own : ℕ) (l : ListModel) → IsListOf own l → AreIframes own (length l.nodes + 1) (summary_of l).iframes
list_iframes own l h = trees_iframes_are own (length l.nodes + 1) (length l.chains) (totals_of l.chains) 0 (told l.items) (list_trees l h.list) (fits_trees own l h.list h.fits)

-- ---- what is named

pub any_left : (q : ℕ) (fs gs : List Iframe) → have_iframe_of q fs ≡ true → have_iframe_of q (fs ++ gs) ≡ true
any_left q fs gs k = list_any-append (λ f. f.pipeline == q) fs gs ∙ ap (λ (b : Bool). b || have_iframe_of q gs) k

pub or-true : (b : Bool) → (b || true) ≡ true
or-true true = refl
or-true false = refl

pub any_right : (q : ℕ) (fs gs : List Iframe) → have_iframe_of q gs ≡ true → have_iframe_of q (fs ++ gs) ≡ true
any_right q fs gs k = list_any-append (λ f. f.pipeline == q) fs gs ∙ ap (λ (b : Bool). have_iframe_of q fs || b) k ∙ or-true (have_iframe_of q fs)

iframes_above : (own nodes q : ℕ) (fs : List Iframe) → AreIframes own nodes fs → have_iframe_of q fs ≡ true → (own < q) × (q ≤ 63)
iframes_above own nodes q [] h k = absurd (true≢false (sym k))
iframes_above own nodes q (f ∷ fs) h k =
    elim (or_cases (f.pipeline == q) (have_iframe_of q fs) k) [
      | inl e ↦ subst (λ (i : ℕ). (own < i) × (i ≤ 63)) (eqb-true f.pipeline q e) (h.0.above, h.0.last)
      | inr m ↦ iframes_above own nodes q fs h.1 m
    ]

option_above : (own q : ℕ) (o : Option ListModel) → ((l : ListModel) → o ≡ Some l → IsListOf own l) → have_iframe_of q (iframes_of o) ≡ true → (own < q) × (q ≤ 63)
option_above own q None h k = absurd (true≢false (sym k))
option_above own q (Some l) h k = iframes_above own (length l.nodes + 1) q (summary_of l).iframes (list_iframes own l (h l refl)) k

-- a greater pipeline, up to the last
pub names_above : (ps : PipelineMap) (p q : ℕ) → AreFit ps → names ps p q ≡ true → (p < q) × (q ≤ 63)
names_above ps p q fit k = option_above p q (pipeline_list ps p) (λ l e. fit.each p l e) k

option_named : (q : ℕ) (o : Option ListModel) → have_iframe_of q (iframes_of o) ≡ true → is_some_list o ≡ true
option_named q None k = absurd (true≢false (sym k))
option_named q (Some l) k = refl

-- what names another has a list
pub namer_listed : (ps : PipelineMap) (p q : ℕ) → names ps p q ≡ true → has_list ps p ≡ true
namer_listed ps p q k = option_named q (pipeline_list ps p) k
