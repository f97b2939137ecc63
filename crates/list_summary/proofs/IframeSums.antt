-- An expanded list has its own items, and what each Iframe adds.
use Rattle.std.proofs.Common.{◌≡◌, ℕ, ◌+◌, List, [], ◌∷◌, ◌++◌, map, refl, sym, ap, ◌∙◌}
use Rattle.std.proofs.lemmas.List.{map-append}
use Rattle.std.proofs.lemmas.Simd.{map-map}
use Rattle.display_list.specs.Levels.{totals_of}
use Rattle.display_list.specs.declared.item.Spot.{Spot}
use Rattle.display_list.specs.Trees.{Tree, solid, image, border, text, context, iframe, hit_area, Trees, none, more, told}
use Rattle.list_summary.specs.declared.totals.Totals.{Totals}
use Rattle.list_summary.specs.declared.iframe.Iframe.{Iframe}
use Rattle.list_summary.specs.Shown.{Shown, alone, within, under, chain_clip_count, shown_tree, shown_trees, nobody}
use Rattle.list_summary.specs.Totals.{both, totals_of_shown}
use Rattle.list_summary.specs.Iframes.{tree_iframes, trees_iframes, iframe_totals, with_iframes}
use Rattle.list_summary.specs.Laws.{SummariesTellTotals}
use Rattle.list_summary.proofs.Sums.{both_totals, both_swap, both_join, inside_totals}
use Rattle.list_summary.proofs.Counted.{within_ones, within_none}

-- what is added before may be added after
iframes-both : (below : ℕ → Totals) (fs : List Iframe) (a b : Totals) → with_iframes below fs (both a b) ≡ both a (with_iframes below fs b)
iframes-both below [] a b = refl
iframes-both below (f ∷ fs) a b =
    ap (with_iframes below fs) (both_join a b (iframe_totals f (below f.pipeline))) ∙ iframes-both below fs a (both b (iframe_totals f (below f.pipeline)))

iframes-append : (below : ℕ → Totals) (fs gs : List Iframe) (sum : Totals) → with_iframes below (fs ++ gs) sum ≡ with_iframes below gs (with_iframes below fs sum)
iframes-append below [] gs sum = refl
iframes-append below (f ∷ fs) gs sum = iframes-append below fs gs (both sum (iframe_totals f (below f.pipeline)))

-- two lists with their Iframes
iframes-joined : (below : ℕ → Totals) (fs gs : List Iframe) (a b : Totals) → both (with_iframes below fs a) (with_iframes below gs b) ≡ with_iframes below (fs ++ gs) (both a b)
iframes-joined below fs gs a b =
    sym (iframes-both below gs (with_iframes below fs a) b)
    ∙ ap (with_iframes below gs) (both_swap (with_iframes below fs a) b ∙ sym (iframes-both below fs b a) ∙ ap (with_iframes below fs) (both_swap b a))
    ∙ sym (iframes-append below fs gs (both a b))

abbrev totals_within : ℕ → List Shown → Totals
totals_within d xs = totals_of_shown (map (within d) xs)

abbrev totals_below : (ℕ → List Shown) → ℕ → Totals
totals_below below q = totals_of_shown (below q)

abbrev IsSplit : (ℕ → List Shown) → List ℕ → ℕ → Tree → Type 0
IsSplit below counts d t =
    totals_within d (shown_tree below counts t) ≡ with_iframes (totals_below below) (tree_iframes counts d t) (totals_within d (shown_tree nobody counts t))

abbrev AreSplit : (ℕ → List Shown) → List ℕ → ℕ → Trees → Type 0
AreSplit below counts d ts =
    totals_within d (shown_trees below counts ts) ≡ with_iframes (totals_below below) (trees_iframes counts d ts) (totals_within d (shown_trees nobody counts ts))

iframe_split : (below : ℕ → List Shown) (counts : List ℕ) (d : ℕ) (o : Spot) (q : ℕ) → IsSplit below counts d (iframe o q)
iframe_split below counts d o q =
    let c = chain_clip_count counts o.chain in
    let here = within d (alone c 0) in
    both_totals (here ∷ []) (map (within d) (map (under (c + 1)) (below q)))
    ∙ ap (λ xs. both (totals_of_shown (here ∷ [])) (totals_of_shown xs)) (map-map (within d) (under (c + 1)) (below q))
    ∙ ap (both (totals_of_shown (here ∷ []))) (inside_totals d (c + 1) (below q))

mutual
  tree_split : (below : ℕ → List Shown) (counts : List ℕ) (d : ℕ) (t : Tree) → IsSplit below counts d t
  tree_split below counts d (solid o c) = refl
  tree_split below counts d (image o k u v) = refl
  tree_split below counts d (border o w t r b l c) = refl
  tree_split below counts d (text o f c gs) = refl
  tree_split below counts d (context p ts) =
      let c = chain_clip_count counts p.chain in
      let here = within (d + 1) (alone c 0) in
      ap totals_of_shown (within_ones d (alone c 0 ∷ shown_trees below counts ts))
      ∙ both_totals (here ∷ []) (map (within (d + 1)) (shown_trees below counts ts))
      ∙ ap (both (totals_of_shown (here ∷ []))) (trees_split below counts (d + 1) ts)
      ∙ sym (iframes-both (totals_below below) (trees_iframes counts (d + 1) ts) (totals_of_shown (here ∷ [])) (totals_within (d + 1) (shown_trees nobody counts ts)))
      ∙ ap (with_iframes (totals_below below) (trees_iframes counts (d + 1) ts))
      (sym (both_totals (here ∷ []) (map (within (d + 1)) (shown_trees nobody counts ts))) ∙ ap totals_of_shown (sym (within_ones d (alone c 0 ∷ shown_trees nobody counts ts))))
  tree_split below counts d (iframe o q) = iframe_split below counts d o q
  tree_split below counts d (hit_area o n) = refl

  trees_split : (below : ℕ → List Shown) (counts : List ℕ) (d : ℕ) (ts : Trees) → AreSplit below counts d ts
  trees_split below counts d none = refl
  trees_split below counts d (more t ts) =
      let F = with_iframes (totals_below below) in
      ap totals_of_shown (map-append (within d) (shown_tree below counts t) (shown_trees below counts ts))
      ∙ both_totals (map (within d) (shown_tree below counts t)) (map (within d) (shown_trees below counts ts))
      ∙ ap (λ (a : Totals). both a (totals_within d (shown_trees below counts ts))) (tree_split below counts d t)
      ∙ ap (both (F (tree_iframes counts d t) (totals_within d (shown_tree nobody counts t)))) (trees_split below counts d ts)
      ∙ iframes-joined (totals_below below) (tree_iframes counts d t) (trees_iframes counts d ts) (totals_within d (shown_tree nobody counts t)) (totals_within d (shown_trees nobody counts ts))
      ∙ ap (F (tree_iframes counts d t ++ trees_iframes counts d ts))
      (sym (both_totals (map (within d) (shown_tree nobody counts t)) (map (within d) (shown_trees nobody counts ts)))
      ∙ ap totals_of_shown (sym (map-append (within d) (shown_tree nobody counts t) (shown_trees nobody counts ts))))

pub summaries_tell : SummariesTellTotals
summaries_tell below l =
    let counts = totals_of l.chains in
    let ts = told l.items in
    ap totals_of_shown (sym (within_none (shown_trees below counts ts)))
    ∙ trees_split below counts 0 ts
    ∙ ap (with_iframes (totals_below below) (trees_iframes counts 0 ts)) (ap totals_of_shown (within_none (shown_trees nobody counts ts)))
