-- 64 levels of pipelines are enough.
use Rattle.std.proofs.Common.{sym, ◌≡◌, ℕ, zero, suc, ◌+◌, ◌<◌, ◌≤◌, List, [], ◌∷◌, ◌++◌, map, Option, Some, None, refl, ap, ap₂, ◌∙◌, arith}
use Rattle.std.specs.List.{flat_map}
use Rattle.wr_geom.specs.declared.point.Point.{Point}
use Rattle.display_list.specs.ListModel.{ListModel}
use Rattle.display_list.specs.Levels.{totals_of}
use Rattle.display_list.specs.declared.item.Spot.{Spot}
use Rattle.display_list.specs.Trees.{Tree, solid, image, border, text, context, iframe, hit_area, Trees, none, more, told}
use Rattle.list_summary.specs.declared.iframe.Iframe.{Iframe}
use Rattle.list_summary.specs.Shown.{Shown, alone, within, under, chain_clip_count, shown_tree, shown_trees}
use Rattle.list_summary.specs.Iframes.{tree_iframes, trees_iframes, summary_of}
use Rattle.pipelines.specs.Table.{PipelineMap, pipeline_list, pipeline_at, AreFit}
use Rattle.spatial_tree.specs.Moves.{MovesModel}
use Rattle.spatial_tree.specs.Offsets.{offsets_of}
use Rattle.scene_limits.specs.Drawn.{iframes_of}
use Rattle.scene_limits.specs.Expanded.{shown_list, expanded}
use Rattle.scene_limits.specs.Places.{iframe_origin, list_places, node_places}
use Rattle.scene_limits.specs.Laws.{ItemsOfEachList, PlacesOfEachList, MoreLevelsShowNoMore}
use Rattle.scene_limits.proofs.Iframes.{names_above, any_left, any_right}
use Rattle.scene_limits.proofs.Levels.{AgreeAt, agree_head, agree_tail}

-- ---- items

agree_left : {X : Type 0} (f g : ℕ → X) (fs gs : List Iframe) → AgreeAt f g (fs ++ gs) → AgreeAt f g fs
agree_left f g fs gs h q k = h q (any_left q fs gs k)

agree_right : {X : Type 0} (f g : ℕ → X) (fs gs : List Iframe) → AgreeAt f g (fs ++ gs) → AgreeAt f g gs
agree_right f g fs gs h q k = h q (any_right q fs gs k)

abbrev iframe_at : List ℕ → ℕ → Spot → ℕ → Iframe
iframe_at counts d o q = record { pipeline = q; contexts = d; clips = chain_clip_count counts o.chain; node = o.node; x = o.rect.x0; y = o.rect.y0 }

mutual
  same_tree : (f g : ℕ → List Shown) (counts : List ℕ) (d : ℕ) (t : Tree) → AgreeAt f g (tree_iframes counts d t) → shown_tree f counts t ≡ shown_tree g counts t
  same_tree f g counts d (solid o c) h = refl
  same_tree f g counts d (image o k u v) h = refl
  same_tree f g counts d (border o w t r b l c) h = refl
  same_tree f g counts d (text o i c gs) h = refl
  same_tree f g counts d (context p ts) h = ap (λ xs. map (within 1) (alone (chain_clip_count counts p.chain) 0 ∷ xs)) (same_trees f g counts (d + 1) ts h)
  same_tree f g counts d (iframe o q) h = ap (λ xs. alone (chain_clip_count counts o.chain) 0 ∷ map (under (chain_clip_count counts o.chain + 1)) xs) (agree_head f g (iframe_at counts d o q) [] h)
  same_tree f g counts d (hit_area o n) h = refl

  same_trees : (f g : ℕ → List Shown) (counts : List ℕ) (d : ℕ) (ts : Trees) → AgreeAt f g (trees_iframes counts d ts) → shown_trees f counts ts ≡ shown_trees g counts ts
  same_trees f g counts d none h = refl
  same_trees f g counts d (more t ts) h =
      ap₂ (λ xs ys. xs ++ ys) (same_tree f g counts d t (agree_left f g (tree_iframes counts d t) (trees_iframes counts d ts) h)) (same_trees f g counts d ts (agree_right f g (tree_iframes counts d t) (trees_iframes counts d ts) h))

same_shown : (f g : ℕ → List Shown) (o : Option ListModel) → AgreeAt f g (iframes_of o) → shown_list f o ≡ shown_list g o
same_shown f g None h = refl
same_shown f g (Some l) h = same_trees f g (totals_of l.chains) 0 (told l.items) h

-- with enough levels for the pipelines from p on
pub enough : (m n : ℕ) (ps : PipelineMap) (p : ℕ) → AreFit ps → p < 64 → 64 ≤ m + p → 64 ≤ n + p → expanded m ps p ≡ expanded n ps p
unfolding expanded
enough zero n ps p fit low h k = absurd (omega arith)
enough (suc m) zero ps p fit low h k = absurd (omega arith)
enough (suc m) (suc n) ps p fit low h k =
    same_shown (expanded m ps) (expanded n ps) (pipeline_list ps p)
    (λ q name. let up : p < q = (names_above ps p q fit name).0 in let last : q ≤ 63 = (names_above ps p q fit name).1 in
    enough m n ps q fit (omega arith) (omega arith) (omega arith))

-- one step
step : (n : ℕ) (ps : PipelineMap) (p : ℕ) → expanded (suc n) ps p ≡ shown_list (expanded n ps) (pipeline_list ps p)
unfolding expanded
step n ps p = refl

pub items_of_each : ItemsOfEachList
items_of_each ps p fit =
    step 63 ps p
    ∙ same_shown (expanded 63 ps) (expanded 64 ps) (pipeline_list ps p)
    (λ q name. let up : p < q = (names_above ps p q fit name).0 in let last : q ≤ 63 = (names_above ps p q fit name).1 in enough 63 64 ps q fit (omega arith) (omega arith) (omega arith))

pub more_levels : MoreLevelsShowNoMore
more_levels zero ps p fit le = absurd (omega arith)
more_levels (suc n) ps p fit le =
    step n ps p
    ∙ same_shown (expanded n ps) (expanded 63 ps) (pipeline_list ps p)
    (λ q name. let up : p < q = (names_above ps p q fit name).0 in let last : q ≤ 63 = (names_above ps p q fit name).1 in enough n 63 ps q fit (omega arith) (omega arith) (omega arith))
    ∙ sym (step 63 ps p)

-- ---- places

same_flat : (f g : ℕ → Point → List Point) (at : Iframe → Point) (fs : List Iframe) → AgreeAt f g fs → flat_map (λ a. f a.pipeline (at a)) fs ≡ flat_map (λ a. g a.pipeline (at a)) fs
same_flat f g at [] h = refl
same_flat f g at (a ∷ fs) h = ap₂ (λ xs ys. xs ++ ys) (ap (λ (b : Point → List Point). b (at a)) (agree_head f g a fs h)) (same_flat f g at fs (agree_tail f g a fs h))

same_places : (f g : ℕ → Point → List Point) (m : MovesModel) (o : Option ListModel) (origin : Point) → AgreeAt f g (iframes_of o) → list_places f m o origin ≡ list_places g m o origin
same_places f g m None origin h = refl
same_places f g m (Some l) origin h = ap (λ xs. offsets_of l.nodes m origin ++ xs) (same_flat f g (iframe_origin l.nodes m origin) (summary_of l).iframes h)

enough_places : (m n : ℕ) (ps : PipelineMap) (p : ℕ) (origin : Point) → AreFit ps → p < 64 → 64 ≤ m + p → 64 ≤ n + p → node_places m ps p origin ≡ node_places n ps p origin
unfolding node_places
enough_places zero n ps p origin fit low h k = absurd (omega arith)
enough_places (suc m) zero ps p origin fit low h k = absurd (omega arith)
enough_places (suc m) (suc n) ps p origin fit low h k =
    same_places (node_places m ps) (node_places n ps) (pipeline_at ps p).moves (pipeline_list ps p) origin
    (λ q name. let up : p < q = (names_above ps p q fit name).0 in let last : q ≤ 63 = (names_above ps p q fit name).1 in
    λ i. λ at. enough_places m n ps q at fit (omega arith) (omega arith) (omega arith) i)

step_places : (n : ℕ) (ps : PipelineMap) (p : ℕ) (origin : Point) → node_places (suc n) ps p origin ≡ list_places (node_places n ps) (pipeline_at ps p).moves (pipeline_list ps p) origin
unfolding node_places
step_places n ps p origin = refl

pub places_of_each : PlacesOfEachList
places_of_each ps p origin fit =
    step_places 63 ps p origin
    ∙ same_places (node_places 63 ps) (node_places 64 ps) (pipeline_at ps p).moves (pipeline_list ps p) origin
    (λ q name. let up : p < q = (names_above ps p q fit name).0 in let last : q ≤ 63 = (names_above ps p q fit name).1 in
    λ i. λ at. enough_places 63 64 ps q at fit (omega arith) (omega arith) (omega arith) i)
