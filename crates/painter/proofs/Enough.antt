-- 64 levels of pipelines are enough for the painter and for the top items.
use Rattle.std.proofs.Common.{sym, ◌≡◌, ℕ, zero, suc, ◌+◌, ◌<◌, ◌≤◌, List, ◌++◌, length, if◌then◌else◌, Option, Some, None, refl, ap, ap₂, ◌∙◌, arith}
use Rattle.std.specs.Option.{option_map}
use Rattle.wr_geom.specs.declared.point.Point.{Point}
use Rattle.blend_rules.specs.declared.colour.Px.{Px}
use Rattle.blend_rules.specs.Colour.{clear}
use Rattle.display_list.specs.ListModel.{ListModel}
use Rattle.display_list.specs.Trees.{Tree, solid, image, border, text, context, iframe, hit_area, Trees, none, more, told, IsTree, AreTrees, TreeNamesAbove, TreesNameAbove}
use Rattle.display_list.proofs.TreeFacts.{list_trees, fits_trees}
use Rattle.spatial_tree.specs.Moves.{MovesModel}
use Rattle.pipelines.specs.Table.{PipelineMap, pipeline_list, pipeline_at, IsListOf, AreFit}
use Rattle.painter.specs.PlacedList.{PlacedList, placed_at, item_rect, first_corner, iframe_clips, is_plain}
use Rattle.painter.specs.Painter.{ScenePixel, ListPainter, under, paint_group, paint_tree, paint_trees, paint_list, paint_levels, paint_pipeline}
use Rattle.painter.specs.TopItems.{Around, TopItem, TopLister, around_iframe, top_item, tree_tops, trees_tops, list_tops, tops_in, pipeline_tops}

-- what two painters give alike, at the pipelines above one
abbrev pub SamePainters : ℕ → ListPainter → ListPainter → Type 0
SamePainters own f g = (q : ℕ) (o : Point) (c : ℕ) (b : Px) → own < q → q ≤ 63 → f q o c b ≡ g q o c b

mutual
  same_tree : (f g : ListPainter) (own n k : ℕ) (s : ScenePixel) (l : PlacedList) (t : Tree) (c : ℕ) (b : Px) → SamePainters own f g → IsTree n k t → TreeNamesAbove own t
      → paint_tree f s l t c b ≡ paint_tree g s l t c b
  same_tree f g own n k s l (solid o px) c b h is above = refl
  same_tree f g own n k s l (image o i u v) c b h is above = refl
  same_tree f g own n k s l (border o w t r bo le ra) c b h is above = refl
  same_tree f g own n k s l (text o i px gs) c b h is above = refl
  same_tree f g own n k s l (context p ts) c b h is above =
      ap₂ (λ (x y : Px). if is_plain l p then x else paint_group s l p y c b) (same_trees f g own n k s l ts c b h is.1 above) (same_trees f g own n k s l ts 255 clear h is.1 above)
  same_tree f g own n k s l (iframe o q) c b h is above = h q (first_corner (item_rect l o)) (under s (iframe_clips l o) c) b above is.1
  same_tree f g own n k s l (hit_area o i) c b h is above = refl

  same_trees : (f g : ListPainter) (own n k : ℕ) (s : ScenePixel) (l : PlacedList) (ts : Trees) (c : ℕ) (b : Px) → SamePainters own f g → AreTrees n k ts → TreesNameAbove own ts
      → paint_trees f s l ts c b ≡ paint_trees g s l ts c b
  same_trees f g own n k s l none c b h are above = refl
  same_trees f g own n k s l (more t ts) c b h are above =
      ap (paint_trees f s l ts c) (same_tree f g own n k s l t c b h are.0 above.0) ∙ same_trees f g own n k s l ts c (paint_tree g s l t c b) h are.1 above.1

-- a list where it is drawn
abbrev pub placed : ℕ → MovesModel → Point → ListModel → PlacedList
placed p moves origin list = record { pipeline = p; list = list; moves = moves; origin = origin }

same_list : (f g : ListPainter) (p : ℕ) (s : ScenePixel) (moves : MovesModel) (origin : Point) (o : Option ListModel) (c : ℕ) (b : Px) → SamePainters p f g → ((l : ListModel) → o ≡ Some l → IsListOf p l)
    → paint_list f s (option_map (placed p moves origin) o) c b ≡ paint_list g s (option_map (placed p moves origin) o) c b
same_list f g p s moves origin None c b h is = refl
same_list f g p s moves origin (Some l) c b h is =
    let i = is l refl in
    same_trees f g p (length l.nodes + 1) (length l.chains) s (placed p moves origin l) (told l.items) c b h (list_trees l i.list) (fits_trees p l i.list i.fits)

-- with enough levels for the pipelines from p on
enough : (m n : ℕ) (s : ScenePixel) (p : ℕ) (origin : Point) (c : ℕ) (b : Px) → AreFit s.pipelines → p < 64 → 64 ≤ m + p → 64 ≤ n + p → paint_levels m s p origin c b ≡ paint_levels n s p origin c b
unfolding paint_levels
enough zero n s p origin c b fit low h k = absurd (omega arith)
enough (suc m) zero s p origin c b fit low h k = absurd (omega arith)
enough (suc m) (suc n) s p origin c b fit low h k =
    same_list (paint_levels m s) (paint_levels n s) p s (pipeline_at s.pipelines p).moves origin (pipeline_list s.pipelines p) c b
    (λ q o d e up last. enough m n s q o d e fit (omega (arith, last)) (omega (arith, up)) (omega (arith, up)))
    (λ l e. fit.each p l e)

paint_step : (n : ℕ) (s : ScenePixel) (p : ℕ) (origin : Point) (c : ℕ) (b : Px) → paint_levels (suc n) s p origin c b ≡ paint_list (paint_levels n s) s (placed_at s.pipelines p origin) c b
unfolding paint_levels
paint_step n s p origin c b = refl

-- what a list gives is what the pipelines give that its Iframes name
pub paint_each : (s : ScenePixel) (p : ℕ) (origin : Point) (c : ℕ) (b : Px) → AreFit s.pipelines → paint_pipeline s p origin c b ≡ paint_list (paint_pipeline s) s (placed_at s.pipelines p origin) c b
paint_each s p origin c b fit =
    paint_step 63 s p origin c b
    ∙ same_list (paint_levels 63 s) (paint_levels 64 s) p s (pipeline_at s.pipelines p).moves origin (pipeline_list s.pipelines p) c b
    (λ q o d e up last. enough 63 64 s q o d e fit (omega (arith, last)) (omega (arith, up)) (omega (arith, up)))
    (λ l e. fit.each p l e)

-- more levels give nothing more
pub more_levels : (n : ℕ) (s : ScenePixel) (p : ℕ) (origin : Point) (c : ℕ) (b : Px) → AreFit s.pipelines → 64 ≤ n → paint_levels n s p origin c b ≡ paint_pipeline s p origin c b
more_levels zero s p origin c b fit le = absurd (omega arith)
more_levels (suc n) s p origin c b fit le =
    paint_step n s p origin c b
    ∙ same_list (paint_levels n s) (paint_levels 63 s) p s (pipeline_at s.pipelines p).moves origin (pipeline_list s.pipelines p) c b
    (λ q o d e up last. enough n 63 s q o d e fit (omega (arith, last)) (omega (arith, up, le)) (omega (arith, up)))
    (λ l e. fit.each p l e)
    ∙ sym (paint_step 63 s p origin c b)

-- ---- top items

abbrev pub SameListers : ℕ → TopLister → TopLister → Type 0
SameListers own f g = (q : ℕ) (o : Point) (a : Around) → own < q → q ≤ 63 → f q o a ≡ g q o a

mutual
  same_tops : (f g : TopLister) (own n k : ℕ) (a : Around) (l : PlacedList) (t : Tree) → SameListers own f g → IsTree n k t → TreeNamesAbove own t → tree_tops f a l t ≡ tree_tops g a l t
  same_tops f g own n k a l (solid o px) h is above = refl
  same_tops f g own n k a l (image o i u v) h is above = refl
  same_tops f g own n k a l (border o w t r bo le ra) h is above = refl
  same_tops f g own n k a l (text o i px gs) h is above = refl
  same_tops f g own n k a l (context p ts) h is above = ap (λ (xs : List TopItem). if is_plain l p then xs else top_item a l (context p ts)) (same_all_tops f g own n k a l ts h is.1 above)
  same_tops f g own n k a l (iframe o q) h is above = h q (first_corner (item_rect l o)) (around_iframe a l o) above is.1
  same_tops f g own n k a l (hit_area o i) h is above = refl

  same_all_tops : (f g : TopLister) (own n k : ℕ) (a : Around) (l : PlacedList) (ts : Trees) → SameListers own f g → AreTrees n k ts → TreesNameAbove own ts → trees_tops f a l ts ≡ trees_tops g a l ts
  same_all_tops f g own n k a l none h are above = refl
  same_all_tops f g own n k a l (more t ts) h are above = ap₂ (λ (xs ys : List TopItem). xs ++ ys) (same_tops f g own n k a l t h are.0 above.0) (same_all_tops f g own n k a l ts h are.1 above.1)

same_list_tops : (f g : TopLister) (p : ℕ) (moves : MovesModel) (origin : Point) (a : Around) (o : Option ListModel) → SameListers p f g → ((l : ListModel) → o ≡ Some l → IsListOf p l)
    → list_tops f (option_map (placed p moves origin) o) a ≡ list_tops g (option_map (placed p moves origin) o) a
same_list_tops f g p moves origin a None h is = refl
same_list_tops f g p moves origin a (Some l) h is =
    let i = is l refl in
    same_all_tops f g p (length l.nodes + 1) (length l.chains) a (placed p moves origin l) (told l.items) h (list_trees l i.list) (fits_trees p l i.list i.fits)

enough_tops : (m n : ℕ) (ps : PipelineMap) (p : ℕ) (origin : Point) (a : Around) → AreFit ps → p < 64 → 64 ≤ m + p → 64 ≤ n + p → tops_in m ps p origin a ≡ tops_in n ps p origin a
unfolding tops_in
enough_tops zero n ps p origin a fit low h k = absurd (omega arith)
enough_tops (suc m) zero ps p origin a fit low h k = absurd (omega arith)
enough_tops (suc m) (suc n) ps p origin a fit low h k =
    same_list_tops (tops_in m ps) (tops_in n ps) p (pipeline_at ps p).moves origin a (pipeline_list ps p)
    (λ q o b up last. enough_tops m n ps q o b fit (omega (arith, last)) (omega (arith, up)) (omega (arith, up)))
    (λ l e. fit.each p l e)

tops_step : (n : ℕ) (ps : PipelineMap) (p : ℕ) (origin : Point) (a : Around) → tops_in (suc n) ps p origin a ≡ list_tops (tops_in n ps) (placed_at ps p origin) a
unfolding tops_in
tops_step n ps p origin a = refl

-- the top items of a list are those of the pipelines that its Iframes name among its own
pub tops_each : (ps : PipelineMap) (p : ℕ) (origin : Point) (a : Around) → AreFit ps → pipeline_tops ps p origin a ≡ list_tops (pipeline_tops ps) (placed_at ps p origin) a
tops_each ps p origin a fit =
    tops_step 63 ps p origin a
    ∙ same_list_tops (tops_in 63 ps) (tops_in 64 ps) p (pipeline_at ps p).moves origin a (pipeline_list ps p)
    (λ q o b up last. enough_tops 63 64 ps q o b fit (omega (arith, last)) (omega (arith, up)) (omega (arith, up)))
    (λ l e. fit.each p l e)
