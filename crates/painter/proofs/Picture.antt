-- What top items are, and what the picture is.
use Rattle.std.proofs.Common.{◌≡◌, ℕ, zero, suc, ◌+◌, Bool, true, false, not, if◌then◌else◌, List, [], ◌∷◌, ◌++◌, length, Option, Some, None, refl, sym, ap, subst, ◌∙◌, arith}
use Rattle.std.specs.Prelude.{All}
use Rattle.std.specs.Option.{option_map}
use Rattle.std.proofs.lemmas.List.Elements.{All-nil, All-cons, All-head, All-tail, All-append}
use Rattle.wr_geom.specs.declared.point.Point.{Point}
use Rattle.blend_rules.specs.declared.colour.Px.{Px}
use Rattle.blend_rules.specs.declared.mode.Mode.TheVariants.{Normal}
use Rattle.blend_rules.specs.Colour.{IsPremultiplied, IsPixel, clear, blended}
use Rattle.blend_rules.proofs.Blends.{blend_is_premultiplied, blend_is_pixel, clear_is_pixel, clear_source_leaves}
use Rattle.clip_masks.proofs.Chains.{chain_byte}
use Rattle.display_list.specs.ListModel.{ListModel}
use Rattle.display_list.specs.Trees.{Tree, solid, image, border, text, context, iframe, hit_area, Trees, none, more, told, IsTree, AreTrees}
use Rattle.display_list.proofs.TreeFacts.{list_trees}
use Rattle.spatial_tree.specs.Moves.{MovesModel}
use Rattle.pipelines.specs.Table.{pipeline_at, pipeline_list, IsListOf, AreByteOpacities}
use Rattle.scene_limits.specs.Places.{zero_point}
use Rattle.slice_rules.specs.Homes.{Home, same_home}
use Rattle.slice_rules.specs.Runs.{before_runs, runs, joined, rest_in_one, slices_of}
use Rattle.slice_rules.proofs.Runs.{home_self, slices_joined}
use Rattle.painter.specs.PlacedList.{PlacedList, item_rect, first_corner, is_plain}
use Rattle.painter.specs.Painter.{ScenePixel, under, paint_pipeline}
use Rattle.painter.specs.TopItems.{Around, TopItem, TopLister, nothing_around, around_iframe, top_item, tree_tops, trees_tops, list_tops, tops_in, top_items, home_of, paint_top}
use Rattle.painter.specs.Slices.{Slice, paint_tops, slice_colour, paint_slices, picture_over}
use Rattle.painter.specs.Laws.{IsScenePixel, IsTopItem, is_drawn, TopsAreDrawn, PictureIsPixel, PictureIsPremultiplied, OneHomeIsOneGroup}
use Rattle.painter.proofs.Enough.{placed}
use Rattle.painter.proofs.Pixels.{item_pixel, pipelines_pixel}
use Rattle.painter.proofs.TopColours.{tops_paint}

-- ---- top items

-- what gives top items of their lists alone
abbrev GivesDrawn : TopLister → Type 0
GivesDrawn inner = (p : ℕ) (origin : Point) (a : Around) → All IsTopItem (inner p origin a)

one_drawn : (a : Around) (l : PlacedList) (t : Tree) → AreByteOpacities l.moves → IsTree (length l.list.nodes + 1) (length l.list.chains) t → is_drawn l t ≡ true → All IsTopItem (top_item a l t)
one_drawn a l t bytes is drawn =
    All-cons IsTopItem (record { around = a; list = l; item = t }) [] (record { drawn = drawn; item = record { fields = is; opacities = bytes } }) (All-nil IsTopItem)

-- those of a context's items, or the context as a group
either_drawn : (b : Bool) (xs ys : List TopItem) → All IsTopItem xs → (not b ≡ true → All IsTopItem ys) → All IsTopItem (if b then xs else ys)
either_drawn true xs ys are also = are
either_drawn false xs ys are also = also refl

mutual
  tree_drawn : (inner : TopLister) (a : Around) (l : PlacedList) (t : Tree) → AreByteOpacities l.moves → IsTree (length l.list.nodes + 1) (length l.list.chains) t → GivesDrawn inner → All IsTopItem (tree_tops inner a l t)
  tree_drawn inner a l (solid o px) bytes is gives = one_drawn a l (solid o px) bytes is refl
  tree_drawn inner a l (image o i u v) bytes is gives = one_drawn a l (image o i u v) bytes is refl
  tree_drawn inner a l (border o w top r bo le ra) bytes is gives = one_drawn a l (border o w top r bo le ra) bytes is refl
  tree_drawn inner a l (text o i px gs) bytes is gives = one_drawn a l (text o i px gs) bytes is refl
  tree_drawn inner a l (context p ts) bytes is gives =
      either_drawn (is_plain l p) (trees_tops inner a l ts) (top_item a l (context p ts)) (trees_drawn inner a l ts bytes is.1 gives) (one_drawn a l (context p ts) bytes is)
  tree_drawn inner a l (iframe o q) bytes is gives = gives q (first_corner (item_rect l o)) (around_iframe a l o)
  tree_drawn inner a l (hit_area o i) bytes is gives = All-nil IsTopItem

  trees_drawn : (inner : TopLister) (a : Around) (l : PlacedList) (ts : Trees) → AreByteOpacities l.moves → AreTrees (length l.list.nodes + 1) (length l.list.chains) ts → GivesDrawn inner
      → All IsTopItem (trees_tops inner a l ts)
  trees_drawn inner a l none bytes are gives = All-nil IsTopItem
  trees_drawn inner a l (more t ts) bytes are gives = All-append IsTopItem (tree_tops inner a l t) (trees_tops inner a l ts) (tree_drawn inner a l t bytes are.0 gives) (trees_drawn inner a l ts bytes are.1 gives)

list_drawn : (inner : TopLister) (p : ℕ) (moves : MovesModel) (origin : Point) (a : Around) (o : Option ListModel) → AreByteOpacities moves → ((l : ListModel) → o ≡ Some l → IsListOf p l) → GivesDrawn inner
    → All IsTopItem (list_tops inner (option_map (placed p moves origin) o) a)
list_drawn inner p moves origin a None bytes is gives = All-nil IsTopItem
list_drawn inner p moves origin a (Some l) bytes is gives = trees_drawn inner a (placed p moves origin l) (told l.items) bytes (list_trees l (is l refl).list) gives

levels_drawn : (n : ℕ) (s : ScenePixel) → IsScenePixel s → GivesDrawn (tops_in n s.pipelines)
unfolding tops_in
levels_drawn zero s is p origin a = All-nil IsTopItem
levels_drawn (suc n) s is p origin a =
    list_drawn (tops_in n s.pipelines) p (pipeline_at s.pipelines p).moves origin a (pipeline_list s.pipelines p) (is.pipelines.opacities p) (is.pipelines.each p) (levels_drawn n s is)

pub tops_drawn : TopsAreDrawn
tops_drawn s is = levels_drawn 64 s is 0 zero_point nothing_around

-- ---- the picture is a pixel

top_pixel : (s : ScenePixel) (t : TopItem) (backdrop : Px) → IsScenePixel s → IsTopItem t → IsPixel backdrop → IsPixel (paint_top s t backdrop)
top_pixel s t backdrop is top b =
    item_pixel (paint_pipeline s) s t.list t.item (under s t.around.clips 255) backdrop is.store top.item (pipelines_pixel s is) (chain_byte t.around.clips 255 s.x s.y (omega arith)) b

tops_pixel : (s : ScenePixel) (ts : List TopItem) (backdrop : Px) → IsScenePixel s → All IsTopItem ts → IsPixel backdrop → IsPixel (paint_tops s ts backdrop)
tops_pixel s [] backdrop is are b = b
tops_pixel s (t ∷ ts) backdrop is are b = tops_pixel s ts (paint_top s t backdrop) is (All-tail IsTopItem t ts are) (top_pixel s t backdrop is (All-head IsTopItem t ts are) b)

pub all_split : (xs ys : List TopItem) → All IsTopItem (xs ++ ys) → All IsTopItem xs × All IsTopItem ys
all_split [] ys are = (All-nil IsTopItem, are)
all_split (x ∷ xs) ys are =
    let rest = all_split xs ys (All-tail IsTopItem x (xs ++ ys) are) in
    (All-cons IsTopItem x xs (All-head IsTopItem x (xs ++ ys) are) rest.0, rest.1)

slices_pixel : (s : ScenePixel) (rs : List Slice) (backdrop : Px) → IsScenePixel s → All IsTopItem (joined rs) → IsPixel backdrop → IsPixel (paint_slices s rs backdrop)
slices_pixel s [] backdrop is are b = b
slices_pixel s (r ∷ rs) backdrop is are b =
    let parts = all_split r.members (joined rs) are in
    let slice : IsPixel (slice_colour s r) = tops_pixel s r.members clear is parts.0 clear_is_pixel in
    slices_pixel s rs (blended Normal (slice_colour s r) backdrop) is parts.1 (blend_is_pixel Normal (slice_colour s r) backdrop slice.byte b.byte)

pub picture_pixel : PictureIsPixel
unfolding picture_over
picture_pixel s behind is b =
    let tops = top_items s.pipelines in
    slices_pixel s (slices_of home_of tops) behind is (subst (All IsTopItem) (sym (slices_joined home_of tops)) (tops_drawn s is)) b

slices_premultiplied : (s : ScenePixel) (rs : List Slice) (backdrop : Px) → IsPremultiplied backdrop → IsPremultiplied (paint_slices s rs backdrop)
slices_premultiplied s [] backdrop b = b
slices_premultiplied s (r ∷ rs) backdrop b = slices_premultiplied s rs (blended Normal (slice_colour s r) backdrop) (blend_is_premultiplied Normal (slice_colour s r) backdrop)

pub picture_premultiplied : PictureIsPremultiplied
unfolding picture_over
picture_premultiplied s behind b = slices_premultiplied s (slices_of home_of (top_items s.pipelines)) behind b

-- ---- one home

-- the one run of top items of one home
abbrev run_at : Home → TopItem → List TopItem → List Slice
run_at h t ts = record { home = h; members = t ∷ ts } ∷ []

before_one : (h : Home) (t u : TopItem) (ts : List TopItem) → home_of t ≡ h → before_runs home_of t (run_at h u ts) ≡ run_at h t (u ∷ ts)
before_one h t u ts e =
    ap (λ (b : Bool). if b then run_at (home_of t) t (u ∷ ts) else record { home = home_of t; members = t ∷ [] } ∷ run_at h u ts) (ap (λ (g : Home). same_home g h) e ∙ home_self h)
    ∙ ap (λ (g : Home). run_at g t (u ∷ ts)) e

one_run : (h : Home) (t : TopItem) (ts : List TopItem) → All (λ x. home_of x ≡ h) (t ∷ ts) → runs home_of (t ∷ ts) ≡ run_at h t ts
one_run h t [] all = ap (λ (g : Home). run_at g t []) (All-head (λ x. home_of x ≡ h) t [] all)
one_run h t (u ∷ ts) all =
    ap (before_runs home_of t) (one_run h u ts (All-tail (λ x. home_of x ≡ h) t (u ∷ ts) all)) ∙ before_one h t u ts (All-head (λ x. home_of x ≡ h) t (u ∷ ts) all)

one_group : (s : ScenePixel) (h : Home) (ts : List TopItem) (behind : Px) → IsPixel behind → All (λ x. home_of x ≡ h) ts → paint_slices s (slices_of home_of ts) behind ≡ blended Normal (paint_tops s ts clear) behind
one_group s h [] behind b all = sym (clear_source_leaves Normal behind b.premultiplied b.byte)
one_group s h (t ∷ ts) behind b all = ap (λ (rs : List Slice). paint_slices s (rest_in_one 7 rs) behind) (one_run h t ts all)

pub one_home : OneHomeIsOneGroup
unfolding picture_over
one_home s behind h fit b all = one_group s h (top_items s.pipelines) behind b all ∙ ap (λ (c : Px). blended Normal c behind) (tops_paint s clear fit)
