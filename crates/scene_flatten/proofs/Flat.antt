-- The top items of a scene are tops: each is one primitive or one group, close to the point (0, 0), with a home for each clip.
use Rattle.std.proofs.Common.{◌≡◌, ℕ, zero, suc, ◌+◌, ◌≤◌, pos, Bool, true, false, if◌then◌else◌, List, [], ◌∷◌, length, Option, Some, None, refl, sym, ap, ◌∙◌, arith}
use Rattle.std.specs.Prelude.{All}
use Rattle.std.specs.Option.{option_map}
use Rattle.std.proofs.lemmas.Int.{ints}
use Rattle.std.proofs.lemmas.Option.{none-some}
use Rattle.std.proofs.lemmas.List.Elements.{All-nil, All-cons, All-head, All-tail, All-append, All-map, All-weaker}
use Rattle.wr_geom.specs.declared.point.Point.{Point}
use Rattle.clip_masks.specs.declared.clip.Clip.{Clip}
use Rattle.display_list.specs.ListModel.{ListModel}
use Rattle.display_list.specs.Trees.{Tree, solid, image, border, text, context, iframe, hit_area, Trees, none, more, told, IsTree, AreTrees}
use Rattle.image_store.specs.StoreModel.{StoreModel}
use Rattle.pipelines.specs.Table.{PipelineMap, pipeline_at, pipeline_list, AreFit}
use Rattle.primitives.specs.Tops.{IsSliceOrigin, IsCloseRect, first_clips, IsTop, AreTops}
use Rattle.scene_limits.specs.Limits.{scene_fault}
use Rattle.scene_limits.specs.Places.{zero_point}
use Rattle.scene_limits.proofs.Within.{no_fault}
use Rattle.slice_rules.specs.Homes.{Home}
use Rattle.painter.specs.Frames.{root_frame_of}
use Rattle.painter.specs.PlacedList.{PlacedList, node_point, item_rect, first_corner, is_plain}
use Rattle.painter.specs.TopItems.{Around, TopItem, TopLister, nothing_around, around_iframe, frame_point, origin_by, node_origin, top_item, tree_tops, trees_tops, list_tops, tops_in, top_items, node_of}
use Rattle.painter.specs.Shared.{top_clips, top_homes}
use Rattle.painter.specs.Facts.{Reaches, TreeReaches, TreesReach}
use Rattle.painter.specs.Laws.{IsTopItem}
use Rattle.painter.proofs.Enough.{placed}
use Rattle.painter.proofs.Frames.{frame_found}
use Rattle.painter.proofs.Reaching.{list_can}
use Rattle.painter.proofs.Picture.{tops_drawn}
use Rattle.painter.proofs.OutsideShown.{each_home}
use Rattle.scene_state.specs.SceneModel.{SceneModel}
use Rattle.scene_state.specs.Limits.{IsScene, first_limit, is_full}
use Rattle.scene_flatten.specs.Entries.{pipeline_entries}
use Rattle.scene_flatten.specs.Facts.{IsNearList, IsNearAround, IsNearTop}
use Rattle.scene_flatten.specs.Laws.{scene_pixel, TopsHaveTheirClips}
use Rattle.scene_flatten.specs.Tops.{top_of, scene_tops}
use Rattle.scene_flatten.proofs.Wholes.{item_whole, item_clips}
use Rattle.scene_flatten.proofs.Near.{point_close, close_inside, tree_close, levels_close, list_near}

-- ---- origins

zero_close : IsSliceOrigin zero_point
zero_close = record { across = record { low = omega (arith, ints); high = omega (arith, ints) }; down = record { low = omega (arith, ints); high = omega (arith, ints) } }

frame_close : (l : PlacedList) (o : Option ℕ) → IsNearList l → ((frame : ℕ) → o ≡ Some frame → frame ≤ length l.list.nodes) → IsSliceOrigin (frame_point l o)
frame_close l None near within = zero_close
frame_close l (Some frame) near within = point_close (node_point l frame) (near.placed.nodes frame (within frame refl))

by_close : (home : Home) (around own : Point) → IsSliceOrigin around → IsSliceOrigin own → IsSliceOrigin (origin_by home around own)
by_close None around own h k = k
by_close (Some home) around own h k = h

origin_close : (a : Around) (l : PlacedList) (node : ℕ) → IsNearAround a → IsNearList l → IsSliceOrigin (node_origin a l node)
origin_close a l node h near =
    by_close a.home a.origin (frame_point l (root_frame_of l.list.nodes node)) h.origin (frame_close l (root_frame_of l.list.nodes node) near (λ frame e. frame_found l.list.nodes node frame e))

-- ---- top items in reach

-- what gives the top items of lists gives such
abbrev GivesNear : PipelineMap → TopLister → Type 0
GivesNear ps tops = (p : ℕ) (origin : Point) (a : Around) → Reaches ps p origin → IsNearAround a → All (IsNearTop ps) (tops p origin a)

one_near : (ps : PipelineMap) (a : Around) (l : PlacedList) (t : Tree) → IsNearAround a → IsNearList l → IsTree (length l.list.nodes + 1) (length l.list.chains) t → TreeReaches ps l t
    → All (IsNearTop ps) (top_item a l t)
one_near ps a l t h near is reach =
    All-cons (IsNearTop ps) (record { around = a; list = l; item = t }) [] (record { list = near; around = h; fields = is; reach = reach }) (All-nil (IsNearTop ps))

either_near : (ps : PipelineMap) (b : Bool) (xs ys : List TopItem) → All (IsNearTop ps) xs → All (IsNearTop ps) ys → All (IsNearTop ps) (if b then xs else ys)
either_near ps true xs ys h k = h
either_near ps false xs ys h k = k

mutual
  tree_near : (ps : PipelineMap) (tops : TopLister) (a : Around) (l : PlacedList) (t : Tree) → GivesNear ps tops → IsNearAround a → IsNearList l → IsTree (length l.list.nodes + 1) (length l.list.chains) t
      → TreeReaches ps l t → All (IsNearTop ps) (tree_tops tops a l t)
  tree_near ps tops a l (solid o px) gives h near is reach = one_near ps a l (solid o px) h near is reach
  tree_near ps tops a l (image o i u v) gives h near is reach = one_near ps a l (image o i u v) h near is reach
  tree_near ps tops a l (border o w t r b le ra) gives h near is reach = one_near ps a l (border o w t r b le ra) h near is reach
  tree_near ps tops a l (text o i px gs) gives h near is reach = one_near ps a l (text o i px gs) h near is reach
  tree_near ps tops a l (context p ts) gives h near is reach =
      either_near ps (is_plain l p) (trees_tops tops a l ts) (top_item a l (context p ts)) (trees_near ps tops a l ts gives h near is.1 reach) (one_near ps a l (context p ts) h near is reach)
  tree_near ps tops a l (iframe o q) gives h near is reach =
      gives q (first_corner (item_rect l o)) (around_iframe a l o) reach
      (record { origin = origin_close a l o.node h near; clips = close_inside l a.clips o near h.clips is.0 })
  tree_near ps tops a l (hit_area o i) gives h near is reach = All-nil (IsNearTop ps)

  trees_near : (ps : PipelineMap) (tops : TopLister) (a : Around) (l : PlacedList) (ts : Trees) → GivesNear ps tops → IsNearAround a → IsNearList l → AreTrees (length l.list.nodes + 1) (length l.list.chains) ts
      → TreesReach ps l ts → All (IsNearTop ps) (trees_tops tops a l ts)
  trees_near ps tops a l none gives h near are reach = All-nil (IsNearTop ps)
  trees_near ps tops a l (more t ts) gives h near are reach =
      All-append (IsNearTop ps) (tree_tops tops a l t) (trees_tops tops a l ts) (tree_near ps tops a l t gives h near are.0 reach.0) (trees_near ps tops a l ts gives h near are.1 reach.1)

list_tops_near : (ps : PipelineMap) (tops : TopLister) (p : ℕ) (origin : Point) (a : Around) (o : Option ListModel) → GivesNear ps tops → AreFit ps → pipeline_list ps p ≡ o → Reaches ps p origin → IsNearAround a
    → All (IsNearTop ps) (list_tops tops (option_map (placed p (pipeline_at ps p).moves origin) o) a)
list_tops_near ps tops p origin a None gives fit e reach h = All-nil (IsNearTop ps)
list_tops_near ps tops p origin a (Some l) gives fit e reach h =
    let can = list_can ps p origin l fit e reach in
    trees_near ps tops a (placed p (pipeline_at ps p).moves origin l) (told l.items) gives h (list_near ps p origin l fit e reach) can.fields can.reach

levels_near : (n : ℕ) (ps : PipelineMap) → AreFit ps → GivesNear ps (tops_in n ps)
unfolding tops_in
levels_near zero ps fit p origin a reach h = All-nil (IsNearTop ps)
levels_near (suc n) ps fit p origin a reach h = list_tops_near ps (tops_in n ps) p origin a (pipeline_list ps p) (levels_near n ps fit) fit refl reach h

-- ---- tops

pub unbroken : (o : _) (full : Bool) → first_limit o full ≡ None → o ≡ None
unbroken None full e = refl
unbroken (Some code) full e = absurd (none-some code (sym e))

pub scene_reaches : (scene : SceneModel) → IsScene scene → Reaches scene.pipelines 0 zero_point
scene_reaches scene is = ((no_fault scene.pipelines).0 (unbroken (scene_fault scene.pipelines) (is_full scene.store) is.limits)).reach

-- what holds of each top item of a scene
record IsSceneTop (ps : PipelineMap) (t : TopItem) : Type 0 where
  drawn : IsTopItem t
  homes : length (top_homes t) ≡ length (top_clips t)
  near : IsNearTop ps t

all_three : (ps : PipelineMap) (ts : List TopItem) → All IsTopItem ts → All (λ t. length (top_homes t) ≡ length (top_clips t)) ts → All (IsNearTop ps) ts → All (IsSceneTop ps) ts
all_three ps [] a b c = All-nil (IsSceneTop ps)
all_three ps (t ∷ ts) a b c =
    All-cons (IsSceneTop ps) t ts
    (record { drawn = All-head IsTopItem t ts a; homes = All-head (λ t. length (top_homes t) ≡ length (top_clips t)) t ts b; near = All-head (IsNearTop ps) t ts c })
    (all_three ps ts (All-tail IsTopItem t ts a) (All-tail (λ t. length (top_homes t) ≡ length (top_clips t)) t ts b) (All-tail (IsNearTop ps) t ts c))

scene_items : (scene : SceneModel) → IsScene scene → All (IsSceneTop scene.pipelines) (top_items scene.pipelines)
scene_items scene is =
    let ps = scene.pipelines in
    all_three ps (top_items ps) (tops_drawn (scene_pixel scene (pos 0) (pos 0)) (record { store = is.store; pipelines = is.fit })) (each_home ps)
    (levels_near 64 ps is.fit 0 zero_point nothing_around (scene_reaches scene is) (record { origin = zero_close; clips = All-nil (λ (c : Clip). IsCloseRect c.shape.rect) }))

top_is : (ps : PipelineMap) (store : StoreModel) (t : TopItem) → AreFit ps → IsSceneTop ps t → IsTop (top_of ps store t)
top_is ps store t fit is = record {
  whole = item_whole ps store t.list t.around.clips t.item is.drawn.drawn;
  homes = is.homes ∙ sym (ap (λ (cs : List Clip). length cs) (item_clips ps store t.list t.around.clips t.item is.drawn.drawn));
  origin = origin_close t.around t.list (node_of t.item) is.near.around is.near.list;
  close = tree_close ps (pipeline_entries ps store) store t.list t.around.clips t.item (levels_close 64 ps store fit) is.near.list is.near.around.clips is.near.fields is.near.reach;
}

pub scene_tops_are : (scene : SceneModel) → IsScene scene → AreTops (scene_tops scene)
scene_tops_are scene is =
    let ps = scene.pipelines in
    All-map IsTop (top_of ps scene.store) (top_items ps)
    (All-weaker (IsSceneTop ps) (λ (t : TopItem). IsTop (top_of ps scene.store t)) (λ t h. top_is ps scene.store t is.fit h) (top_items ps) (scene_items scene is))

pub tops_have_clips : TopsHaveTheirClips
tops_have_clips scene is =
    let ps = scene.pipelines in
    All-weaker (IsSceneTop ps) (λ (t : TopItem). first_clips (top_of ps scene.store t).entries ≡ top_clips t)
    (λ t h. item_clips ps scene.store t.list t.around.clips t.item h.drawn.drawn) (top_items ps) (scene_items scene is)
