-- Entries that run over a stack give what the painter gives.
use Rattle.std.proofs.Common.{◌≡◌, ℕ, zero, suc, Bool, true, false, if◌then◌else◌, List, [], ◌∷◌, ◌++◌, map, Option, Some, None, refl, ap, ◌∙◌}
use Rattle.wr_geom.specs.declared.point.Point.{Point}
use Rattle.blend_rules.specs.declared.colour.Px.{Px}
use Rattle.blend_rules.specs.declared.mode.Mode.TheVariants.{Normal}
use Rattle.blend_rules.specs.Colour.{clear, scaled, blended}
use Rattle.clip_masks.specs.declared.clip.Clip.{Clip}
use Rattle.clip_masks.proofs.Chains.{chain_none, chain-append}
use Rattle.display_list.specs.declared.item.Spot.{Spot}
use Rattle.display_list.specs.declared.token.Push.{Push}
use Rattle.display_list.specs.Trees.{Tree, solid, image, border, text, context, iframe, hit_area, Trees, none, more, told}
use Rattle.primitives.specs.declared.kind.Kind.{Kind}
use Rattle.primitives.specs.declared.kind.Kind.TheVariants as kind
use Rattle.primitives.specs.declared.entry.Entry.{Entry}
use Rattle.primitives.specs.declared.entry.Entry.TheVariants as entry
use Rattle.primitives.specs.Colours.{primitive_colour, covered_colour}
use Rattle.primitives.specs.Stacks.{Group, Stack, group_over_backdrop, after_pop, step, run}
use Rattle.primitives.specs.Tops.{top_entries}
use Rattle.primitives.proofs.Runs.{runs_in_parts}
use Rattle.painter.specs.PlacedList.{PlacedList, placed_at, item_rect, chain_clips, first_corner, iframe_clips, opacity_of, is_plain}
use Rattle.painter.specs.Painter.{ScenePixel, ListPainter, image_kind, text_kind, primitive_of, under, paint_primitive, paint_group, paint_tree, paint_trees, paint_list, paint_levels, paint_pipeline}
use Rattle.painter.specs.TopItems.{top_items, paint_top}
use Rattle.painter.proofs.TopColours.{tops_paint}
use Rattle.scene_flatten.specs.Entries.{EntryLister, primitive_entry, push_entry, group_entries, tree_entries, trees_entries, list_entries, entries_in, pipeline_entries}
use Rattle.scene_flatten.specs.Tops.{top_of}
use Rattle.scene_flatten.specs.Laws.{over, scene_pixel, ItemEntriesPaint, PipelineEntriesPaint, TopPaintsItsItem, TopsPaintTheirItems, TopsPaintTheRoot}

-- what gives the entries of lists gives such that paint what a painter of lists gives
abbrev ListsPaint : ScenePixel → EntryLister → ListPainter → Type 0
ListsPaint s entries painter =
    (p : ℕ) (origin : Point) (around : List Clip) (st : Stack) → run s.store s.x s.y (entries p origin around) st ≡ over (painter p origin (under s around 255)) st

-- ---- primitives and groups

primitive_paints : (s : ScenePixel) (l : PlacedList) (around : List Clip) (spot : Spot) (shown : Kind) (st : Stack)
    → step s.store s.x s.y (primitive_entry l around spot shown) st ≡ over (paint_primitive s (primitive_of l spot shown) (under s around 255)) st
unfolding primitive_colour covered_colour
primitive_paints s l around spot shown st =
    ap (λ (c : ℕ). (let t : Stack = record { top = blended Normal (scaled (primitive_colour s.store (primitive_of l spot shown) s.x s.y) c) st.top; groups = st.groups } in t))
    (chain-append around (chain_clips l spot.chain) 255 s.x s.y)

-- the group that a Push opens
abbrev opened_group : ScenePixel → PlacedList → List Clip → Push → Px → Group
opened_group s l around push backdrop = record { backdrop = backdrop; opacity = opacity_of l push; mode = push.mode; cover = under s (around ++ chain_clips l push.chain) 255 }

group_ends : (s : ScenePixel) (l : PlacedList) (around : List Clip) (push : Push) (colour : Px) (st : Stack)
    → after_pop colour (opened_group s l around push st.top ∷ st.groups) ≡ over (paint_group s l push colour (under s around 255)) st
unfolding group_over_backdrop
group_ends s l around push colour st =
    ap (λ (c : ℕ). (let t : Stack = record { top = blended push.mode (scaled (scaled colour (opacity_of l push)) c) st.top; groups = st.groups } in t))
    (chain-append around (chain_clips l push.chain) 255 s.x s.y)

-- entries in a group that paint the same from clear
group_paints : (s : ScenePixel) (l : PlacedList) (around : List Clip) (push : Push) (es : List Entry) (paint : ℕ → Px → Px) (st : Stack)
    → ((below : Stack) → run s.store s.x s.y es below ≡ over (paint (under s [] 255)) below)
    → run s.store s.x s.y (group_entries (push_entry l around push) es) st ≡ over (paint_group s l push (paint 255 clear) (under s around 255)) st
group_paints s l around push es paint st h =
    let inside : Stack = record { top = clear; groups = opened_group s l around push st.top ∷ st.groups } in
    runs_in_parts s.store s.x s.y es (entry.Pop ∷ []) inside
    ∙ ap (run s.store s.x s.y (entry.Pop ∷ [])) (h inside)
    ∙ ap (λ (c : ℕ). after_pop (paint c clear) inside.groups) (chain_none 255 s.x s.y)
    ∙ group_ends s l around push (paint 255 clear) st

either_paints : (s : ScenePixel) (b : Bool) (es fs : List Entry) (f g : Px → Px) (st : Stack) → run s.store s.x s.y es st ≡ over f st → run s.store s.x s.y fs st ≡ over g st
    → run s.store s.x s.y (if b then es else fs) st ≡ over (λ c. if b then f c else g c) st
either_paints s true es fs f g st h k = h
either_paints s false es fs f g st h k = k

-- ---- items

mutual
  tree_run : (entries : EntryLister) (painter : ListPainter) (s : ScenePixel) (l : PlacedList) (around : List Clip) (t : Tree) (st : Stack) → ListsPaint s entries painter
      → run s.store s.x s.y (tree_entries entries s.store l around t) st ≡ over (paint_tree painter s l t (under s around 255)) st
  tree_run entries painter s l around (solid o px) st h = primitive_paints s l around o (kind.Solid px) st
  tree_run entries painter s l around (image o i u v) st h = primitive_paints s l around o (image_kind s.store l i u v) st
  tree_run entries painter s l around (border o w t r b le ra) st h = primitive_paints s l around o (kind.Border w t r b le ra) st
  tree_run entries painter s l around (text o i px gs) st h = primitive_paints s l around o (text_kind s.store l o.node i px gs) st
  tree_run entries painter s l around (context p ts) st h =
      let cover = under s around 255 in
      either_paints s (is_plain l p) (trees_entries entries s.store l around ts) (group_entries (push_entry l around p) (trees_entries entries s.store l [] ts))
      (paint_trees painter s l ts cover) (paint_group s l p (paint_trees painter s l ts 255 clear) cover) st (trees_run entries painter s l around ts st h)
      (group_paints s l around p (trees_entries entries s.store l [] ts) (paint_trees painter s l ts) st (λ below. trees_run entries painter s l [] ts below h))
  tree_run entries painter s l around (iframe o q) st h =
      h q (first_corner (item_rect l o)) (around ++ iframe_clips l o) st
      ∙ ap (λ (c : ℕ). over (painter q (first_corner (item_rect l o)) c) st) (chain-append around (iframe_clips l o) 255 s.x s.y)
  tree_run entries painter s l around (hit_area o i) st h = refl

  trees_run : (entries : EntryLister) (painter : ListPainter) (s : ScenePixel) (l : PlacedList) (around : List Clip) (ts : Trees) (st : Stack) → ListsPaint s entries painter
      → run s.store s.x s.y (trees_entries entries s.store l around ts) st ≡ over (paint_trees painter s l ts (under s around 255)) st
  trees_run entries painter s l around none st h = refl
  trees_run entries painter s l around (more t ts) st h =
      let cover = under s around 255 in
      runs_in_parts s.store s.x s.y (tree_entries entries s.store l around t) (trees_entries entries s.store l around ts) st
      ∙ ap (run s.store s.x s.y (trees_entries entries s.store l around ts)) (tree_run entries painter s l around t st h)
      ∙ trees_run entries painter s l around ts (over (paint_tree painter s l t cover) st) h

-- ---- pipelines

list_run : (entries : EntryLister) (painter : ListPainter) (s : ScenePixel) (o : Option PlacedList) (around : List Clip) (st : Stack) → ListsPaint s entries painter
    → run s.store s.x s.y (list_entries entries s.store o around) st ≡ over (paint_list painter s o (under s around 255)) st
list_run entries painter s None around st h = refl
list_run entries painter s (Some l) around st h = trees_run entries painter s l around (told l.list.items) st h

levels_run : (n : ℕ) (s : ScenePixel) → ListsPaint s (entries_in n s.pipelines s.store) (paint_levels n s)
unfolding entries_in paint_levels
levels_run zero s p origin around st = refl
levels_run (suc n) s p origin around st = list_run (entries_in n s.pipelines s.store) (paint_levels n s) s (placed_at s.pipelines p origin) around st (levels_run n s)

pub item_entries_paint : ItemEntriesPaint
item_entries_paint s l around t st = tree_run (pipeline_entries s.pipelines s.store) (paint_pipeline s) s l around t st (levels_run 64 s)

pub pipeline_entries_paint : PipelineEntriesPaint
pipeline_entries_paint s p origin around st = levels_run 64 s p origin around st

-- ---- top items

pub top_paints : TopPaintsItsItem
top_paints s t st = item_entries_paint s t.list t.around.clips t.item st

pub tops_paint_items : TopsPaintTheirItems
tops_paint_items s [] st = refl
tops_paint_items s (t ∷ ts) st =
    let tops = map (top_of s.pipelines s.store) ts in
    runs_in_parts s.store s.x s.y (top_of s.pipelines s.store t).entries (top_entries tops) st
    ∙ ap (run s.store s.x s.y (top_entries tops)) (top_paints s t st)
    ∙ tops_paint_items s ts (over (paint_top s t) st)

pub tops_paint_root : TopsPaintTheRoot
tops_paint_root scene x y st is =
    let s = scene_pixel scene x y in
    tops_paint_items s (top_items s.pipelines) st
    ∙ ap (λ (c : Px). (let t : Stack = record { top = c; groups = st.groups } in t)) (tops_paint s st.top is.fit)
