-- The entries of a scene that breaks no limit nest as its items do, and are at most two for each item.
use Rattle.std.proofs.Common.{◌≡◌, ℕ, zero, suc, ◌+◌, ◌*◌, ◌<◌, ◌≤◌, Bool, true, false, max, ◌&&◌, ◌||◌, nat_lt, if◌then◌else◌, List, [], ◌∷◌, ◌++◌, length, map, Option, Some, None, refl, sym, ap, ap₂, subst, ◌∙◌, arith, append-nil, append_assoc, true≢false}
use Rattle.std.specs.Option.{option_map}
use Rattle.std.proofs.lemmas.Bool.{cases_lt, leb-true, leb-false}
use Rattle.std.proofs.lemmas.List.{map-append}
use Rattle.wr_geom.specs.declared.point.Point.{Point}
use Rattle.blend_rules.specs.declared.mode.Mode.{Mode}
use Rattle.clip_masks.specs.declared.clip.Clip.{Clip}
use Rattle.display_list.specs.ListModel.{ListModel}
use Rattle.display_list.specs.Levels.{totals_of}
use Rattle.display_list.specs.Trees.{Tree, solid, image, border, text, context, iframe, hit_area, Trees, none, more, told}
use Rattle.image_store.specs.StoreModel.{StoreModel}
use Rattle.list_summary.specs.Shown.{Shown, alone, within, under, chain_clip_count, shown_tree, shown_trees}
use Rattle.list_summary.specs.Totals.{greatest, total}
use Rattle.pipelines.specs.Table.{PipelineMap, pipeline_at, pipeline_list, AreFit}
use Rattle.primitives.specs.PrimitiveModel.{PrimitiveModel}
use Rattle.primitives.specs.declared.entry.Entry.{Entry}
use Rattle.primitives.specs.declared.entry.Entry.TheVariants as entry
use Rattle.primitives.specs.declared.entry.Top.{Top}
use Rattle.primitives.specs.Stacks.{is_shallow, IsRow}
use Rattle.primitives.specs.Tops.{top_entries}
use Rattle.primitives.proofs.Nesting.{rows_leave_room}
use Rattle.scene_limits.specs.Expanded.{shown_list, expanded}
use Rattle.scene_limits.specs.Limits.{goes_deep, is_large, scene_fault}
use Rattle.scene_limits.proofs.Enough.{items_of_each}
use Rattle.scene_limits.proofs.Within.{no_fault}
use Rattle.painter.specs.PlacedList.{PlacedList, item_rect, chain_clips, first_corner, iframe_clips, opacity_of, is_plain}
use Rattle.painter.specs.TopItems.{Around, TopItem, TopLister, around_iframe, nothing_around, top_item, tree_tops, trees_tops, list_tops, tops_in, top_items}
use Rattle.painter.proofs.Enough.{placed}
use Rattle.scene_limits.specs.Places.{zero_point}
use Rattle.scene_state.specs.SceneModel.{SceneModel}
use Rattle.scene_state.specs.Limits.{IsScene, is_full}
use Rattle.scene_flatten.specs.Entries.{EntryLister, push_entry, group_entries, tree_entries, trees_entries, list_entries, entries_in, pipeline_entries}
use Rattle.scene_flatten.specs.Tops.{top_of, scene_tops}
use Rattle.scene_flatten.specs.Laws.{TopsAreShallow, TopsHaveFewEntries}
use Rattle.scene_flatten.proofs.Wholes.{row-append}
use Rattle.scene_flatten.proofs.Flat.{unbroken}

-- how deep the deepest of some items is
abbrev depth : List Shown → ℕ
depth = greatest (λ s. s.nesting)

-- entries are primitives and whole groups, nest no deeper than items, and are at most two for each of them
record Suits (es : List Entry) (ss : List Shown) : Type 0 where
  row : IsRow es
  shallow : (room : ℕ) → depth ss ≤ room → is_shallow room es ≡ true
  few : length es ≤ 2 * length ss

suits_none : (ss : List Shown) → Suits [] ss
suits_none ss = record { row = IsRow.none; shallow = λ room h. refl; few = omega arith }

suits_one : (p : PrimitiveModel) (s : Shown) → Suits (entry.Primitive p ∷ []) (s ∷ [])
suits_one p s = record { row = IsRow.primitive p [] IsRow.none; shallow = λ room h. refl; few = omega arith }

and_both : (a b : Bool) → a ≡ true → b ≡ true → (a && b) ≡ true
and_both true true h k = refl
and_both true false h k = k
and_both false b h k = h

length-both : {A : Type 0} (xs ys : List A) → length (xs ++ ys) ≡ length xs + length ys
length-both [] ys = omega arith
length-both (x ∷ xs) ys = omega (arith, length-both xs ys)

depth-both : (ss ts : List Shown) → depth (ss ++ ts) ≡ max (depth ss) (depth ts)
depth-both [] ts = omega arith
depth-both (s ∷ ss) ts = omega (arith, depth-both ss ts)

suits_both : (es fs : List Entry) (ss ts : List Shown) → Suits es ss → Suits fs ts → Suits (es ++ fs) (ss ++ ts)
suits_both es fs ss ts h k = record {
  row = row-append es fs h.row k.row;
  shallow = λ room d.
      let deep = depth-both ss ts in
      rows_leave_room room es fs h.row
      ∙ and_both (is_shallow room es) (is_shallow room fs) (h.shallow room (omega (arith, d, deep))) (k.shallow room (omega (arith, d, deep)));
  few = omega (arith, h.few, k.few, length-both es fs, length-both ss ts);
}

-- the items of a context, with the context itself
abbrev in_context : Shown → List Shown → List Shown
in_context s ss = map (within 1) (s ∷ ss)

context_depth : (s : Shown) (ss : List Shown) → depth (in_context s ss) ≡ depth (s ∷ ss) + 1
context_depth s [] = omega arith
context_depth s (t ∷ ts) = omega (arith, context_depth t ts)

depth_inside : (k : ℕ) (ss : List Shown) → depth (map (under k) ss) ≡ depth ss
depth_inside k [] = refl
depth_inside k (s ∷ ss) = omega (arith, depth_inside k ss)

map-count : (f : Shown → Shown) (ss : List Shown) → length (map f ss) ≡ length ss
map-count f [] = refl
map-count f (s ∷ ss) = ap suc (map-count f ss)

suits_plain : (es : List Entry) (s : Shown) (ss : List Shown) → Suits es ss → Suits es (in_context s ss)
suits_plain es s ss h = record {
  row = h.row;
  shallow = λ room d. h.shallow room (omega (arith, d, context_depth s ss));
  few = omega (arith, h.few, map-count (within 1) (s ∷ ss));
}

group_shallow : (o : ℕ) (m : Mode) (clips : List Clip) (es : List Entry) (s : Shown) (ss : List Shown) → Suits es ss → (room : ℕ) → depth (in_context s ss) ≤ room
    → is_shallow room (group_entries (entry.Push o m clips) es) ≡ true
group_shallow o m clips es s ss h zero d = absurd (omega (arith, d, context_depth s ss))
group_shallow o m clips es s ss h (suc room) d =
    rows_leave_room room es (entry.Pop ∷ []) h.row
    ∙ and_both (is_shallow room es) true (h.shallow room (omega (arith, d, context_depth s ss))) refl

suits_group : (o : ℕ) (m : Mode) (clips : List Clip) (es : List Entry) (s : Shown) (ss : List Shown) → Suits es ss → Suits (group_entries (entry.Push o m clips) es) (in_context s ss)
suits_group o m clips es s ss h = record {
  row = IsRow.group o m clips es [] h.row IsRow.none;
  shallow = group_shallow o m clips es s ss h;
  few = omega (arith, h.few, map-count (within 1) (s ∷ ss), length-both es (entry.Pop ∷ []));
}

suits_inside : (es : List Entry) (s : Shown) (k : ℕ) (ss : List Shown) → Suits es ss → Suits es (s ∷ map (under k) ss)
suits_inside es s k ss h = record {
  row = h.row;
  shallow = λ room d. h.shallow room (omega (arith, d, depth_inside k ss));
  few = omega (arith, h.few, map-count (under k) ss);
}

either_suits : (b : Bool) (es fs : List Entry) (ss : List Shown) → Suits es ss → Suits fs ss → Suits (if b then es else fs) ss
either_suits true es fs ss h k = h
either_suits false es fs ss h k = k

-- ---- entries

-- what gives the entries of lists gives such as suit the items that they show
abbrev EntriesSuit : (ℕ → List Shown) → EntryLister → Type 0
EntriesSuit below entries = (p : ℕ) (origin : Point) (around : List Clip) → Suits (entries p origin around) (below p)

mutual
  tree_suits : (below : ℕ → List Shown) (counts : List ℕ) (entries : EntryLister) (store : StoreModel) (l : PlacedList) (around : List Clip) (t : Tree) → EntriesSuit below entries
      → Suits (tree_entries entries store l around t) (shown_tree below counts t)
  tree_suits below counts entries store l around (solid o px) h = suits_one _ _
  tree_suits below counts entries store l around (image o i u v) h = suits_one _ _
  tree_suits below counts entries store l around (border o w t r b le ra) h = suits_one _ _
  tree_suits below counts entries store l around (text o i px gs) h = suits_one _ _
  tree_suits below counts entries store l around (context p ts) h =
      let itself = alone (chain_clip_count counts p.chain) 0 in
      let inside = shown_trees below counts ts in
      either_suits (is_plain l p) (trees_entries entries store l around ts) (group_entries (push_entry l around p) (trees_entries entries store l [] ts)) (in_context itself inside)
      (suits_plain (trees_entries entries store l around ts) itself inside (trees_suit below counts entries store l around ts h))
      (suits_group (opacity_of l p) p.mode (around ++ chain_clips l p.chain) (trees_entries entries store l [] ts) itself inside (trees_suit below counts entries store l [] ts h))
  tree_suits below counts entries store l around (iframe o q) h =
      suits_inside (entries q (first_corner (item_rect l o)) (around ++ iframe_clips l o)) (alone (chain_clip_count counts o.chain) 0) (chain_clip_count counts o.chain + 1) (below q)
      (h q (first_corner (item_rect l o)) (around ++ iframe_clips l o))
  tree_suits below counts entries store l around (hit_area o i) h = suits_none _

  trees_suit : (below : ℕ → List Shown) (counts : List ℕ) (entries : EntryLister) (store : StoreModel) (l : PlacedList) (around : List Clip) (ts : Trees) → EntriesSuit below entries
      → Suits (trees_entries entries store l around ts) (shown_trees below counts ts)
  trees_suit below counts entries store l around none h = suits_none []
  trees_suit below counts entries store l around (more t ts) h =
      suits_both (tree_entries entries store l around t) (trees_entries entries store l around ts) (shown_tree below counts t) (shown_trees below counts ts)
      (tree_suits below counts entries store l around t h) (trees_suit below counts entries store l around ts h)

list_suits : (below : ℕ → List Shown) (entries : EntryLister) (store : StoreModel) (ps : PipelineMap) (p : ℕ) (origin : Point) (around : List Clip) (o : Option ListModel) → EntriesSuit below entries
    → Suits (list_entries entries store (option_map (placed p (pipeline_at ps p).moves origin) o) around) (shown_list below o)
list_suits below entries store ps p origin around None h = suits_none []
list_suits below entries store ps p origin around (Some l) h =
    trees_suit below (totals_of l.chains) entries store (placed p (pipeline_at ps p).moves origin l) around (told l.items) h

levels_suit : (n : ℕ) (ps : PipelineMap) (store : StoreModel) → AreFit ps → EntriesSuit (expanded 64 ps) (entries_in n ps store)
unfolding entries_in
levels_suit zero ps store fit p origin around = suits_none (expanded 64 ps p)
levels_suit (suc n) ps store fit p origin around =
    subst (Suits (list_entries (entries_in n ps store) store (option_map (placed p (pipeline_at ps p).moves origin) (pipeline_list ps p)) around)) (sym (items_of_each ps p fit))
    (list_suits (expanded 64 ps) (entries_in n ps store) store ps p origin around (pipeline_list ps p) (levels_suit n ps store fit))

-- ---- top items

-- the entries of top items, one after another
abbrev entries_of : PipelineMap → StoreModel → List TopItem → List Entry
entries_of ps store ts = top_entries (map (top_of ps store) ts)

entries_both : (ps : PipelineMap) (store : StoreModel) (xs ys : List TopItem) → entries_of ps store (xs ++ ys) ≡ entries_of ps store xs ++ entries_of ps store ys
entries_both ps store [] ys = refl
entries_both ps store (x ∷ xs) ys =
    ap (λ (es : List Entry). (top_of ps store x).entries ++ es) (entries_both ps store xs ys)
    ∙ sym (append_assoc (top_of ps store x).entries (entries_of ps store xs) (entries_of ps store ys))

-- what gives the top items of lists gives such as suit the items that they show
abbrev TopsSuit : PipelineMap → StoreModel → (ℕ → List Shown) → TopLister → Type 0
TopsSuit ps store below tops = (p : ℕ) (origin : Point) (a : Around) → Suits (entries_of ps store (tops p origin a)) (below p)

one_suits : (ps : PipelineMap) (store : StoreModel) (a : Around) (l : PlacedList) (t : Tree) (ss : List Shown) → Suits (tree_entries (pipeline_entries ps store) store l a.clips t) ss
    → Suits (entries_of ps store (top_item a l t)) ss
one_suits ps store a l t ss h = subst (λ (es : List Entry). Suits es ss) (sym (append-nil (tree_entries (pipeline_entries ps store) store l a.clips t))) h

either_tops : (ps : PipelineMap) (store : StoreModel) (b : Bool) (xs ys : List TopItem) (ss : List Shown) → Suits (entries_of ps store xs) ss → Suits (entries_of ps store ys) ss
    → Suits (entries_of ps store (if b then xs else ys)) ss
either_tops ps store true xs ys ss h k = h
either_tops ps store false xs ys ss h k = k

mutual
  tree_tops_suit : (ps : PipelineMap) (store : StoreModel) (below : ℕ → List Shown) (counts : List ℕ) (tops : TopLister) (a : Around) (l : PlacedList) (t : Tree) → EntriesSuit below (pipeline_entries ps store)
      → TopsSuit ps store below tops → Suits (entries_of ps store (tree_tops tops a l t)) (shown_tree below counts t)
  tree_tops_suit ps store below counts tops a l (solid o px) h k = one_suits ps store a l (solid o px) _ (tree_suits below counts (pipeline_entries ps store) store l a.clips (solid o px) h)
  tree_tops_suit ps store below counts tops a l (image o i u v) h k = one_suits ps store a l (image o i u v) _ (tree_suits below counts (pipeline_entries ps store) store l a.clips (image o i u v) h)
  tree_tops_suit ps store below counts tops a l (border o w t r b le ra) h k =
      one_suits ps store a l (border o w t r b le ra) _ (tree_suits below counts (pipeline_entries ps store) store l a.clips (border o w t r b le ra) h)
  tree_tops_suit ps store below counts tops a l (text o i px gs) h k = one_suits ps store a l (text o i px gs) _ (tree_suits below counts (pipeline_entries ps store) store l a.clips (text o i px gs) h)
  tree_tops_suit ps store below counts tops a l (context p ts) h k =
      let itself = alone (chain_clip_count counts p.chain) 0 in
      let inside = shown_trees below counts ts in
      either_tops ps store (is_plain l p) (trees_tops tops a l ts) (top_item a l (context p ts)) (in_context itself inside)
      (suits_plain (entries_of ps store (trees_tops tops a l ts)) itself inside (trees_tops_suit ps store below counts tops a l ts h k))
      (one_suits ps store a l (context p ts) (in_context itself inside) (tree_suits below counts (pipeline_entries ps store) store l a.clips (context p ts) h))
  tree_tops_suit ps store below counts tops a l (iframe o q) h k =
      suits_inside (entries_of ps store (tops q (first_corner (item_rect l o)) (around_iframe a l o))) (alone (chain_clip_count counts o.chain) 0) (chain_clip_count counts o.chain + 1) (below q)
      (k q (first_corner (item_rect l o)) (around_iframe a l o))
  tree_tops_suit ps store below counts tops a l (hit_area o i) h k = suits_none _

  trees_tops_suit : (ps : PipelineMap) (store : StoreModel) (below : ℕ → List Shown) (counts : List ℕ) (tops : TopLister) (a : Around) (l : PlacedList) (ts : Trees) → EntriesSuit below (pipeline_entries ps store)
      → TopsSuit ps store below tops → Suits (entries_of ps store (trees_tops tops a l ts)) (shown_trees below counts ts)
  trees_tops_suit ps store below counts tops a l none h k = suits_none []
  trees_tops_suit ps store below counts tops a l (more t ts) h k =
      subst (λ (es : List Entry). Suits es (shown_tree below counts t ++ shown_trees below counts ts)) (sym (entries_both ps store (tree_tops tops a l t) (trees_tops tops a l ts)))
      (suits_both (entries_of ps store (tree_tops tops a l t)) (entries_of ps store (trees_tops tops a l ts)) (shown_tree below counts t) (shown_trees below counts ts)
      (tree_tops_suit ps store below counts tops a l t h k) (trees_tops_suit ps store below counts tops a l ts h k))

list_tops_suit : (ps : PipelineMap) (store : StoreModel) (below : ℕ → List Shown) (tops : TopLister) (p : ℕ) (origin : Point) (a : Around) (o : Option ListModel) → EntriesSuit below (pipeline_entries ps store)
    → TopsSuit ps store below tops → Suits (entries_of ps store (list_tops tops (option_map (placed p (pipeline_at ps p).moves origin) o) a)) (shown_list below o)
list_tops_suit ps store below tops p origin a None h k = suits_none []
list_tops_suit ps store below tops p origin a (Some l) h k =
    trees_tops_suit ps store below (totals_of l.chains) tops a (placed p (pipeline_at ps p).moves origin l) (told l.items) h k

levels_tops_suit : (n : ℕ) (ps : PipelineMap) (store : StoreModel) → AreFit ps → TopsSuit ps store (expanded 64 ps) (tops_in n ps)
unfolding tops_in
levels_tops_suit zero ps store fit p origin a = suits_none (expanded 64 ps p)
levels_tops_suit (suc n) ps store fit p origin a =
    subst (Suits (entries_of ps store (list_tops (tops_in n ps) (option_map (placed p (pipeline_at ps p).moves origin) (pipeline_list ps p)) a))) (sym (items_of_each ps p fit))
    (list_tops_suit ps store (expanded 64 ps) (tops_in n ps) p origin a (pipeline_list ps p) (levels_suit 64 ps store fit) (levels_tops_suit n ps store fit))

-- ---- a scene

scene_suits : (scene : SceneModel) → IsScene scene → Suits (top_entries (scene_tops scene)) (expanded 64 scene.pipelines 0)
scene_suits scene is = levels_tops_suit 64 scene.pipelines scene.store is.fit 0 zero_point nothing_around

first_false : (a b : Bool) → (a || b) ≡ false → a ≡ false
first_false true b e = e
first_false false b e = refl

at_most : (n m : ℕ) → nat_lt n m ≡ false → m ≤ n
at_most n m e = omega (arith, leb-false (suc n) m e)

pub tops_are_shallow : TopsAreShallow
tops_are_shallow scene is =
    let ps = scene.pipelines in
    let within_limits = (no_fault ps).0 (unbroken (scene_fault ps) (is_full scene.store) is.limits) in
    let shown = expanded 64 ps 0 in
    (scene_suits scene is).shallow 64
    (at_most 64 (depth shown) (first_false (nat_lt 64 (depth shown)) (nat_lt 255 (greatest (λ s. s.clips) shown)) within_limits.depth))

pub tops_have_few_entries : TopsHaveFewEntries
tops_have_few_entries scene is =
    let ps = scene.pipelines in
    let within_limits = (no_fault ps).0 (unbroken (scene_fault ps) (is_full scene.store) is.limits) in
    let shown = expanded 64 ps 0 in
    let items = nat_lt 65536 (length shown) in
    let glyphs = nat_lt 1048576 (total (λ s. s.glyphs) shown) in
    let clips = nat_lt 1048576 (total (λ s. s.clips) shown) in
    omega (arith, (scene_suits scene is).few, at_most 65536 (length shown) (first_false items glyphs (first_false (items || glyphs) clips within_limits.size)))
