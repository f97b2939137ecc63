-- The entries of items are primitives and whole groups, and those of a top item are one of them.
use Rattle.std.proofs.Common.{◌≡◌, ℕ, zero, suc, Bool, true, false, not, if◌then◌else◌, List, [], ◌∷◌, ◌++◌, Option, Some, None, refl, sym, ap, subst, append_assoc}
use Rattle.wr_geom.specs.declared.point.Point.{Point}
use Rattle.clip_masks.specs.declared.clip.Clip.{Clip}
use Rattle.display_list.specs.Trees.{Tree, solid, image, border, text, context, iframe, hit_area, Trees, none, more, told}
use Rattle.image_store.specs.StoreModel.{StoreModel}
use Rattle.pipelines.specs.Table.{PipelineMap}
use Rattle.primitives.specs.declared.entry.Entry.{Entry}
use Rattle.primitives.specs.declared.entry.Entry.TheVariants as entry
use Rattle.primitives.specs.Stacks.{IsRow}
use Rattle.primitives.specs.Tops.{IsWhole, first_clips}
use Rattle.painter.specs.PlacedList.{PlacedList, placed_at, item_rect, chain_clips, first_corner, iframe_clips, opacity_of, is_plain}
use Rattle.painter.specs.TopItems.{own_chain}
use Rattle.painter.specs.Laws.{is_drawn}
use Rattle.scene_flatten.specs.Entries.{EntryLister, push_entry, group_entries, tree_entries, trees_entries, list_entries, entries_in, pipeline_entries}
use Rattle.scene_flatten.specs.Laws.{ItemEntriesAreRows}

pub row-append : (es fs : List Entry) → IsRow es → IsRow fs → IsRow (es ++ fs)
row-append es fs IsRow.none k = k
row-append es fs (IsRow.primitive p gs h) k = IsRow.primitive p (gs ++ fs) (row-append gs fs h k)
row-append es fs (IsRow.group opacity mode clips gs hs g h) k =
    subst IsRow (sym (ap (λ (xs : List Entry). entry.Push opacity mode clips ∷ xs) (append_assoc gs (entry.Pop ∷ hs) fs)))
    (IsRow.group opacity mode clips gs (hs ++ fs) g (row-append hs fs h k))

-- what gives the entries of lists gives rows
abbrev GivesRows : EntryLister → Type 0
GivesRows entries = (p : ℕ) (origin : Point) (around : List Clip) → IsRow (entries p origin around)

either_row : (b : Bool) (es fs : List Entry) → IsRow es → IsRow fs → IsRow (if b then es else fs)
either_row true es fs h k = h
either_row false es fs h k = k

mutual
  tree_row : (entries : EntryLister) (store : StoreModel) (l : PlacedList) (around : List Clip) (t : Tree) → GivesRows entries → IsRow (tree_entries entries store l around t)
  tree_row entries store l around (solid o px) gives = IsRow.primitive _ [] IsRow.none
  tree_row entries store l around (image o i u v) gives = IsRow.primitive _ [] IsRow.none
  tree_row entries store l around (border o w t r b le ra) gives = IsRow.primitive _ [] IsRow.none
  tree_row entries store l around (text o i px gs) gives = IsRow.primitive _ [] IsRow.none
  tree_row entries store l around (context p ts) gives =
      either_row (is_plain l p) (trees_entries entries store l around ts) (group_entries (push_entry l around p) (trees_entries entries store l [] ts)) (trees_row entries store l around ts gives)
      (IsRow.group (opacity_of l p) p.mode (around ++ chain_clips l p.chain) (trees_entries entries store l [] ts) [] (trees_row entries store l [] ts gives) IsRow.none)
  tree_row entries store l around (iframe o q) gives = gives q (first_corner (item_rect l o)) (around ++ iframe_clips l o)
  tree_row entries store l around (hit_area o i) gives = IsRow.none

  trees_row : (entries : EntryLister) (store : StoreModel) (l : PlacedList) (around : List Clip) (ts : Trees) → GivesRows entries → IsRow (trees_entries entries store l around ts)
  trees_row entries store l around none gives = IsRow.none
  trees_row entries store l around (more t ts) gives =
      row-append (tree_entries entries store l around t) (trees_entries entries store l around ts) (tree_row entries store l around t gives) (trees_row entries store l around ts gives)

list_row : (entries : EntryLister) (store : StoreModel) (o : Option PlacedList) (around : List Clip) → GivesRows entries → IsRow (list_entries entries store o around)
list_row entries store None around gives = IsRow.none
list_row entries store (Some l) around gives = trees_row entries store l around (told l.list.items) gives

pub levels_row : (n : ℕ) (pipelines : PipelineMap) (store : StoreModel) → GivesRows (entries_in n pipelines store)
unfolding entries_in
levels_row zero pipelines store p origin around = IsRow.none
levels_row (suc n) pipelines store p origin around = list_row (entries_in n pipelines store) store (placed_at pipelines p origin) around (levels_row n pipelines store)

pub item_rows : ItemEntriesAreRows
item_rows s l around t = tree_row (pipeline_entries s.pipelines s.store) s.store l around t (levels_row 64 s.pipelines s.store)

-- ---- a top item

drawn_group : (b : Bool) (es fs : List Entry) → not b ≡ true → IsWhole fs → IsWhole (if b then es else fs)
drawn_group true es fs e h = absurd cc
drawn_group false es fs e h = h

-- an item that is drawn by itself is one primitive or one group
pub item_whole : (pipelines : PipelineMap) (store : StoreModel) (l : PlacedList) (around : List Clip) (t : Tree) → is_drawn l t ≡ true
    → IsWhole (tree_entries (pipeline_entries pipelines store) store l around t)
item_whole pipelines store l around (solid o px) e = IsWhole.primitive _
item_whole pipelines store l around (image o i u v) e = IsWhole.primitive _
item_whole pipelines store l around (border o w t r b le ra) e = IsWhole.primitive _
item_whole pipelines store l around (text o i px gs) e = IsWhole.primitive _
item_whole pipelines store l around (context p ts) e =
    let inside = trees_entries (pipeline_entries pipelines store) store l [] ts in
    drawn_group (is_plain l p) (trees_entries (pipeline_entries pipelines store) store l around ts) (group_entries (push_entry l around p) inside) e
    (IsWhole.group (opacity_of l p) p.mode (around ++ chain_clips l p.chain) inside (trees_row (pipeline_entries pipelines store) store l [] ts (levels_row 64 pipelines store)))
item_whole pipelines store l around (iframe o q) e = absurd cc
item_whole pipelines store l around (hit_area o i) e = absurd cc

drawn_clips : (b : Bool) (es fs : List Entry) (clips : List Clip) → not b ≡ true → first_clips fs ≡ clips → first_clips (if b then es else fs) ≡ clips
drawn_clips true es fs clips e h = absurd cc
drawn_clips false es fs clips e h = h

-- and its first entry has the clips around it and its own
pub item_clips : (pipelines : PipelineMap) (store : StoreModel) (l : PlacedList) (around : List Clip) (t : Tree) → is_drawn l t ≡ true
    → first_clips (tree_entries (pipeline_entries pipelines store) store l around t) ≡ around ++ chain_clips l (own_chain t)
item_clips pipelines store l around (solid o px) e = refl
item_clips pipelines store l around (image o i u v) e = refl
item_clips pipelines store l around (border o w t r b le ra) e = refl
item_clips pipelines store l around (text o i px gs) e = refl
item_clips pipelines store l around (context p ts) e =
    let entries = pipeline_entries pipelines store in
    drawn_clips (is_plain l p) (trees_entries entries store l around ts) (group_entries (push_entry l around p) (trees_entries entries store l [] ts)) (around ++ chain_clips l p.chain) e refl
item_clips pipelines store l around (iframe o q) e = absurd cc
item_clips pipelines store l around (hit_area o i) e = absurd cc
