-- 64 levels of pipelines are enough for entries.
use Rattle.std.proofs.Common.{◌≡◌, ℕ, zero, suc, ◌+◌, ◌<◌, ◌≤◌, List, [], ◌++◌, length, if◌then◌else◌, Option, Some, None, refl, ap₂, ◌∙◌, arith}
use Rattle.std.specs.Option.{option_map}
use Rattle.wr_geom.specs.declared.point.Point.{Point}
use Rattle.clip_masks.specs.declared.clip.Clip.{Clip}
use Rattle.display_list.specs.ListModel.{ListModel}
use Rattle.display_list.specs.Trees.{Tree, solid, image, border, text, context, iframe, hit_area, Trees, none, more, told, IsTree, AreTrees, TreeNamesAbove, TreesNameAbove}
use Rattle.display_list.proofs.TreeFacts.{list_trees, fits_trees}
use Rattle.image_store.specs.StoreModel.{StoreModel}
use Rattle.spatial_tree.specs.Moves.{MovesModel}
use Rattle.pipelines.specs.Table.{PipelineMap, pipeline_list, pipeline_at, IsListOf, AreFit}
use Rattle.primitives.specs.declared.entry.Entry.{Entry}
use Rattle.painter.specs.PlacedList.{PlacedList, placed_at, item_rect, first_corner, iframe_clips, is_plain}
use Rattle.painter.proofs.Enough.{placed}
use Rattle.scene_flatten.specs.Entries.{EntryLister, push_entry, group_entries, tree_entries, trees_entries, list_entries, entries_in, pipeline_entries}

-- what two list alike, of the pipelines above one
abbrev SameEntries : ℕ → EntryLister → EntryLister → Type 0
SameEntries own f g = (q : ℕ) (o : Point) (around : List Clip) → own < q → q ≤ 63 → f q o around ≡ g q o around

mutual
  same_tree : (f g : EntryLister) (own n k : ℕ) (store : StoreModel) (l : PlacedList) (around : List Clip) (t : Tree) → SameEntries own f g → IsTree n k t → TreeNamesAbove own t
      → tree_entries f store l around t ≡ tree_entries g store l around t
  same_tree f g own n k store l around (solid o px) h is above = refl
  same_tree f g own n k store l around (image o i u v) h is above = refl
  same_tree f g own n k store l around (border o w t r b le ra) h is above = refl
  same_tree f g own n k store l around (text o i px gs) h is above = refl
  same_tree f g own n k store l around (context p ts) h is above =
      ap₂ (λ (xs ys : List Entry). if is_plain l p then xs else group_entries (push_entry l around p) ys) (same_trees f g own n k store l around ts h is.1 above) (same_trees f g own n k store l [] ts h is.1 above)
  same_tree f g own n k store l around (iframe o q) h is above = h q (first_corner (item_rect l o)) (around ++ iframe_clips l o) above is.1
  same_tree f g own n k store l around (hit_area o i) h is above = refl

  same_trees : (f g : EntryLister) (own n k : ℕ) (store : StoreModel) (l : PlacedList) (around : List Clip) (ts : Trees) → SameEntries own f g → AreTrees n k ts → TreesNameAbove own ts
      → trees_entries f store l around ts ≡ trees_entries g store l around ts
  same_trees f g own n k store l around none h are above = refl
  same_trees f g own n k store l around (more t ts) h are above =
      ap₂ (λ (xs ys : List Entry). xs ++ ys) (same_tree f g own n k store l around t h are.0 above.0) (same_trees f g own n k store l around ts h are.1 above.1)

same_list : (f g : EntryLister) (p : ℕ) (store : StoreModel) (moves : MovesModel) (origin : Point) (around : List Clip) (o : Option ListModel) → SameEntries p f g → ((l : ListModel) → o ≡ Some l → IsListOf p l)
    → list_entries f store (option_map (placed p moves origin) o) around ≡ list_entries g store (option_map (placed p moves origin) o) around
same_list f g p store moves origin around None h is = refl
same_list f g p store moves origin around (Some l) h is =
    let i = is l refl in
    same_trees f g p (length l.nodes + 1) (length l.chains) store (placed p moves origin l) around (told l.items) h (list_trees l i.list) (fits_trees p l i.list i.fits)

-- with enough levels for the pipelines from p on
enough : (m n : ℕ) (ps : PipelineMap) (store : StoreModel) (p : ℕ) (origin : Point) (around : List Clip) → AreFit ps → p < 64 → 64 ≤ m + p → 64 ≤ n + p
    → entries_in m ps store p origin around ≡ entries_in n ps store p origin around
unfolding entries_in
enough zero n ps store p origin around fit low h k = absurd (omega arith)
enough (suc m) zero ps store p origin around fit low h k = absurd (omega arith)
enough (suc m) (suc n) ps store p origin around fit low h k =
    same_list (entries_in m ps store) (entries_in n ps store) p store (pipeline_at ps p).moves origin around (pipeline_list ps p)
    (λ q o b up last. enough m n ps store q o b fit (omega (arith, last)) (omega (arith, up)) (omega (arith, up)))
    (λ l e. fit.each p l e)

entries_step : (n : ℕ) (ps : PipelineMap) (store : StoreModel) (p : ℕ) (origin : Point) (around : List Clip) → entries_in (suc n) ps store p origin around ≡ list_entries (entries_in n ps store) store (placed_at ps p origin) around
unfolding entries_in
entries_step n ps store p origin around = refl

-- the entries of a list are those of the pipelines that its Iframes name among its own
pub entries_each : (ps : PipelineMap) (store : StoreModel) (p : ℕ) (origin : Point) (around : List Clip) → AreFit ps
    → pipeline_entries ps store p origin around ≡ list_entries (pipeline_entries ps store) store (placed_at ps p origin) around
entries_each ps store p origin around fit =
    entries_step 63 ps store p origin around
    ∙ same_list (entries_in 63 ps store) (entries_in 64 ps store) p store (pipeline_at ps p).moves origin around (pipeline_list ps p)
    (λ q o b up last. enough 63 64 ps store q o b fit (omega (arith, last)) (omega (arith, up)) (omega (arith, up)))
    (λ l e. fit.each p l e)
