-- The entries of a scene use what is stored in it, and so do those of its slices.
use Rattle.std.proofs.Common.{ℕ, zero, suc, Bool, true, false, if◌then◌else◌, List, [], ◌∷◌, ◌++◌, map, length, Option, Some, None, option_map, refl}
use Rattle.std.specs.Prelude.{All}
use Rattle.std.proofs.lemmas.List.Elements.{All-nil, All-cons, All-head, All-tail, All-append, All-map, All-weaker}
use Rattle.wr_geom.specs.Bounds.{Bounds}
use Rattle.wr_geom.specs.declared.keys.SliceKey.{SliceKey}
use Rattle.wr_geom.specs.declared.point.Point.{Point}
use Rattle.clip_masks.specs.declared.clip.Clip.{Clip}
use Rattle.display_list.specs.declared.item.GlyphAt.{GlyphAt}
use Rattle.display_list.specs.Trees.{Tree, solid, image, border, text, context, iframe, hit_area, Trees, none, more, told}
use Rattle.image_store.specs.StoreModel.{StoreModel, image_at, glyph_at}
use Rattle.pipelines.specs.Table.{PipelineMap}
use Rattle.primitives.specs.declared.entry.Entry.{Entry}
use Rattle.primitives.specs.declared.entry.Entry.TheVariants as entry
use Rattle.primitives.specs.declared.entry.Top.{Top}
use Rattle.primitives.specs.declared.kind.GlyphUse.{GlyphUse}
use Rattle.primitives.specs.declared.kind.Kind.{Kind}
use Rattle.primitives.specs.declared.kind.Kind.TheVariants as kind
use Rattle.primitives.specs.Clipping.{without_clips}
use Rattle.primitives.specs.Moves.{shifted_glyph, shifted_kind, shifted_entry, shifted_entries}
use Rattle.slice_rules.specs.Keys.{slice_keys}
use Rattle.slice_rules.specs.Runs.{Run}
use Rattle.slice_rules.specs.Shared.{shared_clips}
use Rattle.painter.specs.Painter.{glyph_use}
use Rattle.painter.specs.PlacedList.{PlacedList, placed_at, node_point, item_rect, first_corner, iframe_clips, is_plain}
use Rattle.painter.specs.TopItems.{TopItem, top_items}
use Rattle.scene_flatten.specs.Entries.{EntryLister, push_entry, group_entries, tree_entries, trees_entries, list_entries, entries_in, pipeline_entries}
use Rattle.scene_flatten.specs.Tops.{top_of, scene_tops}
use Rattle.picture_slices.specs.Slices.{first_without, entries_without, origin_of, back_from, slice_entries, slice_of, keyed_slices, top_slices}
use Rattle.picture_slices.specs.TopClips.{clips_of_top}
use Rattle.picture_slices.specs.declared.slice.Slice.{Slice}
use Rattle.picture_slices.proofs.Keyed.{each_slice}
use Rattle.tile_records.specs.Right.{IsCurrentUse, IsCurrentKind}
use Rattle.kept_tiles.specs.Sound.{IsCurrent}
use Rattle.scene_slices.specs.Picture.{view_rect}
use Rattle.scene_resources.specs.Laws.{SlicesAreCurrent}

-- ---- items

-- a use with the generation that is stored, or with none where nothing is, is current
use_made : (stored : Option ℕ) → IsCurrentUse stored stored
use_made None = tt
use_made (Some g) = refl

module _ (store : StoreModel) where
  -- a glyph of a font of a pipeline uses what is stored
  abbrev IsGlyphCurrent : ℕ → ℕ → GlyphUse → Type 0
  IsGlyphCurrent p f g = IsCurrentUse g.generation (option_map (λ m. m.generation) (glyph_at store p f g.glyph))

  glyphs_made : (p f : ℕ) (at : Point) (gs : List GlyphAt) → All (IsGlyphCurrent p f) (map (glyph_use store p f at) gs)
  glyphs_made p f at [] = All-nil (IsGlyphCurrent p f)
  glyphs_made p f at (g ∷ gs) =
      All-cons (IsGlyphCurrent p f) (glyph_use store p f at g) (map (glyph_use store p f at) gs) (use_made (option_map (λ m. m.generation) (glyph_at store p f g.glyph))) (glyphs_made p f at gs)

  one_current : (e : Entry) → IsCurrent store e → All (IsCurrent store) (e ∷ [])
  one_current e h = All-cons (IsCurrent store) e [] h (All-nil (IsCurrent store))

  either_current : (b : Bool) (es fs : List Entry) → All (IsCurrent store) es → All (IsCurrent store) fs → All (IsCurrent store) (if b then es else fs)
  either_current true es fs h k = h
  either_current false es fs h k = k

  group_current : (l : PlacedList) (around : List Clip) (p : _) (es : List Entry) → All (IsCurrent store) es → All (IsCurrent store) (group_entries (push_entry l around p) es)
  group_current l around p es h =
      All-cons (IsCurrent store) (push_entry l around p) (es ++ entry.Pop ∷ []) tt (All-append (IsCurrent store) es (entry.Pop ∷ []) h (one_current entry.Pop tt))

  -- what gives the entries of lists gives such
  abbrev GivesCurrent : EntryLister → Type 0
  GivesCurrent entries = (p : ℕ) (origin : Point) (around : List Clip) → All (IsCurrent store) (entries p origin around)

  mutual
    tree_current : (entries : EntryLister) (l : PlacedList) (around : List Clip) (t : Tree) → GivesCurrent entries → All (IsCurrent store) (tree_entries entries store l around t)
    tree_current entries l around (solid o px) gives = one_current _ tt
    tree_current entries l around (image o i u v) gives = one_current _ (use_made (option_map (λ m. m.generation) (image_at store l.pipeline i)))
    tree_current entries l around (border o w t r b le ra) gives = one_current _ tt
    tree_current entries l around (text o i px gs) gives = one_current _ (glyphs_made l.pipeline i (node_point l o.node) gs)
    tree_current entries l around (context p ts) gives =
        either_current (is_plain l p) (trees_entries entries store l around ts) (group_entries (push_entry l around p) (trees_entries entries store l [] ts)) (trees_current entries l around ts gives)
        (group_current l around p (trees_entries entries store l [] ts) (trees_current entries l [] ts gives))
    tree_current entries l around (iframe o q) gives = gives q (first_corner (item_rect l o)) (around ++ iframe_clips l o)
    tree_current entries l around (hit_area o i) gives = All-nil (IsCurrent store)

    trees_current : (entries : EntryLister) (l : PlacedList) (around : List Clip) (ts : Trees) → GivesCurrent entries → All (IsCurrent store) (trees_entries entries store l around ts)
    trees_current entries l around none gives = All-nil (IsCurrent store)
    trees_current entries l around (more t ts) gives =
        All-append (IsCurrent store) (tree_entries entries store l around t) (trees_entries entries store l around ts) (tree_current entries l around t gives) (trees_current entries l around ts gives)

  list_current : (entries : EntryLister) (o : Option PlacedList) (around : List Clip) → GivesCurrent entries → All (IsCurrent store) (list_entries entries store o around)
  list_current entries None around gives = All-nil (IsCurrent store)
  list_current entries (Some l) around gives = trees_current entries l around (told l.list.items) gives

  levels_current : (n : ℕ) (pipelines : PipelineMap) → GivesCurrent (entries_in n pipelines store)
  unfolding entries_in
  levels_current zero pipelines p origin around = All-nil (IsCurrent store)
  levels_current (suc n) pipelines p origin around = list_current (entries_in n pipelines store) (placed_at pipelines p origin) around (levels_current n pipelines)

  -- ---- tops

  -- a top's entries use what is stored
  abbrev IsTopCurrent : Top → Type 0
  IsTopCurrent t = All (IsCurrent store) t.entries

  tops_current : (pipelines : PipelineMap) (ts : List TopItem) → All IsTopCurrent (map (top_of pipelines store) ts)
  tops_current pipelines [] = All-nil IsTopCurrent
  tops_current pipelines (t ∷ ts) =
      All-cons IsTopCurrent (top_of pipelines store t) (map (top_of pipelines store) ts)
      (tree_current (pipeline_entries pipelines store) t.list t.around.clips t.item (levels_current 64 pipelines)) (tops_current pipelines ts)

  -- ---- moved, and with fewer clips

  glyphs_moved : (p f : ℕ) (by : Point) (gs : List GlyphUse) → All (IsGlyphCurrent p f) gs → All (IsGlyphCurrent p f) (map (λ g. shifted_glyph g by) gs)
  glyphs_moved p f by [] h = All-nil (IsGlyphCurrent p f)
  glyphs_moved p f by (g ∷ gs) h =
      All-cons (IsGlyphCurrent p f) (shifted_glyph g by) (map (λ u. shifted_glyph u by) gs) (All-head (IsGlyphCurrent p f) g gs h) (glyphs_moved p f by gs (All-tail (IsGlyphCurrent p f) g gs h))

  kind_moved : (k : Kind) (by : Point) → IsCurrentKind store k → IsCurrentKind store (shifted_kind k by)
  kind_moved (kind.Solid colour) by h = tt
  kind_moved (kind.Image p key g u v) by h = h
  kind_moved (kind.Border widths top right bottom l radii) by h = tt
  kind_moved (kind.Text p f colour glyphs) by h = glyphs_moved p f by glyphs h

  entry_moved : (e : Entry) (by : Point) → IsCurrent store e → IsCurrent store (shifted_entry e by)
  entry_moved (entry.Primitive p) by h = kind_moved p.kind by h
  entry_moved (entry.Push opacity mode clips) by h = tt
  entry_moved entry.Pop by h = tt

  entries_moved : (es : List Entry) (by : Point) → All (IsCurrent store) es → All (IsCurrent store) (shifted_entries es by)
  entries_moved es by h =
      All-map (IsCurrent store) (λ (e : Entry). shifted_entry e by) es (All-weaker (IsCurrent store) (λ (e : Entry). IsCurrent store (shifted_entry e by)) (λ e own. entry_moved e by own) es h)

  entry_unclipped : (n : ℕ) (e : Entry) → IsCurrent store e → IsCurrent store (without_clips e n)
  entry_unclipped n (entry.Primitive p) h = h
  entry_unclipped n (entry.Push opacity mode clips) h = tt
  entry_unclipped n entry.Pop h = tt

  first_unclipped : (n : ℕ) (es : List Entry) → All (IsCurrent store) es → All (IsCurrent store) (first_without n es)
  first_unclipped n [] h = h
  first_unclipped n (e ∷ es) h = All-cons (IsCurrent store) (without_clips e n) es (entry_unclipped n e (All-head (IsCurrent store) e es h)) (All-tail (IsCurrent store) e es h)

  tops_unclipped : (n : ℕ) (ts : List Top) → All IsTopCurrent ts → All (IsCurrent store) (entries_without n ts)
  tops_unclipped n [] h = All-nil (IsCurrent store)
  tops_unclipped n (t ∷ ts) h =
      All-append (IsCurrent store) (first_without n t.entries) (entries_without n ts)
      (first_unclipped n t.entries (All-head IsTopCurrent t ts h)) (tops_unclipped n ts (All-tail IsTopCurrent t ts h))

  -- ---- slices

  abbrev IsRunCurrent : Run Top → Type 0
  IsRunCurrent r = All IsTopCurrent r.members

  abbrev IsSliceCurrent : Slice → Type 0
  IsSliceCurrent slice = All (IsCurrent store) slice.entries

  run_current : (r : Run Top) → IsRunCurrent r → All (IsCurrent store) (slice_entries r)
  run_current r h =
      let n = length (shared_clips clips_of_top r) in
      entries_moved (entries_without n r.members) (back_from (origin_of r.home r.members)) (tops_unclipped n r.members h)

  keyed_current : (view : Bounds) (ks : List SliceKey) (rs : List (Run Top)) → All IsRunCurrent rs → All IsSliceCurrent (keyed_slices view ks rs)
  keyed_current view [] rs h = All-nil IsSliceCurrent
  keyed_current view (k ∷ ks) [] h = All-nil IsSliceCurrent
  keyed_current view (k ∷ ks) (r ∷ rs) h =
      All-cons IsSliceCurrent (slice_of view k r) (keyed_slices view ks rs) (run_current r (All-head IsRunCurrent r rs h)) (keyed_current view ks rs (All-tail IsRunCurrent r rs h))

pub slices_are_current : SlicesAreCurrent
slices_are_current s =
    let rs = top_slices (scene_tops s) in
    keyed_current s.store (view_rect s) (slice_keys rs) rs (each_slice (IsTopCurrent s.store) (scene_tops s) (tops_current s.store s.pipelines (top_items s.pipelines)))
