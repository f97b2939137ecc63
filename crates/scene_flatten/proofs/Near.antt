-- The entries of a scene that breaks no limit are close to the point (0, 0).
use Rattle.std.proofs.Common.{◌≡◌, ℕ, zero, suc, ◌+◌, ◌<◌, ◌^◌, ℤ, ◌+ℤ◌, Bool, true, false, if◌then◌else◌, List, [], ◌∷◌, ◌++◌, length, map, Option, Some, None, refl, arith}
use Rattle.std.specs.Prelude.{All}
use Rattle.std.specs.Option.{option_map}
use Rattle.std.proofs.lemmas.Int.{ints}
use Rattle.std.proofs.lemmas.List.Elements.{All-nil, All-cons, All-append, All-map, All-weaker}
use Rattle.wr_geom.specs.Bounds.{Bounds, shifted}
use Rattle.wr_geom.specs.declared.point.Point.{Point}
use Rattle.clip_masks.specs.Clips.{rect_clip}
use Rattle.clip_masks.specs.declared.clip.Clip.{Clip}
use Rattle.field_forms.specs.Facts.{IsNear, IsRectangle}
use Rattle.display_list.specs.declared.item.Spot.{Spot}
use Rattle.display_list.specs.declared.item.GlyphAt.{GlyphAt}
use Rattle.display_list.specs.declared.node.ClipDef.{ClipDef}
use Rattle.display_list.specs.Facts.{IsClip, IsGlyph, IsSpot}
use Rattle.display_list.specs.ListModel.{ListModel}
use Rattle.display_list.specs.Trees.{Tree, solid, image, border, text, context, iframe, hit_area, Trees, none, more, told, IsTree, AreTrees}
use Rattle.image_store.specs.StoreModel.{StoreModel}
use Rattle.spatial_tree.specs.Lineage.{clips_of}
use Rattle.spatial_tree.specs.Offsets.{IsWithin}
use Rattle.spatial_tree.proofs.Chains.{clips_are}
use Rattle.clip_tree.specs.Placed.{placed_clip, placed_clips}
use Rattle.pipelines.specs.Table.{PipelineMap, pipeline_at, pipeline_list, AreFit}
use Rattle.primitives.specs.declared.kind.Kind.{Kind}
use Rattle.primitives.specs.declared.kind.Kind.TheVariants as kind
use Rattle.primitives.specs.declared.entry.Entry.{Entry}
use Rattle.primitives.specs.declared.entry.Entry.TheVariants as entry
use Rattle.primitives.specs.Tops.{IsWithinPixels, IsSliceOrigin, IsCloseRect, IsCloseGlyph, IsCloseKind, AreCloseClips, IsCloseEntry}
use Rattle.painter.specs.PlacedList.{PlacedList, node_point, item_rect, chain_clips, first_corner, iframe_clips, is_plain}
use Rattle.painter.specs.Painter.{glyph_use, image_kind, text_kind}
use Rattle.painter.specs.Facts.{Reaches, TreeReaches, TreesReach}
use Rattle.painter.proofs.Enough.{placed}
use Rattle.painter.proofs.Reaching.{list_placed, list_can}
use Rattle.scene_flatten.specs.Entries.{EntryLister, primitive_entry, push_entry, group_entries, tree_entries, trees_entries, list_entries, entries_in}
use Rattle.scene_flatten.specs.Facts.{IsNearList}

-- ---- points, rectangles and glyphs

pub point_close : (p : Point) → IsWithin (2 ^ 27) p → IsSliceOrigin p
point_close p w = record { across = record { low = w.left; high = w.right }; down = record { low = w.top; high = w.bottom } }

-- a near coordinate that is moved by one in reach
axis_close : (z d : ℤ) → IsNear z → IsWithinPixels (2 ^ 27) d → IsWithinPixels (2 ^ 28) (z +ℤ d)
axis_close z d near w = record { low = omega (arith, ints, near.low, w.low); high = omega (arith, ints, near.high, w.high) }

axis_close_before : (d z : ℤ) → IsWithinPixels (2 ^ 27) d → IsNear z → IsWithinPixels (2 ^ 28) (d +ℤ z)
axis_close_before d z w near = record { low = omega (arith, ints, near.low, w.low); high = omega (arith, ints, near.high, w.high) }

rect_close : (b : Bounds) (p : Point) → IsRectangle b → IsWithin (2 ^ 27) p → IsCloseRect (shifted b p)
rect_close b p is w =
    let at = point_close p w in
    record {
      left = axis_close b.x0 p.x is.left at.across;
      top = axis_close b.y0 p.y is.top at.down;
      right = axis_close b.x1 p.x is.right at.across;
      bottom = axis_close b.y1 p.y is.bottom at.down;
    }

glyph_close : (store : StoreModel) (pipeline font : ℕ) (p : Point) (g : GlyphAt) → IsWithin (2 ^ 27) p → IsGlyph g → IsCloseGlyph (glyph_use store pipeline font p g)
glyph_close store pipeline font p g w is =
    let at = point_close p w in
    record { across = axis_close_before p.x g.x at.across is.x; down = axis_close_before p.y g.y at.down is.y }

-- ---- a list

pub node_within : (l : PlacedList) (node : ℕ) → IsNearList l → node < length l.list.nodes + 1 → IsWithin (2 ^ 27) (node_point l node)
node_within l node near lt = near.placed.nodes node (omega (arith, lt))

item_close : (l : PlacedList) (spot : Spot) → IsNearList l → IsSpot (length l.list.nodes + 1) (length l.list.chains) spot → IsCloseRect (item_rect l spot)
item_close l spot near is = rect_close spot.rect (node_point l spot.node) is.rect (node_within l spot.node near is.node.defined)

chain_close : (l : PlacedList) (chain : Option ℕ) → IsNearList l → AreCloseClips (chain_clips l chain)
unfolding placed_clips
chain_close l chain near =
    let clips = clips_of l.list chain in
    let put = placed_clip (node_point l) in
    All-map (λ (c : Clip). IsCloseRect c.shape.rect) put clips
    (All-weaker (IsClip (length l.list.nodes + 1)) (λ (c : ClipDef). IsCloseRect (put c).shape.rect)
    (λ c is. rect_close c.rect (node_point l c.node) is.rect (node_within l c.node near is.node.defined)) clips (clips_are l.list chain near.list))

close_both : (cs ds : List Clip) → AreCloseClips cs → AreCloseClips ds → AreCloseClips (cs ++ ds)
close_both cs ds h k = All-append (λ (c : Clip). IsCloseRect c.shape.rect) cs ds h k

pub close_after : (l : PlacedList) (around : List Clip) (chain : Option ℕ) → IsNearList l → AreCloseClips around → AreCloseClips (around ++ chain_clips l chain)
close_after l around chain near close = close_both around (chain_clips l chain) close (chain_close l chain near)

pub close_inside : (l : PlacedList) (around : List Clip) (spot : Spot) → IsNearList l → AreCloseClips around → IsSpot (length l.list.nodes + 1) (length l.list.chains) spot → AreCloseClips (around ++ iframe_clips l spot)
close_inside l around spot near close is =
    let last : List Clip = rect_clip (item_rect l spot) ∷ [] in
    let one : AreCloseClips last = All-cons (λ (c : Clip). IsCloseRect c.shape.rect) (rect_clip (item_rect l spot)) [] (item_close l spot near is) (All-nil (λ (c : Clip). IsCloseRect c.shape.rect)) in
    close_both around (iframe_clips l spot) close (close_both (chain_clips l spot.chain) last (chain_close l spot.chain near) one)

-- ---- entries

primitive_close : (l : PlacedList) (around : List Clip) (spot : Spot) (shown : Kind) → IsNearList l → AreCloseClips around → IsSpot (length l.list.nodes + 1) (length l.list.chains) spot → IsCloseKind shown
    → All IsCloseEntry (primitive_entry l around spot shown ∷ [])
primitive_close l around spot shown near close is k =
    All-cons IsCloseEntry (primitive_entry l around spot shown) [] (record { rect = item_close l spot near is; kind = k; clips = close_after l around spot.chain near close }) (All-nil IsCloseEntry)

text_close : (store : StoreModel) (l : PlacedList) (spot : Spot) (font : ℕ) (gs : List GlyphAt) → IsNearList l → IsSpot (length l.list.nodes + 1) (length l.list.chains) spot → All IsGlyph gs
    → All IsCloseGlyph (map (glyph_use store l.pipeline font (node_point l spot.node)) gs)
text_close store l spot font gs near is glyphs =
    let put = glyph_use store l.pipeline font (node_point l spot.node) in
    All-map IsCloseGlyph put gs
    (All-weaker IsGlyph (λ (g : GlyphAt). IsCloseGlyph (put g)) (λ g h. glyph_close store l.pipeline font (node_point l spot.node) g (node_within l spot.node near is.node.defined) h) gs glyphs)

group_close : (push : Entry) (es : List Entry) → IsCloseEntry push → All IsCloseEntry es → All IsCloseEntry (group_entries push es)
group_close push es h k =
    let last : All IsCloseEntry (entry.Pop ∷ []) = All-cons IsCloseEntry entry.Pop [] tt (All-nil IsCloseEntry) in
    All-cons IsCloseEntry push (es ++ entry.Pop ∷ []) h (All-append IsCloseEntry es (entry.Pop ∷ []) k last)

-- what gives the entries of lists gives close ones
abbrev GivesClose : PipelineMap → EntryLister → Type 0
GivesClose ps entries = (p : ℕ) (origin : Point) (around : List Clip) → Reaches ps p origin → AreCloseClips around → All IsCloseEntry (entries p origin around)

either_close : (b : Bool) (es fs : List Entry) → All IsCloseEntry es → All IsCloseEntry fs → All IsCloseEntry (if b then es else fs)
either_close true es fs h k = h
either_close false es fs h k = k

no_clips : AreCloseClips []
no_clips = All-nil (λ (c : Clip). IsCloseRect c.shape.rect)

mutual
  pub tree_close : (ps : PipelineMap) (entries : EntryLister) (store : StoreModel) (l : PlacedList) (around : List Clip) (t : Tree) → GivesClose ps entries → IsNearList l → AreCloseClips around
      → IsTree (length l.list.nodes + 1) (length l.list.chains) t → TreeReaches ps l t → All IsCloseEntry (tree_entries entries store l around t)
  tree_close ps entries store l around (solid o px) gives near close is reach = primitive_close l around o (kind.Solid px) near close is.0 tt
  tree_close ps entries store l around (image o i u v) gives near close is reach = primitive_close l around o (image_kind store l i u v) near close is.0 tt
  tree_close ps entries store l around (border o w t r b le ra) gives near close is reach = primitive_close l around o (kind.Border w t r b le ra) near close is.0 tt
  tree_close ps entries store l around (text o i px gs) gives near close is reach =
      primitive_close l around o (text_kind store l o.node i px gs) near close is.0 (text_close store l o i gs near is.0 is.4)
  tree_close ps entries store l around (context p ts) gives near close is reach =
      either_close (is_plain l p) (trees_entries entries store l around ts) (group_entries (push_entry l around p) (trees_entries entries store l [] ts))
      (trees_close ps entries store l around ts gives near close is.1 reach)
      (group_close (push_entry l around p) (trees_entries entries store l [] ts) (close_after l around p.chain near close) (trees_close ps entries store l [] ts gives near no_clips is.1 reach))
  tree_close ps entries store l around (iframe o q) gives near close is reach =
      gives q (first_corner (item_rect l o)) (around ++ iframe_clips l o) reach (close_inside l around o near close is.0)
  tree_close ps entries store l around (hit_area o i) gives near close is reach = All-nil IsCloseEntry

  trees_close : (ps : PipelineMap) (entries : EntryLister) (store : StoreModel) (l : PlacedList) (around : List Clip) (ts : Trees) → GivesClose ps entries → IsNearList l → AreCloseClips around
      → AreTrees (length l.list.nodes + 1) (length l.list.chains) ts → TreesReach ps l ts → All IsCloseEntry (trees_entries entries store l around ts)
  trees_close ps entries store l around none gives near close are reach = All-nil IsCloseEntry
  trees_close ps entries store l around (more t ts) gives near close are reach =
      All-append IsCloseEntry (tree_entries entries store l around t) (trees_entries entries store l around ts)
      (tree_close ps entries store l around t gives near close are.0 reach.0)
      (trees_close ps entries store l around ts gives near close are.1 reach.1)

-- ---- pipelines

pub list_near : (ps : PipelineMap) (p : ℕ) (origin : Point) (l : ListModel) → AreFit ps → pipeline_list ps p ≡ Some l → Reaches ps p origin → IsNearList (placed p (pipeline_at ps p).moves origin l)
list_near ps p origin l fit e reach = record { placed = list_placed ps p origin l fit e reach; list = (fit.each p l e).list }

list_close : (ps : PipelineMap) (entries : EntryLister) (store : StoreModel) (p : ℕ) (origin : Point) (around : List Clip) (o : Option ListModel) → GivesClose ps entries → AreFit ps → pipeline_list ps p ≡ o
    → Reaches ps p origin → AreCloseClips around → All IsCloseEntry (list_entries entries store (option_map (placed p (pipeline_at ps p).moves origin) o) around)
list_close ps entries store p origin around None gives fit e reach close = All-nil IsCloseEntry
list_close ps entries store p origin around (Some l) gives fit e reach close =
    let can = list_can ps p origin l fit e reach in
    trees_close ps entries store (placed p (pipeline_at ps p).moves origin l) around (told l.items) gives (list_near ps p origin l fit e reach) close can.fields can.reach

pub levels_close : (n : ℕ) (ps : PipelineMap) (store : StoreModel) → AreFit ps → GivesClose ps (entries_in n ps store)
unfolding entries_in
levels_close zero ps store fit p origin around reach close = All-nil IsCloseEntry
levels_close (suc n) ps store fit p origin around reach close =
    list_close ps (entries_in n ps store) store p origin around (pipeline_list ps p) (levels_close n ps store fit) fit refl reach close
