-- What is asked before slices and tiles are shown.
use Rattle.std.proofs.Common.{ℕ, Bool, true, false, List, [], ◌∷◌, ◌++◌, map, zip, get_or, All, Option, Some, None, IfSome, IsTrue, option_map, if◌then◌else◌, sym, ap₂, subst, arith}
use Rattle.std.proofs.lemmas.Int.{ints, clamps}
use Rattle.std.proofs.lemmas.List.Elements.{All-contains, All-head, All-map, All-tail}
use Rattle.wr_geom.specs.Bounds.{Bounds, holds, has_points, intersection, nowhere, overlap}
use Rattle.wr_geom.specs.declared.keys.SliceKey.{SliceKey}
use Rattle.wr_geom.specs.declared.keys.TileKey.{TileKey}
use Rattle.clip_masks.specs.Coverage.{cut_by}
use Rattle.clip_masks.specs.declared.clip.Clip.{Clip}
use Rattle.image_store.specs.StoreModel.{StoreModel}
use Rattle.primitives.specs.Tops.{IsSliceOrigin}
use Rattle.primitives.specs.declared.entry.Entry.{Entry}
use Rattle.primitives.specs.declared.entry.Top.{Top}
use Rattle.slice_rules.specs.Keys.{slice_keys}
use Rattle.slice_rules.specs.Runs.{Run}
use Rattle.slice_rules.specs.Shared.{HomedClip, shared_clips}
use Rattle.picture_slices.specs.Facts.{IsSlice}
use Rattle.picture_slices.specs.Slices.{slice_of, top_slices}
use Rattle.picture_slices.specs.TopClips.{clips_of_top}
use Rattle.picture_slices.specs.declared.slice.Slice.{Slice}
use Rattle.tile_grid.specs.Grids.{IsViewPart, IsWithinReach, grid_over, in_slice, tiles_of}
use Rattle.tile_grid.specs.declared.tile.GridTile.{GridTile}
use Rattle.tile_grid.specs.declared.tile.TileSides.{TileSides}
use Rattle.tile_records.specs.Picks.{picked}
use Rattle.tile_records.specs.declared.record.TileRecord.{TileRecord}
use Rattle.tile_records.proofs.Picking.{picked_are_entries}
use Rattle.tile_store.specs.Tiles.{tile_at}
use Rattle.tile_store.specs.declared.tile.Tile.{Tile}
use Rattle.tile_compositor.specs.Composition.{IsPlacedIn}
use Rattle.tile_compositor.specs.Composition.{CanBeShown as CanBeComposed}
use Rattle.kept_tiles.specs.Showing.{AreAllCurrent}
use Rattle.kept_tiles.specs.Sound.{IsCurrent, IsSound}
use Rattle.kept_tiles.specs.Tiles.{KeptTile, KeptModel, valued}
use Rattle.kept_tiles.specs.Work.{Shown, frame_tiles, shown_tiles, slice_tiles}
use Rattle.kept_tiles.proofs.Lists.{valued_at}
use Rattle.shown_frames.specs.Laws.{TilesAreCurrent, ViewsAreViewParts, PictureSlicesAreViewParts, SlicesCanBeShown, SlicesArePlaced, SoundTilesCanBeShown}
use Rattle.shown_frames.specs.Placing.{placed_of, view_of}

-- ---- entries of tiles

picked_current : (store : StoreModel) (rect : Bounds) (es : List Entry) → All (IsCurrent store) es → All (IsCurrent store) (picked rect es)
picked_current store rect es all i d less = All-contains (IsCurrent store) es (get_or (picked rect es) i d) all (picked_are_entries rect es i d less)

slice_current : (store : StoreModel) (s : Slice) (ts : List GridTile) → All (IsCurrent store) s.entries → AreAllCurrent store (shown_tiles s ts)
slice_current store s [] all = tt
slice_current store s (t ∷ ts) all = (picked_current store t.rect s.entries all, slice_current store s ts all)

current_both : (store : StoreModel) (vs ws : List Shown) → AreAllCurrent store vs → AreAllCurrent store ws → AreAllCurrent store (vs ++ ws)
current_both store [] ws h i = i
current_both store (v ∷ vs) ws h i = (h.0, current_both store vs ws h.1 i)

pub tiles_are_current : TilesAreCurrent
tiles_are_current sides store [] all = tt
tiles_are_current sides store (s ∷ ss) all =
    current_both store (slice_tiles sides s) (frame_tiles sides ss)
    (slice_current store s (tiles_of (grid_over sides (in_slice s.shown s.origin))) (All-head (λ (r : Slice). All (IsCurrent store) r.entries) s ss all))
    (tiles_are_current sides store ss (All-tail (λ (r : Slice). All (IsCurrent store) r.entries) s ss all))

-- ---- parts of a view

pub views_are_view_parts : ViewsAreViewParts
views_are_view_parts w h sides = record {
  left = omega (arith, ints);
  top = omega (arith, ints);
  right = omega (arith, ints, sides.across);
  bottom = omega (arith, ints, sides.down);
}

nowhere_part : IsViewPart nowhere
nowhere_part = record { left = omega (arith, ints); top = omega (arith, ints); right = omega (arith, ints); bottom = omega (arith, ints) }

overlap_part : (a b : Bounds) → IsViewPart a → IsViewPart (overlap a b)
overlap_part a b h = record {
  left = omega (arith, ints, clamps, h.left);
  top = omega (arith, ints, clamps, h.top);
  right = omega (arith, ints, clamps, h.right);
  bottom = omega (arith, ints, clamps, h.bottom);
}

part_by : (a b : Bounds) (t : Bool) → IsViewPart a → IsViewPart (if t then overlap a b else nowhere)
part_by a b true h = overlap_part a b h
part_by a b false h = nowhere_part

intersection_part : (a b : Bounds) → IsViewPart a → IsViewPart (intersection a b)
unfolding intersection
intersection_part a b h = part_by a b (has_points (overlap a b)) h

step_part : (b : Bounds) (clip : Clip) (t : Bool) → IsViewPart b → IsViewPart (if t then b else intersection b clip.shape.rect)
step_part b clip true h = h
step_part b clip false h = intersection_part b clip.shape.rect h

-- a cut by clips leaves a part
cut_part : (clips : List Clip) (b : Bounds) → IsViewPart b → IsViewPart (cut_by b clips)
unfolding cut_by
cut_part [] b h = h
cut_part (c ∷ cs) b h = cut_part cs (if c.out then b else intersection b c.shape.rect) (step_part b c c.out h)

slice_part : (view : Bounds) (key : SliceKey) (run : Run Top) → IsViewPart view → IsViewPart (slice_of view key run).shown
slice_part view key run h = cut_part (map (λ (c : HomedClip). c.0) (shared_clips clips_of_top run)) view h

pub picture_slices_are_view_parts : PictureSlicesAreViewParts
picture_slices_are_view_parts w h tops sides =
    let view = view_of w h in
    let runs = top_slices tops in
    All-map (λ (s : Slice). IsViewPart s.shown) (λ (p : SliceKey × Run Top). slice_of view p.0 p.1) (zip (slice_keys runs) runs)
    (λ i d less. slice_part view (get_or (zip (slice_keys runs) runs) i d).0 (get_or (zip (slice_keys runs) runs) i d).1 (views_are_view_parts w h sides))

-- ---- slices

in_reach : {p : _} → IsSliceOrigin p → IsWithinReach p
in_reach h = record { left = h.across.low; top = h.down.low; right = h.across.high; bottom = h.down.high }

pub slices_can_be_shown : SlicesCanBeShown
slices_can_be_shown view store slices are parts current shallow few i d less =
    let is : IsSlice view (get_or slices i d) = are.each i d less in
    let count = few i d less in
    record {
      shown = parts i d less;
      origin = in_reach is.origin;
      drawable = record { good = is.entries; few = omega (arith, count); balanced = is.balanced; shallow = shallow i d less; current = current i d less };
    }

pub slices_are_placed : SlicesArePlaced
slices_are_placed w h planes slices wide high are =
    All-map (IsPlacedIn planes) placed_of slices
    (λ i d less. let is : IsSlice (view_of w h) (get_or slices i d) = are.each i d less in record {
      origin = in_reach is.origin;
      shown = λ x y here. subst (λ (b : Bounds). IsTrue (holds b x y)) (ap₂ (λ (m n : ℕ). view_of m n) (sym wide) (sym high)) (is.shown x y here);
    })

-- ---- tiles

composed_by : (sides : TileSides) (n : ℕ) (store : StoreModel) (k : KeptModel) (key : TileKey) (o : Option (Tile TileRecord)) → IfSome (option_map (valued k.interner) o) (λ t. IsSound sides n store key t)
    → IfSome o (λ t. CanBeComposed sides key t)
composed_by sides n store k key None h = tt
composed_by sides n store k key (Some t) h = record { rect = h.rect; pixels = h.pixels }

pub sound_tiles_can_be_shown : SoundTilesCanBeShown
sound_tiles_can_be_shown sides n store k sound key =
    composed_by sides n store k key (tile_at key k.store.tiles)
    (subst (λ (o : Option KeptTile). IfSome o (λ t. IsSound sides n store key t)) (valued_at k.interner key k.store.tiles) (sound key))
