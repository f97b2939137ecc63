-- The part of a reached tile that is drawn lies in it.
use Rattle.std.proofs.Common.{◌≡◌, ◌<◌, ◌≤◌, ℕ, Bool, true, false, ◌&&◌, List, Option, Some, None, IfSome, option_map, if◌then◌else◌, refl, sym, ap, subst, ◌∙◌, arith}
use Rattle.std.proofs.lemmas.Int.{ints}
use Rattle.wr_geom.specs.Bounds.{Bounds, Covers, has_points, intersection, width_of}
use Rattle.wr_geom.specs.declared.keys.TileKey.{TileKey}
use Rattle.wr_geom.proofs.Points.{has_sides, intersection_or_nowhere}
use Rattle.wr_geom.proofs.Rects.{intersection_in_second}
use Rattle.primitives.specs.Stacks.{balanced}
use Rattle.primitives.specs.declared.entry.Entry.{Entry}
use Rattle.tile_store.specs.StoreModel.{StoreModel, LiesInTile}
use Rattle.tile_store.specs.Tiles.{tile_at, without}
use Rattle.tile_store.specs.declared.tile.Tile.{Tile}
use Rattle.tile_store.proofs.Keys.{key_is}
use Rattle.tile_store.proofs.Ready.{within}
use Rattle.tile_records.specs.Counts.{times}
use Rattle.tile_records.specs.Dirt.{dirt, extent, extent_from, middles, same_entry}
use Rattle.tile_records.specs.Interning.{Interning, record_keys}
use Rattle.tile_records.specs.declared.record.TileRecord.{TileRecord}
use Rattle.tile_records.proofs.Holding.{times_append}
use Rattle.tile_records.proofs.Middles.{dirt_is_in_tile}
use Rattle.kept_tiles.specs.Tiles.{KeptTile, valued, claims}
use Rattle.kept_tiles.specs.Steps.{IsReached, ReachedFrom}
use Rattle.kept_tiles.proofs.Lists.{claims_without}

abbrev Store : Type 0
Store = StoreModel TileRecord

abbrev Stored : Type 0
Stored = Tile TileRecord

-- what two rectangles share is no wider than the second
pub shared_narrow : (a b : Bounds) → width_of (intersection a b) ≤ width_of b
shared_narrow a b = by_points (has_points (intersection a b)) refl
  where
    by_points : (t : Bool) → has_points (intersection a b) ≡ t → width_of (intersection a b) ≤ width_of b
    by_points false e = subst (λ (r : Bounds). width_of r ≤ width_of b) (sym (intersection_or_nowhere a b e)) (omega arith)
    by_points true e =
        let s = has_sides (intersection a b) e in
        let w = within b (intersection a b) (intersection_in_second a b) s.across s.down in
        omega (arith, ints, w.left, w.right, s.across)

test_narrow : (t : Bool) (a rect : Bounds) → width_of (if t then intersection a rect else rect) ≤ width_of rect
test_narrow true a rect = shared_narrow a rect
test_narrow false a rect = omega arith

pub dirt_narrow : (old new : List Entry) (rect : Bounds) → width_of (dirt old new rect) ≤ width_of rect
dirt_narrow old new rect =
    let m = middles same_entry old new in
    test_narrow (balanced 0 m.old && balanced 0 m.new) (extent_from (extent m.old) m.new) rect

module _ (m : Interning) (old mid : Store) (key : TileKey) (rect part : Bounds) (entries : List Entry) (reached : IsReached m old mid key rect entries part) where
  at_mid : tile_at key mid.tiles ≡ Some reached.tile
  at_mid = ap (λ (x : Store). tile_at key x.tiles) reached.first ∙ (rw (key_is key) refl)

  covered_by : (o : Option Stored) → IfSome o (λ t. t.rect ≡ rect) → ReachedFrom (option_map (valued m) o) (valued m reached.tile) entries rect part → Covers reached.tile.rect part
  covered_by None placed f =
      let same : reached.tile.rect ≡ rect = ap (λ (t : KeptTile). t.rect) f.tile_is in
      subst (λ (r : Bounds). Covers reached.tile.rect r) (same ∙ sym f.part_is) (λ x y h. h)
  covered_by (Some was) placed f =
      let same : reached.tile.rect ≡ rect = ap (λ (t : KeptTile). t.rect) f.same ∙ placed in
      subst (λ (r : Bounds). Covers r part) (sym same) (subst (Covers rect) (sym f.part_is) (dirt_is_in_tile (valued m was).entries entries rect))

  pub reached_inside : IfSome (tile_at key old.tiles) (λ t. t.rect ≡ rect) → LiesInTile part (tile_at key mid.tiles)
  reached_inside placed = subst (LiesInTile part) (sym at_mid) (covered_by (tile_at key old.tiles) placed reached.from)

  narrow_by : (o : Option Stored) → ReachedFrom (option_map (valued m) o) (valued m reached.tile) entries rect part → width_of part ≤ width_of rect
  narrow_by None f = subst (λ (r : Bounds). width_of r ≤ width_of rect) (sym f.part_is) (omega arith)
  narrow_by (Some was) f = subst (λ (r : Bounds). width_of r ≤ width_of rect) (sym f.part_is) (dirt_narrow (valued m was).entries entries rect)

  pub reached_narrow : width_of part ≤ width_of rect
  reached_narrow = narrow_by (tile_at key old.tiles) reached.from

-- what a tile's record names is claimed
pub note_claimed : (old : Store) (key : TileKey) (t : Stored) → tile_at key old.tiles ≡ Some t → (k : ℕ) → 0 < times k (record_keys t.note) → 0 < times k (claims old.tiles)
note_claimed old key t at k h =
    let a = claims_without key old.tiles t at k in
    let b = times_append k (record_keys t.note) (claims (without key old.tiles)) in
    omega (arith, a, b, h)
