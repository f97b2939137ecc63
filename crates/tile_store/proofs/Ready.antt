-- The open window and its tile.
use Rattle.std.proofs.Common.{◌≡◌, ℕ, ◌*◌, List, ◌++◌, length, take, drop, Some, option_map, ℤ, pos, ◌≤ℤ◌, ◌<ℤ◌, ◌-ℤ◌, refl, ap, sym, ◌∙◌, arith}
use Rattle.std.proofs.lemmas.Int.{ints}
use Rattle.blend_rules.specs.declared.plane.Plane.{Plane}
use Rattle.span_kernels.specs.PlanesModel.{PlanesModel, with_part, part_of, overwritten, plane_of, index_of, IsWhole}
use Rattle.span_kernels.proofs.Parts.{width_with, height_with, lengths_with}
use Rattle.std.proofs.lemmas.List.{length-append, length-drop, length-take-le}
use Rattle.wr_geom.specs.Bounds.{Bounds, Covers, width_of, height_of}
use Rattle.wr_geom.proofs.Points.{inside, holds_it}
use Rattle.tile_store.specs.declared.tile.Tile.{Tile}
use Rattle.tile_store.specs.declared.window.OpenWindow.{OpenWindow}
use Rattle.tile_store.specs.Tiles.{TileList, HasTileSides, HasRow, IsTile, tile_at, changed_at, column_of, row_of}
use Rattle.tile_store.specs.StoreModel.{StoreModel, IsStore}
use Rattle.tile_store.specs.Windows.{with_part_in, with_window_row, window_row}
use Rattle.tile_store.specs.Within.{with_planes, put_back, IsOpenIn}
use Rattle.tile_store.proofs.Listed.{at_changed, changed_ext, changed_twice, tile_in, store_changed}

-- ---- rectangles in rectangles

-- the edges of a rectangle with points lie within those of one that has all of them
pub record IsWithin (outer inner : Bounds) : Type 0 where
  pub left : outer.x0 ≤ℤ inner.x0
  pub right : inner.x1 ≤ℤ outer.x1
  pub top : outer.y0 ≤ℤ inner.y0
  pub bottom : inner.y1 ≤ℤ outer.y1

pub within : (outer inner : Bounds) → Covers outer inner → inner.x0 <ℤ inner.x1 → inner.y0 <ℤ inner.y1 → IsWithin outer inner
within outer inner covers across down =
    let first = inside outer inner.x0 inner.y0 (covers inner.x0 inner.y0 (holds_it inner inner.x0 inner.y0 (record { left = omega (arith, ints); right = across; top = omega (arith, ints); bottom = down }))) in
    let x = inner.x1 -ℤ pos 1 in
    let y = inner.y1 -ℤ pos 1 in
    let last = inside outer x y (covers x y (holds_it inner x y (record { left = omega (arith, ints, across); right = omega (arith, ints); top = omega (arith, ints, down); bottom = omega (arith, ints) }))) in
    record { left = first.left; right = omega (arith, ints, last.right); top = first.top; bottom = omega (arith, ints, last.bottom) }

-- a row of the inner one is one of the outer one
pub row_within : (outer inner : Bounds) (y : ℤ) → IsWithin outer inner → HasRow inner y → HasRow outer y
row_within outer inner y w r = record { top = omega (arith, ints, w.top, r.top); bottom = omega (arith, ints, w.bottom, r.bottom) }

pub down_from : (rect : Bounds) (y : ℤ) → HasRow rect y → rect.y0 <ℤ rect.y1
down_from rect y r = omega (arith, ints, r.top, r.bottom)

-- ---- the open window

-- the window lies in its tile, whose planes are taken out
pub record IsReady (o : OpenWindow) (planes : PlanesModel) : Type 0 where
  pub sides : HasTileSides o.tile
  pub covers : Covers o.tile o.window.rect
  pub width : planes.width ≡ width_of o.tile
  pub height : planes.height ≡ height_of o.tile

module _ {R : Type 0} (es : TileList R) (o : OpenWindow) (planes : PlanesModel) where
  found : (t : Tile R) → tile_at o.window.key es ≡ Some t → tile_at o.window.key (put_back es (Some o) planes) ≡ Some (with_planes planes t)
  found t h = at_changed o.window.key (with_planes planes) es ∙ ap (option_map (with_planes planes)) h

  pub ready : (n : ℕ) → IsOpenIn es (Some o) → IsStore (record { tiles = put_back es (Some o) planes; window = Some o.window; opened = n }) → IsReady o planes
  ready n (t, h, r) s =
      let tile = tile_in o.window.key (put_back es (Some o) planes) (with_planes planes t) s.tiles (found t h) in
      let lies = rw (found t h) at s.window in
      rw (← r) (record { sides = tile.sides; covers = lies; width = tile.width; height = tile.height })

  -- the bytes of the planes that are taken out are those of the tile
  pub row_backed : (n : ℕ) (p : Plane) (y : ℤ) → IsOpenIn es (Some o) → window_row (record { tiles = put_back es (Some o) planes; window = Some o.window; opened = n }) p y
      ≡ part_of p planes (row_of o.tile y) (column_of o.tile o.window.rect.x0) (width_of o.window.rect)
  row_backed n p y (t, h, r) = rw (found t h, r) refl

  -- a write to them is one to the tile
  pub written_backed : (n : ℕ) (p : Plane) (y : ℤ) (bytes : List ℕ) → IsOpenIn es (Some o)
      → record { tiles = put_back es (Some o) (with_part p (row_of o.tile y) (column_of o.tile o.window.rect.x0) bytes planes); window = Some o.window; opened = n }
      ≡ with_window_row p y bytes (record { tiles = put_back es (Some o) planes; window = Some o.window; opened = n })
  written_backed n p y bytes (t, h, r) =
      let after = with_part p (row_of o.tile y) (column_of o.tile o.window.rect.x0) bytes planes in
      let write = with_part_in o.window.rect p y bytes in
      let same : changed_at o.window.key (with_planes after) es ≡ changed_at o.window.key write (changed_at o.window.key (with_planes planes) es) =
      changed_ext o.window.key (with_planes after) (λ u. write (with_planes planes u)) es t h (rw (← r) refl) ∙ sym (changed_twice o.window.key write (with_planes planes) es) in
      ap (λ (tiles : TileList R). let s : StoreModel R = record { tiles = tiles; window = Some o.window; opened = n } in s) same

-- ---- planes that are written stay whole

length_overwritten : (old : List ℕ) (at : ℕ) (new : List ℕ) → length (overwritten old at new) ≡ length old
length_overwritten old at new =
    let all = take at old ++ (new ++ drop (length new) (drop at old)) in
    let a = length-append all (drop (length all) old) in
    let d = length-drop (length all) old in
    length-take-le (length old) (all ++ drop (length all) old) (omega (arith, a, d))

pub whole_written : (p : Plane) (y x : ℕ) (bytes : List ℕ) (planes : PlanesModel) → IsWhole planes → IsWhole (with_part p y x bytes planes)
whole_written p y x bytes planes h =
    let new = overwritten (plane_of p planes) (index_of planes x y) bytes in
    record {
      wide = rw (width_with planes new p) h.wide;
      high = rw (height_with planes new p) h.high;
      each = λ q. rw (width_with planes new p, height_with planes new p)
          (lengths_with planes new (planes.height * planes.width) p (length_overwritten (plane_of p planes) (index_of planes x y) bytes ∙ h.each p) h.each q);
    }

module _ {R : Type 0} where
  pub tile_written : (rect : Bounds) (p : Plane) (y : ℤ) (bytes : List ℕ) (t : Tile R) → IsTile t → IsTile (with_part_in rect p y bytes t)
  tile_written rect p y bytes t i = record {
    rect = i.rect;
    sides = i.sides;
    width = width_with t.planes _ p ∙ i.width;
    height = height_with t.planes _ p ∙ i.height;
    whole = whole_written p (row_of t.rect y) (column_of t.rect rect.x0) bytes t.planes i.whole;
  }

  -- a store stays one whatever is written
  pub store_written : (es : TileList R) (o : OpenWindow) (planes : PlanesModel) (n : ℕ) (p : Plane) (y : ℤ) (bytes : List ℕ) → IsOpenIn es (Some o)
      → IsStore (record { tiles = put_back es (Some o) planes; window = Some o.window; opened = n })
      → IsStore (record { tiles = put_back es (Some o) (with_part p (row_of o.tile y) (column_of o.tile o.window.rect.x0) bytes planes); window = Some o.window; opened = n })
  store_written es o planes n p y bytes i s =
      rw (written_backed es o planes n p y bytes i)
      (store_changed o.window.key (with_part_in o.window.rect p y bytes) (λ t. refl) (tile_written o.window.rect p y bytes) (record { tiles = put_back es (Some o) planes; window = Some o.window; opened = n }) s)
