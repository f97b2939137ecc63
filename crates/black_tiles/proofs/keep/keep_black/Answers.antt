use Rattle.std.proofs.Common.{◌≡◌, ℕ, ℤ, pos, ◌+ℤ◌, ◌-ℤ◌, ◌*ℤ◌, unsigned_abs, subst, sym, ap, ap₂, ◌∙◌, arith}
use Rattle.std.proofs.lemmas.Int.{ints}
use Rattle.wr_geom.specs.Bounds.{Bounds}
use Rattle.wr_geom.specs.declared.keys.TileKey.{TileKey}
use Rattle.tile_grid.specs.declared.tile.GridTile.{GridTile}
use Rattle.tile_grid.specs.declared.tile.TileSides.{TileSides}
use Rattle.tile_grid.specs.Tiles.{AreTileSides, tile_rect}
use Rattle.tile_grid.specs.Grids.{GridModel, tile_at as grid_tile}
use Rattle.tile_store.specs.Tiles.{HasTileSides}
use Rattle.tile_compositor.proofs.Tiles.{grid_sides}
use Rattle.black_tiles.specs.Black.{AreBlack}
use Rattle.black_tiles.proofs.Writes.{black_can_be_shown}
use Rattle.black_tiles.proofs.keep.keep_black.Goals as goal

along : (x : ℤ) (n : ℕ) → unsigned_abs ((x +ℤ pos n) -ℤ x) ≡ n
along x n = omega (arith, ints)

-- a tile of a grid has the sides of a tile
tile_has_sides : (s : TileSides) (col row : ℤ) → AreTileSides s → HasTileSides (tile_rect s col row)
tile_has_sides s col row are =
    let w = along (col *ℤ pos s.width) s.width in
    let h = along (row *ℤ pos s.height) s.height in
    record {
      some_across = omega (arith, w, are.width.some);
      across = omega (arith, w, are.width.most);
      some_down = omega (arith, h, are.height.some);
      down = omega (arith, h, are.height.most);
    }

-- the rectangle of a tile of a grid is that of its key
rect_is_key : (s : TileSides) (g : GridModel) (t u : GridTile) (k : TileKey) → g.sides ≡ s → t ≡ u → u.rect ≡ tile_rect g.sides u.col u.row → k.col ≡ t.col → k.row ≡ t.row → t.rect ≡ tile_rect s k.col k.row
rect_is_key s g t u k same is rect col row =
    ap (λ (v : GridTile). v.rect) is ∙ rect ∙ ap (λ (v : TileSides). tile_rect v u.col u.row) same
    ∙ sym (ap₂ (λ (x y : ℤ). tile_rect s x y) (col ∙ ap (λ (v : GridTile). v.col) is) (row ∙ ap (λ (v : GridTile). v.row) is))

pub keep_tile-requires-clause-sides : goal.keep_tile-requires-clause-sides
keep_tile-requires-clause-sides c =
    let t = grid_tile c.over-grid.result c.loop-index.index in
    subst (λ (u : GridTile). HasTileSides u.rect) (sym c.tile-tile.ensures.value) (tile_has_sides c.over-grid.result.sides t.col t.row c.count-index-end.ensures.grid.sides)

pub returns-in_err-keep_tile-clause-black : goal.returns-in_err-keep_tile-clause-black
returns-in_err-keep_tile-clause-black c =
    let same = ap (λ (g : GridModel). g.sides) c.over-grid.ensures.value ∙ grid_sides c.args.sides c.args.part in
    let t = grid_tile c.over-grid.result c.loop-index.index in
    c.keep_tile.ensures.black c.args.sides
    (rect_is_key c.args.sides c.over-grid.result c.tile-tile.result t c.key.result same c.tile-tile.ensures.value (λ i. t.rect) (ap (λ (k : TileKey). k.col) c.key.ensures) (ap (λ (k : TileKey). k.row) c.key.ensures))
    c.loop-index.invariant.black

pub returns-in_err-keep_tile-clause-shown : goal.returns-in_err-keep_tile-clause-shown
returns-in_err-keep_tile-clause-shown c = black_can_be_shown c.args.sides _ (returns-in_err-keep_tile-clause-black c)

pub loop-index-preserved : goal.loop-index-preserved
loop-index-preserved c =
    let same = ap (λ (g : GridModel). g.sides) c.over-grid.ensures.value ∙ grid_sides c.args.sides c.args.part in
    let t = grid_tile c.over-grid.result c.loop-index.index in
    record {
      closed = c.keep_tile.ensures.closed;
      black = c.keep_tile.ensures.black c.args.sides
          (rect_is_key c.args.sides c.over-grid.result c.tile-tile.result t c.key.result same c.tile-tile.ensures.value (λ i. t.rect) (ap (λ (k : TileKey). k.col) c.key.ensures) (ap (λ (k : TileKey). k.row) c.key.ensures))
          c.loop-index.invariant.black;
    }
