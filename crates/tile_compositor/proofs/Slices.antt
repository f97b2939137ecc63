-- Slices laid over planes, tile by tile.
use Rattle.std.proofs.Common.{◌≡◌, ℕ, ◌<◌, ◌+◌, inl, inr, ℤ, pos, ◌-ℤ◌, Bool, true, false, ◌&&◌, IsTrue, IsFalse, Option, Some, None, if◌then◌else◌, subst, sym, ap, ap₂, refl, ◌∙◌, true≢false, arith}
use Rattle.std.specs.Prelude.{IfSome}
use Rattle.std.specs.Option.{option_map_or}
use Rattle.std.proofs.lemmas.Bool.{and_parts, cases_lt}
use Rattle.wr_geom.specs.Bounds.{Bounds, holds, has_points}
use Rattle.wr_geom.specs.declared.keys.TileKey.{TileKey}
use Rattle.blend_rules.specs.Colour.{IsPixel, blended, clear}
use Rattle.blend_rules.specs.declared.colour.Px.{Px}
use Rattle.blend_rules.specs.declared.mode.Mode.TheVariants.{Normal}
use Rattle.blend_rules.proofs.Blends.{clear_is_pixel, clear_source_leaves, blend_is_pixel}
use Rattle.span_kernels.specs.PlanesModel.{PlanesModel, pixel_at}
use Rattle.tile_grid.specs.declared.tile.TileSides.{TileSides}
use Rattle.tile_grid.specs.Tiles.{AreTileSides, tile_rect}
use Rattle.tile_grid.specs.Grids.{GridModel, count_of, tile_at as grid_tile, grid_over, in_slice}
use Rattle.tile_store.specs.declared.tile.Tile.{Tile}
use Rattle.tile_store.specs.Tiles.{TileList, tile_at}
use Rattle.tile_compositor.specs.declared.placed.Placed.{Placed}
use Rattle.tile_compositor.specs.Laid.{AreAllPixels, IsLaid, KeepSides}
use Rattle.tile_compositor.specs.Composition.{CanAllBeShown, CanBeShown, IsPlacedIn, key_at, shows_in, placed_colour, tile_colour, tiles_colour}
use Rattle.tile_compositor.proofs.Moves.{slice_holds}
use Rattle.tile_compositor.proofs.Painting.{painted_as}
use Rattle.tile_compositor.proofs.Tiles.{holds_tile, tile_holds, only_index, index_of_point}

-- the two parts of the test
shows_rect : (p : Placed) (rect : Bounds) (x y : ℕ) → IsTrue (shows_in p rect x y) → IsTrue (holds rect (pos x -ℤ p.origin.x) (pos y -ℤ p.origin.y))
shows_rect p rect x y h = (and_parts (holds rect (pos x -ℤ p.origin.x) (pos y -ℤ p.origin.y)) (holds p.shown (pos x) (pos y)) h).0

shows_there : (p : Placed) (rect : Bounds) (x y : ℕ) → IsTrue (shows_in p rect x y) → IsTrue (holds p.shown (pos x) (pos y))
shows_there p rect x y h = (and_parts (holds rect (pos x -ℤ p.origin.x) (pos y -ℤ p.origin.y)) (holds p.shown (pos x) (pos y)) h).1

both : (a b : Bool) → a ≡ true → b ≡ true → (a && b) ≡ true
both true b h k = k
both false b h k = h

never : (a b : Bool) → b ≡ false → (a && b) ≡ false
never true b h = h
never false b h = refl

-- what is below a clear slice stays
pub below_clear : (p below : Px) → p ≡ clear → IsPixel below → below ≡ blended Normal p below
below_clear p below e d = sym (ap (λ (c : Px). blended Normal c below) e ∙ clear_source_leaves Normal below d.premultiplied d.byte)

module _ {T : Type 0} (s : TileSides) (tiles : TileList T) (p : Placed) (are : AreTileSides s) where
  shown_colour : (x y : ℤ) → IsTrue (holds p.shown x y) → placed_colour s tiles p x y ≡ tiles_colour s tiles p.key (x -ℤ p.origin.x) (y -ℤ p.origin.y)
  shown_colour x y h = ap (λ (b : Bool). if b then tiles_colour s tiles p.key (x -ℤ p.origin.x) (y -ℤ p.origin.y) else clear) h

  pub hidden_colour : (x y : ℤ) → IsFalse (holds p.shown x y) → placed_colour s tiles p x y ≡ clear
  hidden_colour x y h = ap (λ (b : Bool). if b then tiles_colour s tiles p.key (x -ℤ p.origin.x) (y -ℤ p.origin.y) else clear) h

  -- where a slice shows a tile, it has the colour of what is kept under its key
  colour_in : (col row : ℤ) (x y : ℕ) → IsTrue (shows_in p (tile_rect s col row) x y)
      → placed_colour s tiles p (pos x) (pos y)
      ≡ option_map_or (λ tile. tile_colour tile (pos x -ℤ p.origin.x) (pos y -ℤ p.origin.y)) (tile_at (record { slice = p.key; col = col; row = row }) tiles) clear
  colour_in col row x y h =
      let u : ℤ = pos x -ℤ p.origin.x in
      let v : ℤ = pos y -ℤ p.origin.y in
      let i = holds_tile s col row u v are (shows_rect p (tile_rect s col row) x y h) in
      let same : key_at s p.key u v ≡ record { slice = p.key; col = col; row = row } = ap₂ (λ (c r : ℤ). record { slice = p.key; col = c; row = r }) (sym i.across) (sym i.down) in
      shown_colour (pos x) (pos y) (shows_there p (tile_rect s col row) x y h)
      ∙ ap (λ (k : TileKey). option_map_or (λ tile. tile_colour tile u v) (tile_at k tiles) clear) same

  -- a tile that isn't kept leaves what is there
  pub unkept_painted : (col row : ℤ) (frame : PlanesModel) → AreAllPixels frame → tile_at (record { slice = p.key; col = col; row = row }) tiles ≡ None
      → IsLaid (λ x y. blended Normal (placed_colour s tiles p (pos x) (pos y)) (pixel_at frame x y)) (shows_in p (tile_rect s col row)) frame frame
  unkept_painted col row frame pixels none = record {
    sides = record { width = refl; height = refl };
    inside = λ x y hx hy h. below_clear (placed_colour s tiles p (pos x) (pos y)) (pixel_at frame x y)
        (colour_in col row x y h ∙ ap (λ (o : Option (Tile T)). option_map_or (λ tile. tile_colour tile (pos x -ℤ p.origin.x) (pos y -ℤ p.origin.y)) o clear) none) (pixels x y hx hy);
    outside = λ x y hx hy h. refl;
  }

  pub kept_painted : (col row : ℤ) (tile : Tile T) (old new : PlanesModel) → tile_at (record { slice = p.key; col = col; row = row }) tiles ≡ Some tile
      → IsLaid (λ x y. blended Normal (tile_colour tile (pos x -ℤ p.origin.x) (pos y -ℤ p.origin.y)) (pixel_at old x y)) (shows_in p (tile_rect s col row)) old new
      → IsLaid (λ x y. blended Normal (placed_colour s tiles p (pos x) (pos y)) (pixel_at old x y)) (shows_in p (tile_rect s col row)) old new
  kept_painted col row tile old new some painted = painted_as _ _ (shows_in p (tile_rect s col row)) old new
      (λ x y h. ap (λ (c : Px). blended Normal c (pixel_at old x y))
      (sym (colour_in col row x y h ∙ ap (λ (o : Option (Tile T)). option_map_or (λ t. tile_colour t (pos x -ℤ p.origin.x) (pos y -ℤ p.origin.y)) o clear) some))) painted

  -- ---- what a slice shows are pixels

  found_pixel : (x y : ℤ) (o : Option (Tile T)) → IfSome o (λ tile. CanBeShown s (key_at s p.key x y) tile) → IsPixel (option_map_or (λ tile. tile_colour tile x y) o clear)
  found_pixel x y None h = clear_is_pixel
  found_pixel x y (Some tile) h = h.pixels x y (subst (λ (b : Bounds). IsTrue (holds b x y)) (sym h.rect) (tile_holds s x y are))

  module _ (can : CanAllBeShown s tiles) where
    pub slice_is_pixel : (x y : ℤ) → IsPixel (placed_colour s tiles p x y)
    slice_is_pixel x y = elim (holds p.shown x y) as (λ b. IsPixel (if b then tiles_colour s tiles p.key (x -ℤ p.origin.x) (y -ℤ p.origin.y) else clear)) [
      | true ↦ found_pixel (x -ℤ p.origin.x) (y -ℤ p.origin.y) (tile_at (key_at s p.key (x -ℤ p.origin.x) (y -ℤ p.origin.y)) tiles) (can (key_at s p.key (x -ℤ p.origin.x) (y -ℤ p.origin.y)))
      | false ↦ clear_is_pixel
    ]

    pixel_by : (rect : Bounds) (old new : PlanesModel) → AreAllPixels old → IsLaid (λ x y. blended Normal (placed_colour s tiles p (pos x) (pos y)) (pixel_at old x y)) (shows_in p rect) old new
        → (x y : ℕ) (b : Bool) → shows_in p rect x y ≡ b → x < old.width → y < old.height → IsPixel (pixel_at new x y)
    pixel_by rect old new pixels painted x y true e hx hy =
        let above = slice_is_pixel (pos x) (pos y) in
        let below = pixels x y hx hy in
        subst IsPixel (sym (painted.inside x y hx hy e)) (blend_is_pixel Normal (placed_colour s tiles p (pos x) (pos y)) (pixel_at old x y) above.byte below.byte)
    pixel_by rect old new pixels painted x y false e hx hy = subst IsPixel (sym (painted.outside x y hx hy e)) (pixels x y hx hy)

    -- planes over which a tile was laid have pixels
    pub laid_pixels : (rect : Bounds) (old new : PlanesModel) → AreAllPixels old → IsLaid (λ x y. blended Normal (placed_colour s tiles p (pos x) (pos y)) (pixel_at old x y)) (shows_in p rect) old new → AreAllPixels new
    laid_pixels rect old new pixels painted x y hx hy =
        pixel_by rect old new pixels painted x y (shows_in p rect x y) refl (omega (arith, hx, painted.sides.width)) (omega (arith, hy, painted.sides.height))

-- ---- the tiles of a grid, one after another

-- the first n tiles of a grid are painted where their slice shows, and nothing else is
pub record AreLaid (f : ℕ → ℕ → Px) (p : Placed) (g : GridModel) (n : ℕ) (old new : PlanesModel) : Type 0 where
  pub sides : KeepSides old new
  pub inside : (x y i : ℕ) → x < old.width → y < old.height → i < n → IsTrue (shows_in p (grid_tile g i).rect x y) → pixel_at new x y ≡ f x y
  pub outside : (x y : ℕ) → x < old.width → y < old.height → ((i : ℕ) → i < n → IsFalse (shows_in p (grid_tile g i).rect x y)) → pixel_at new x y ≡ pixel_at old x y

pub none_laid : (f : ℕ → ℕ → Px) (p : Placed) (g : GridModel) (old : PlanesModel) → AreLaid f p g 0 old old
none_laid f p g old = record {
  sides = record { width = refl; height = refl };
  inside = λ x y i hx hy h. absurd (omega (arith, h));
  outside = λ x y hx hy far. refl;
}

module _ (p : Placed) (g : GridModel) (are : AreTileSides g.sides) (colour : ℕ → ℕ → Px) (n : ℕ) (old mid new : PlanesModel)
    (before : AreLaid (λ x y. blended Normal (colour x y) (pixel_at old x y)) p g n old mid)
    (painted : IsLaid (λ x y. blended Normal (colour x y) (pixel_at mid x y)) (shows_in p (grid_tile g n).rect) mid new) where
  in_mid : (x : ℕ) → x < old.width → x < mid.width
  in_mid x h = omega (arith, h, before.sides.width)

  down_mid : (y : ℕ) → y < old.height → y < mid.height
  down_mid y h = omega (arith, h, before.sides.height)

  -- a pixel of this tile lies in none before it
  apart : (x y i : ℕ) → IsTrue (shows_in p (grid_tile g n).rect x y) → i < n → (b : Bool) → shows_in p (grid_tile g i).rect x y ≡ b → IsFalse (shows_in p (grid_tile g i).rect x y)
  apart x y i here h true e =
      let same = only_index g i n (pos x -ℤ p.origin.x) (pos y -ℤ p.origin.y) are (shows_rect p (grid_tile g i).rect x y e) (shows_rect p (grid_tile g n).rect x y here) in
      absurd (omega (arith, same, h))
  apart x y i here h false e = e

  inside_by : (x y i : ℕ) (b : Bool) → shows_in p (grid_tile g n).rect x y ≡ b → x < old.width → y < old.height → i < n + 1 → IsTrue (shows_in p (grid_tile g i).rect x y)
      → pixel_at new x y ≡ blended Normal (colour x y) (pixel_at old x y)
  inside_by x y i true e hx hy h t =
      painted.inside x y (in_mid x hx) (down_mid y hy) e
      ∙ ap (λ (d : Px). blended Normal (colour x y) d) (before.outside x y hx hy (λ j k. apart x y j e k (shows_in p (grid_tile g j).rect x y) refl))
  inside_by x y i false e hx hy h t = elim (cases_lt i n) [
    | inl less ↦ painted.outside x y (in_mid x hx) (down_mid y hy) e ∙ before.inside x y i hx hy less t
    | inr more ↦
        let is : i ≡ n = omega (arith, h, more) in
        absurd (true≢false (sym (subst (λ (k : ℕ). IsTrue (shows_in p (grid_tile g k).rect x y)) is t) ∙ e))
  ]

  pub one_more_laid : AreLaid (λ x y. blended Normal (colour x y) (pixel_at old x y)) p g (n + 1) old new
  one_more_laid = record {
    sides = record { width = painted.sides.width ∙ before.sides.width; height = painted.sides.height ∙ before.sides.height };
    inside = λ x y i hx hy h t. inside_by x y i (shows_in p (grid_tile g n).rect x y) refl hx hy h t;
    outside = λ x y hx hy far. painted.outside x y (in_mid x hx) (down_mid y hy) (far n (omega arith)) ∙ before.outside x y hx hy (λ i h. far i (omega (arith, h)));
  }

module _ {T : Type 0} (s : TileSides) (tiles : TileList T) (p : Placed) (are : AreTileSides s) (points : IsTrue (has_points (in_slice p.shown p.origin))) (old new : PlanesModel) (pixels : AreAllPixels old)
    (laid : AreLaid (λ x y. blended Normal (placed_colour s tiles p (pos x) (pos y)) (pixel_at old x y)) p (grid_over s (in_slice p.shown p.origin)) (count_of (grid_over s (in_slice p.shown p.origin))) old new) where
  laid_by : (x y : ℕ) (b : Bool) → holds p.shown (pos x) (pos y) ≡ b → x < old.width → y < old.height → pixel_at new x y ≡ blended Normal (placed_colour s tiles p (pos x) (pos y)) (pixel_at old x y)
  laid_by x y true e hx hy =
      let g = grid_over s (in_slice p.shown p.origin) in
      let i = index_of_point s (in_slice p.shown p.origin) (pos x -ℤ p.origin.x) (pos y -ℤ p.origin.y) are points (slice_holds p.shown p.origin (pos x) (pos y) ∙ e) in
      laid.inside x y i.index hx hy i.below (both (holds (grid_tile g i.index).rect (pos x -ℤ p.origin.x) (pos y -ℤ p.origin.y)) (holds p.shown (pos x) (pos y)) i.here e)
  laid_by x y false e hx hy =
      let g = grid_over s (in_slice p.shown p.origin) in
      laid.outside x y hx hy (λ i h. never (holds (grid_tile g i).rect (pos x -ℤ p.origin.x) (pos y -ℤ p.origin.y)) (holds p.shown (pos x) (pos y)) e)
      ∙ below_clear (placed_colour s tiles p (pos x) (pos y)) (pixel_at old x y) (hidden_colour s tiles p are (pos x) (pos y) e) (pixels x y hx hy)

  -- with all its tiles laid, a slice is laid
  pub slice_laid : (x y : ℕ) → x < old.width → y < old.height → pixel_at new x y ≡ blended Normal (placed_colour s tiles p (pos x) (pos y)) (pixel_at old x y)
  slice_laid x y hx hy = laid_by x y (holds p.shown (pos x) (pos y)) refl hx hy

-- a slice that can be shown in planes can be shown in others of their sides
pub placed_in : (p : Placed) (old new : PlanesModel) → KeepSides old new → IsPlacedIn old p → IsPlacedIn new p
placed_in p old new sides h = record {
  origin = h.origin;
  shown = λ x y i. subst (λ (b : Bounds). IsTrue (holds b x y)) (ap₂ (λ (n m : ℕ). record { x0 = pos 0; y0 = pos 0; x1 = pos n; y1 = pos m }) (sym sides.width) (sym sides.height)) (h.shown x y i);
}
