-- Tiles whose pixels are their records' values where the resources that they name are current.
use Rattle.std.specs.Prelude.{◌≡◌, ℕ, ◌≤◌, Option, Some, None, IfSome, IsTrue, All, ℤ, option_map}
use Rattle.wr_geom.specs.Bounds.{holds}
use Rattle.wr_geom.specs.declared.keys.TileKey.{TileKey}
use Rattle.blend_rules.specs.Colour.{IsPixel}
use Rattle.image_store.specs.StoreModel.{StoreModel, image_at, glyph_at}
use Rattle.primitives.specs.Facts.{IsEntry}
use Rattle.primitives.specs.declared.entry.Entry.{Entry}
use Rattle.primitives.specs.declared.entry.Entry.TheVariants as entry
use Rattle.primitives.specs.declared.kind.Kind.{Kind}
use Rattle.primitives.specs.declared.kind.Kind.TheVariants as kind
use Rattle.tile_grid.specs.Tiles.{tile_rect}
use Rattle.tile_grid.specs.declared.tile.TileSides.{TileSides}
use Rattle.tile_records.specs.Right.{IsCurrentKind, IsRight}
use Rattle.kept_tiles.specs.Tiles.{KeptTile, KeptTiles, colour_of, kept_at}

-- if the entry is a primitive, what it uses is stored now
abbrev pub IsCurrent : StoreModel → Entry → Type 0
IsCurrent store (entry.Primitive p) = IsCurrentKind store p.kind
IsCurrent store (entry.Push opacity mode clips) = Unit {0}
IsCurrent store entry.Pop = Unit {0}

-- a use has no generation above n
abbrev pub IsUseUpTo : ℕ → Option ℕ → Type 0
IsUseUpTo n None = Unit {0}
IsUseUpTo n (Some generation) = generation ≤ n

abbrev pub IsKindUpTo : ℕ → Kind → Type 0
IsKindUpTo n (kind.Solid colour) = Unit {0}
IsKindUpTo n (kind.Image pipeline key generation u v) = IsUseUpTo n generation
IsKindUpTo n (kind.Border widths top right bottom l radii) = Unit {0}
IsKindUpTo n (kind.Text pipeline font colour glyphs) = All (λ g. IsUseUpTo n g.generation) glyphs

-- if the entry is a primitive, it names no generation above n
abbrev pub IsNamedUpTo : ℕ → Entry → Type 0
IsNamedUpTo n (entry.Primitive p) = IsKindUpTo n p.kind
IsNamedUpTo n (entry.Push opacity mode clips) = Unit {0}
IsNamedUpTo n entry.Pop = Unit {0}

-- what holds of a kept tile under tiles of these sides, a counter of generations and what is stored
pub record IsSound (sides : TileSides) (n : ℕ) (store : StoreModel) (key : TileKey) (tile : KeptTile) : Type 0 where
  pub rect : tile.rect ≡ tile_rect sides key.col key.row
  pub pixels : (x y : ℤ) → IsTrue (holds tile.rect x y) → IsPixel (colour_of tile x y)
  pub good : All IsEntry tile.entries
  pub named : All (IsNamedUpTo n) tile.entries
  pub right : IsRight store (colour_of tile) tile.entries tile.rect

-- of each
abbrev pub AreSound : TileSides → ℕ → StoreModel → KeptTiles → Type 0
AreSound sides n store tiles = (key : TileKey) → IfSome (kept_at key tiles) (λ tile. IsSound sides n store key tile)

-- ---- stores that agree

-- where both have a resource of one generation under a key, it is the same
pub record Agrees (a b : StoreModel) : Type 0 where
  pub images : (p k g : ℕ) → option_map (λ i. i.generation) (image_at a p k) ≡ Some g → option_map (λ i. i.generation) (image_at b p k) ≡ Some g
      → image_at a p k ≡ image_at b p k
  pub masks : (p f k g : ℕ) → option_map (λ m. m.generation) (glyph_at a p f k) ≡ Some g → option_map (λ m. m.generation) (glyph_at b p f k) ≡ Some g
      → glyph_at a p f k ≡ glyph_at b p f k
