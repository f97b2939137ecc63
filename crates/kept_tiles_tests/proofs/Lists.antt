-- Lists that are short, or cut.
use Rattle.std.proofs.Common.{◌≡◌, ◌≤◌, ℕ, zero, suc, true, false, List, [], ◌∷◌, length, take, IfSome, IsTrue, refl, arith}
use Rattle.wr_geom.specs.declared.keys.TileKey.{TileKey}
use Rattle.primitives.specs.Stacks.{is_shallow}
use Rattle.primitives.specs.declared.entry.Entry.{Entry}
use Rattle.primitives.specs.declared.entry.Entry.TheVariants as entry
use Rattle.tile_grid.specs.Tiles.{tile_rect}
use Rattle.tile_grid.specs.declared.tile.TileSides.{TileSides}
use Rattle.tile_store.specs.Keys.{same_key}
use Rattle.kept_tiles.specs.Steps.{ArePlaced}
use Rattle.kept_tiles.specs.Tiles.{KeptTile, KeptTiles, kept_at}

-- no more groups are open at once than there are entries
pub short_is_shallow : (room : ℕ) (es : List Entry) → length es ≤ room → IsTrue (is_shallow room es)
short_is_shallow zero [] h = refl
short_is_shallow (suc room) [] h = refl
short_is_shallow zero (e ∷ es) h = absurd (omega (arith, h))
short_is_shallow (suc room) (entry.Primitive p ∷ es) h = short_is_shallow (suc room) es (omega (arith, h))
short_is_shallow (suc room) (entry.Push opacity mode clips ∷ es) h = short_is_shallow room es (omega (arith, h))
short_is_shallow (suc room) (entry.Pop ∷ es) h = short_is_shallow (suc (suc room)) es (omega (arith, h))

-- the first of some tiles are placed as all are
placed_at : (P : KeptTile → Type 0) (key : TileKey) (n : ℕ) (tiles : KeptTiles) → IfSome (kept_at key tiles) P → IfSome (kept_at key (take n tiles)) P
placed_at P key zero [] h = tt
placed_at P key zero (e ∷ es) h = tt
placed_at P key (suc n) [] h = tt
placed_at P key (suc n) (e ∷ es) h = (elim (same_key key e.0) as (λ y. same_key key e.0 ≡ y → IfSome (kept_at key (e ∷ take n es)) P) [
  | true ↦ λ t. let here = rw t at h in rw t here
  | false ↦ λ t. let later = rw t at h in rw t (placed_at P key n es later)
]) refl

pub placed_first : (sides : TileSides) (n : ℕ) (tiles : KeptTiles) → ArePlaced sides tiles → ArePlaced sides (take n tiles)
placed_first sides n tiles placed key = placed_at (λ tile. tile.rect ≡ tile_rect sides key.col key.row) key n tiles (placed key)
