-- The tiles of a grid as a list: by index, and in order.
use Rattle.std.proofs.Common.{◌≡◌, ℕ, zero, suc, ◌<◌, ◌+◌, ◌*◌, ◌/◌, ◌%◌, ◌⊎◌, inl, inr, length, get_or, refl, sym, ap, subst, ◌∙◌, arith}
use Rattle.std.specs.Prelude.{ℤ, pos, ◌+ℤ◌, ◌<ℤ◌}
use Rattle.std.proofs.lemmas.Int.{ints}
use Rattle.std.proofs.lemmas.Nat.{div_below, mod_below, mul-le, div-add-mod', div-mul-add, mod-mul-add}
use Rattle.tile_grid.specs.declared.tile.GridTile.{GridTile}
use Rattle.tile_grid.specs.Tiles.{tile}
use Rattle.tile_grid.specs.Grids.{GridModel, IsBefore, count_of, tile_in, tile_at, tiles_from, tiles_of}
use Rattle.tile_grid.specs.Laws.{ListedAreTiles, TilesComeByRow, TilesByIndex, TilesAreCounted}

from_count : (g : GridModel) (i n : ℕ) → length (tiles_from g i n) ≡ n
from_count g i zero = refl
from_count g i (suc n) = ap suc (from_count g (suc i) n)

from_index : (g : GridModel) (i n k : ℕ) (d : GridTile) → k < n → get_or (tiles_from g i n) k d ≡ tile_at g (i + k)
from_index g i zero k d h = absurd (omega (arith, h))
from_index g i (suc n) zero d h = ap (tile_at g) (omega arith)
from_index g i (suc n) (suc k) d h = from_index g (suc i) n k d (omega (arith, h)) ∙ ap (tile_at g) (omega arith)

pub tiles_are_counted : TilesAreCounted
tiles_are_counted g = from_count g 0 (count_of g)

pub tiles_by_index : TilesByIndex
tiles_by_index g i d h = from_index g 0 (count_of g) i d h ∙ ap (tile_at g) (omega arith)

within : (g : GridModel) (k : ℕ) → k < length (tiles_of g) → k < count_of g
within g k h = subst (λ n. k < n) (tiles_are_counted g) h

pub listed_are_tiles : ListedAreTiles
listed_are_tiles g k d h = subst (λ (t : GridTile). t ≡ tile g.sides t.col t.row) (sym (tiles_by_index g k d (within g k h))) refl

-- ---- rows and columns of indices

succ_times : (m s : ℕ) → suc m * s ≡ m * s + s
succ_times m s = omega arith

-- the greater number has the later row, or in the same row the later column
split_order : (n q p r s : ℕ) → r < n → s < n → q * n + r < p * n + s → (q < p) ⊎ ((q ≡ p) × (r < s))
split_order n zero zero r s h k o = inr (refl, omega (arith, o))
split_order n zero (suc p) r s h k o = inl (omega arith)
split_order n (suc q) zero r s h k o = let e = succ_times q n in absurd (omega (arith, e, o, k))
split_order n (suc q) (suc p) r s h k o =
    let e = succ_times q n in let f = succ_times p n in
    elim (split_order n q p r s h k (omega (arith, e, f, o))) [
      | inl i ↦ inl (omega (arith, i))
      | inr i ↦ inr (ap suc i.0, i.1)
    ]

some_columns : (n m k : ℕ) → k < m * n → 0 < n
some_columns zero m k h = let e : m * 0 ≡ 0 = omega arith in absurd (omega (arith, e, h))
some_columns (suc n) m k h = omega arith

later_row : (z : ℤ) (a b : ℕ) → a < b → (z +ℤ pos a) <ℤ (z +ℤ pos b)
later_row z a b h = omega (arith, ints, h)

at_order : (g : GridModel) (i j : ℕ) → i < j → j < count_of g → IsBefore (tile_at g i) (tile_at g j)
at_order g i j h k =
    let n = g.columns.count in
    let some : 0 < n = some_columns n g.rows.count j k in
    let a = div-add-mod' i n in
    let b = div-add-mod' j n in
    elim (split_order n (i / n) (j / n) (i % n) (j % n) (mod_below i n some) (mod_below j n some) (omega (arith, a, b, h))) [
      | inl e ↦ inl (later_row g.rows.first (i / n) (j / n) e)
      | inr e ↦ inr (ap (λ (m : ℕ). g.rows.first +ℤ pos m) e.0, later_row g.columns.first (i % n) (j % n) e.1)
    ]

pub tiles_come_by_row : TilesComeByRow
tiles_come_by_row g i j d h k =
    let e = tiles_by_index g i d (omega (arith, h, within g j k)) in
    let f = tiles_by_index g j d (within g j k) in
    subst (λ (t : GridTile). IsBefore t (get_or (tiles_of g) j d)) (sym e) (subst (λ (t : GridTile). IsBefore (tile_at g i) t) (sym f) (at_order g i j h (within g j k)))

-- the column and the row of an index are those of the grid
pub column_below : (g : GridModel) (i : ℕ) → i < count_of g → i % g.columns.count < g.columns.count
column_below g i h = mod_below i g.columns.count (some_columns g.columns.count g.rows.count i h)

pub row_below : (g : GridModel) (i : ℕ) → i < count_of g → i / g.columns.count < g.rows.count
row_below g i h = div_below i g.columns.count g.rows.count (some_columns g.columns.count g.rows.count i h) h

-- and back
pub index_below : (n m c r : ℕ) → c < n → r < m → r * n + c < m * n
index_below n m c r h k = let p = mul-le (suc r) n m n (omega (arith, k)) (omega arith) in let e = succ_times r n in omega (arith, p, e, h)

pub at_index : (g : GridModel) (c r : ℕ) → c < g.columns.count → tile_at g (r * g.columns.count + c) ≡ tile_in g c r
at_index g c r h =
    let n = g.columns.count in
    ap (λ (m : ℕ). tile_in g m ((r * n + c) / n)) (mod-mul-add r n c h) ∙ ap (λ (m : ℕ). tile_in g c m) (div-mul-add r n c h)
