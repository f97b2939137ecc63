-- The tiles of one axis that have a coordinate of a range.
use Rattle.std.proofs.Common.{◌≡◌, ℕ, ◌<◌, ◌≤◌, ◌↔◌, min, arith}
use Rattle.std.specs.Prelude.{ℤ, pos, ◌+ℤ◌, ◌-ℤ◌, ◌≤ℤ◌, ◌<ℤ◌, unsigned_abs}
use Rattle.std.proofs.lemmas.Int.{ints, by_lt_z}
use Rattle.tile_grid.specs.Grids.{tile_of, span_over}
use Rattle.tile_grid.specs.Parts.{IsInPart, HasCoordinates}
use Rattle.tile_grid.proofs.Floors.{tiles_meet, some_tile}

-- the number of those from f to l
below_count : (f l : ℤ) (k : ℕ) → f ≤ℤ l → k < unsigned_abs ((l +ℤ pos 1) -ℤ f) → (f +ℤ pos k) ≤ℤ l
below_count f l k h i = omega (arith, ints, h, i)

-- a tile with its distance from the first one
pub record IsCounted (f : ℤ) (n : ℕ) (t : ℤ) : Type 0 where
  pub index : ℕ
  pub inside : index < n
  pub place : (f +ℤ pos index) ≡ t

counted : (f l t : ℤ) → f ≤ℤ t → t ≤ℤ l → IsCounted f (unsigned_abs ((l +ℤ pos 1) -ℤ f)) t
counted f l t h k = record { index = unsigned_abs (t -ℤ f); inside = omega (arith, ints, h, k); place = omega (arith, ints, h) }

from_index : (f : ℤ) (k : ℕ) → f ≤ℤ (f +ℤ pos k)
from_index f k = omega (arith, ints)

pub span_has : (s : ℕ) (a b : ℤ) (k : ℕ) → 0 < s → a <ℤ b → k < (span_over s a b).count → HasCoordinates s a b ((span_over s a b).first +ℤ pos k)
span_has s a b k h o i =
    let t = tile_of s a +ℤ pos k in
    let m = (tiles_meet s a b t h).0 (from_index (tile_of s a) k, below_count (tile_of s a) (tile_of s (b -ℤ pos 1)) k (some_tile s a b h o) i) in
    record { begins = m.1; ends = m.0 }

pub has_index : (s : ℕ) (a b t : ℤ) → 0 < s → HasCoordinates s a b t → IsCounted (span_over s a b).first (span_over s a b).count t
has_index s a b t h c =
    let m = (tiles_meet s a b t h).1 (c.ends, c.begins) in
    counted (tile_of s a) (tile_of s (b -ℤ pos 1)) t m.0 m.1

-- the part of a span between the first tile that has a coordinate and the one after the last
pub part_is : (s : ℕ) (a b t : ℤ) (k from to : ℕ) → 0 < s → (k < from) ↔ (t <ℤ tile_of s a) → (k < to) ↔ (t <ℤ (tile_of s (b -ℤ pos 1) +ℤ pos 1))
    → IsInPart (record { from = min from to; to = to }) k ↔ HasCoordinates s a b t
part_is s a b t k from to h f g = (
  λ i.
      let low : tile_of s a ≤ℤ t = by_lt_z t (tile_of s a) (λ x. let n = f.1 x in let m = i.from in let l = i.to in absurd (omega arith)) (λ x. x) in
      let y = g.0 i.to in
      let m = (tiles_meet s a b t h).0 (low, omega (arith, ints, y)) in
      record { begins = m.1; ends = m.0 },
  λ c.
      let m = (tiles_meet s a b t h).1 (c.ends, c.begins) in
      let low : from ≤ k = by_lt_z (pos k) (pos from) (λ x. let n : k < from = omega (arith, ints, x) in let y = f.0 n in let z = m.0 in absurd (omega (arith, ints, y, z))) (λ x. omega (arith, ints, x)) in
      let z = m.1 in
      let high : k < to = g.1 (omega (arith, ints, z)) in
      record { from = omega (arith, low); to = high },
)
