-- Groups of a level: their Push, and what they leave.
use Rattle.std.proofs.Common.{◌≡◌, ℕ, zero, suc, ◌+◌, ◌^◌, ℤ, pos, ◌<ℤ◌, Bool, true, false, if◌then◌else◌, leb, Option, Some, None, List, ◌∷◌, drop, refl, sym, ap, subst, arith}
use Rattle.std.proofs.lemmas.Bool.{leb-false}
use Rattle.std.proofs.lemmas.Int.{ints}
use Rattle.wr_geom.specs.Bounds.{Bounds, holds}
use Rattle.wr_geom.specs.declared.point.Point.{Point}
use Rattle.blend_rules.specs.Colour.{scaled, blended}
use Rattle.blend_rules.specs.declared.colour.Px.{Px}
use Rattle.blend_rules.specs.declared.mode.Mode.{Mode}
use Rattle.clip_masks.specs.declared.clip.Clip.{Clip}
use Rattle.clip_masks.specs.Coverage.{chain_coverage, cut_by}
use Rattle.clip_masks.proofs.Chains.{beside_cut}
use Rattle.primitives.specs.Stacks.{group_over_backdrop}
use Rattle.primitives.specs.declared.entry.Entry.{Entry}
use Rattle.primitives.specs.declared.entry.Entry.TheVariants as entry
use Rattle.batching.specs.Depths.{Depths, depth_at, is_at_most}
use Rattle.tile_raster.specs.Levels.{IsAt, IsGroupEnd, over_group}
use Rattle.tile_raster.specs.Notes.{everywhere}
use Rattle.tile_raster.specs.Spans.{IsFirst, x_of, coverage_at, painted_above}
use Rattle.tile_raster.specs.Rasters.{start_of, start_at}
use Rattle.tile_raster.proofs.Levels.{after_primitive, after_pop, no_pop}
use Rattle.tile_raster.proofs.Spans.{holds_at}

-- an entry that opens a group is a Push
pub opens_group : (es : List Entry) (depth i j : ℕ) (e : Entry) → drop i es ≡ e ∷ drop (i + 1) es → IsAt es depth i → IsGroupEnd es depth i j
    → (o : ℕ) × (m : Mode) × (c : List Clip) × (e ≡ entry.Push o m c)
opens_group es depth i j (entry.Primitive q) d at end =
    absurd (omega (arith, end.within (i + 1) depth (omega arith) (omega (arith, end.order)) (after_primitive es depth i q d at)))
opens_group es depth i j (entry.Push o m c) d at end = (o, m, c, refl)
opens_group es zero i j entry.Pop d at end = absurd (no_pop es i d at)
opens_group es (suc n) i j entry.Pop d at end = absurd (omega (arith, end.within (i + 1) n (omega arith) (omega (arith, end.order)) (after_pop es n i d at)))

pub over_group_is : (o : ℕ) (m : Mode) (c : List Clip) (x y : ℤ) (top d : Px) → blended m (scaled (scaled top o) (chain_coverage c 255 x y)) d ≡ over_group o m c x y top d
unfolding group_over_backdrop
over_group_is o m c x y top d = refl

-- a depth that covers no more than the entry at i
at_most_start : (i : ℕ) (o : Option ℕ) → is_at_most i o ≡ leb (start_of o) i
at_most_start i None = by_test (leb 0 i) refl
  where
    by_test : (b : Bool) → leb 0 i ≡ b → true ≡ leb 0 i
    by_test true e = sym e
    by_test false e = absurd (omega (arith, leb-false 0 i e))
at_most_start i (Some d) = refl

pub above_start : (f : ℕ → Px → Px) (i : ℕ) (cover : Depths) (k : ℕ) (d : Px) → painted_above f i cover k d ≡ (if leb (start_at cover k) i then f k d else d)
above_start f i cover k d = ap (λ (b : Bool). if b then f k d else d) (at_most_start i (depth_at cover k))

-- the pixels of a row lie in the rectangle of all coordinates
in_everywhere : (first : Point) (k : ℕ) → IsFirst first → x_of first k <ℤ pos (2 ^ 29) → holds everywhere (x_of first k) first.y ≡ true
in_everywhere first k is h = holds_at everywhere (x_of first k) first.y (omega (arith, ints, is.left)) (omega (arith, ints, h)) (omega (arith, ints, is.top)) (omega (arith, ints, is.bottom))

-- beside the rectangle of a group's clips they leave nothing
pub nothing_beside : (clips : List Clip) (shown : Bounds) (first : Point) (k : ℕ) → shown ≡ cut_by everywhere clips → IsFirst first → x_of first k <ℤ pos (2 ^ 29) → holds shown (x_of first k) first.y ≡ false → coverage_at clips first k ≡ 0
nothing_beside clips shown first k e is h n =
    beside_cut everywhere clips 255 (x_of first k) first.y (omega arith) (in_everywhere first k is h) (subst (λ (b : Bounds). holds b (x_of first k) first.y ≡ false) e n)
