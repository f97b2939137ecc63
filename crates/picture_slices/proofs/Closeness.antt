-- Close entries can be moved by minus the origin of a slice, and stay good.
use Rattle.std.proofs.Common.{ℕ, zero, suc, ◌^◌, ℤ, neg_ℤ, ◌+ℤ◌, List, [], ◌∷◌, drop, arith}
use Rattle.std.specs.Prelude.{All}
use Rattle.std.proofs.lemmas.Int.{ints}
use Rattle.std.proofs.lemmas.List.Elements.{All-tail, All-weaker}
use Rattle.wr_geom.specs.Bounds.{Bounds, IsCoordinate, IsInRange, shifted}
use Rattle.wr_geom.specs.declared.point.Point.{Point}
use Rattle.clip_masks.specs.Clips.{CanShift}
use Rattle.clip_masks.specs.declared.clip.Clip.{Clip}
use Rattle.primitives.specs.declared.entry.Entry.{Entry}
use Rattle.primitives.specs.declared.entry.Entry.TheVariants as entry
use Rattle.primitives.specs.declared.kind.GlyphUse.{GlyphUse}
use Rattle.primitives.specs.declared.kind.Kind.{Kind}
use Rattle.primitives.specs.declared.kind.Kind.TheVariants as kind
use Rattle.primitives.specs.Clipping.{without_clips}
use Rattle.primitives.specs.Facts.{IsEntry}
use Rattle.primitives.specs.Moves.{shifted_entry, CanShiftGlyph, CanShiftKind, CanShiftEntry}
use Rattle.primitives.proofs.Moves.{kind_stays}
use Rattle.primitives.specs.Tops.{IsWithinPixels, IsSliceOrigin, IsCloseRect, IsCloseGlyph, IsCloseKind, AreCloseClips, IsCloseEntry}
use Rattle.picture_slices.specs.Slices.{back_from}

coordinate : (z d : ℤ) → IsWithinPixels (2 ^ 28) z → IsWithinPixels (2 ^ 27) d → IsCoordinate (z +ℤ d)
coordinate z d close near =
    let a = close.low in
    let b = close.high in
    let c = near.low in
    let e = near.high in
    record { low = omega (arith, ints); high = omega (arith, ints) }

rect_moves : (b : Bounds) (by : Point) → IsCloseRect b → IsSliceOrigin by → IsInRange (shifted b by)
rect_moves b by close near = record {
  left = coordinate b.x0 by.x close.left near.across;
  top = coordinate b.y0 by.y close.top near.down;
  right = coordinate b.x1 by.x close.right near.across;
  bottom = coordinate b.y1 by.y close.bottom near.down;
}

clips_move : (clips : List Clip) (by : Point) → AreCloseClips clips → IsSliceOrigin by → All (CanShift by) clips
clips_move clips by close near = All-weaker (λ (c : Clip). IsCloseRect c.shape.rect) (CanShift by) (λ c is. rect_moves c.shape.rect by is near) clips close

glyphs_move : (glyphs : List GlyphUse) (by : Point) → All IsCloseGlyph glyphs → IsSliceOrigin by → All (CanShiftGlyph by) glyphs
glyphs_move glyphs by close near =
    All-weaker IsCloseGlyph (CanShiftGlyph by) (λ g is. record { x = coordinate g.x by.x is.across near.across; y = coordinate g.y by.y is.down near.down }) glyphs close

kind_moves : (k : Kind) (by : Point) → IsCloseKind k → IsSliceOrigin by → CanShiftKind by k
kind_moves (kind.Solid colour) by close near = tt
kind_moves (kind.Image pipeline key generation u v) by close near = tt
kind_moves (kind.Border widths top right bottom l radii) by close near = tt
kind_moves (kind.Text pipeline font colour glyphs) by close near = glyphs_move glyphs by close near

pub entry_moves : (e : Entry) (by : Point) → IsCloseEntry e → IsSliceOrigin by → CanShiftEntry by e
entry_moves (entry.Primitive p) by close near = record { rect = rect_moves p.rect by close.rect near; kind = kind_moves p.kind by close.kind near; clips = clips_move p.clips by close.clips near }
entry_moves (entry.Push o m clips) by close near = clips_move clips by close near
entry_moves entry.Pop by close near = tt

-- ---- without clips

all_drop : {X : Type 0} (P : X → Type 0) (n : ℕ) (xs : List X) → All P xs → All P (drop n xs)
all_drop P zero xs all = all
all_drop P (suc n) [] all = all
all_drop P (suc n) (x ∷ xs) all = all_drop P n xs (All-tail P x xs all)

pub close_without : (e : Entry) (n : ℕ) → IsCloseEntry e → IsCloseEntry (without_clips e n)
close_without (entry.Primitive p) n close = record { rect = close.rect; kind = close.kind; clips = all_drop (λ (c : Clip). IsCloseRect c.shape.rect) n p.clips close.clips }
close_without (entry.Push o m clips) n close = all_drop (λ (c : Clip). IsCloseRect c.shape.rect) n clips close
close_without entry.Pop n close = tt

pub good_without : (e : Entry) (n : ℕ) → IsEntry e → IsEntry (without_clips e n)
good_without (entry.Primitive p) n good = good
good_without (entry.Push o m clips) n good = good
good_without entry.Pop n good = tt

-- ---- good entries

pub good_moved : (e : Entry) (by : Point) → IsEntry e → IsCloseEntry e → IsSliceOrigin by → IsEntry (shifted_entry e by)
good_moved (entry.Primitive p) by good close near = kind_stays p.rect p.kind by good (kind_moves p.kind by close.kind near)
good_moved (entry.Push o m clips) by good close near = good
good_moved entry.Pop by good close near = tt

-- ---- the way back

back : (z : ℤ) → IsWithinPixels (2 ^ 27) z → IsWithinPixels (2 ^ 27) (neg_ℤ z)
back z is =
    let a = is.low in
    let b = is.high in
    record { low = omega (arith, ints); high = omega (arith, ints) }

pub back_is_origin : (p : Point) → IsSliceOrigin p → IsSliceOrigin (back_from p)
back_is_origin p is = record { across = back p.x is.across; down = back p.y is.down }
