-- What holds of clips and of chains of them, as laws on the definitions.
use Rattle.std.specs.Prelude.{◌≡◌, ℕ, ◌^◌, ◌<◌, ◌≤◌, ◌↔◌, ℤ, ◌+ℤ◌, true, List, [], ◌++◌, All, IsTrue, IsFalse}
use Rattle.wr_geom.specs.Bounds.{Bounds, Covers, holds}
use Rattle.wr_geom.specs.declared.point.Point.{Point}
use Rattle.clip_masks.specs.Outline.{Outline, samples_inside, shifted_outline}
use Rattle.clip_masks.specs.Coverage.{coverage, chain_coverage, cut_by}
use Rattle.clip_masks.specs.Clips.{IsRectClip, same_clip, shifted_clip, shifted_clips}
use Rattle.clip_masks.specs.declared.clip.Clip.{Clip}

-- ---- one clip

-- a coverage is a byte
abbrev pub CoverageIsByte : Type 0
CoverageIsByte = (c : Clip) (x y : ℤ) → coverage c x y < 2 ^ 8

-- the test of sameness is true for equal clips alone
abbrev pub SameClipsAreEqual : Type 0
SameClipsAreEqual = (a b : Clip) → (same_clip a b ≡ true) ↔ (a ≡ b)

-- a moved shape has as many samples in the moved pixels
abbrev pub ShiftedHasMovedSamples : Type 0
ShiftedHasMovedSamples = (s : Outline) (by : Point) (x y : ℤ) → samples_inside (shifted_outline s by) (x +ℤ by.x) (y +ℤ by.y) ≡ samples_inside s x y

-- a moved clip covers the moved pixels
abbrev pub ShiftedCoversMoved : Type 0
ShiftedCoversMoved = (c : Clip) (by : Point) (x y : ℤ) → coverage (shifted_clip c by) (x +ℤ by.x) (y +ℤ by.y) ≡ coverage c x y

-- ---- chains

-- no clip leaves the cover around it
abbrev pub ChainOfNone : Type 0
ChainOfNone = (outer : ℕ) (x y : ℤ) → chain_coverage [] outer x y ≡ outer

-- a chain after another covers what that one leaves
abbrev pub ChainOfBoth : Type 0
ChainOfBoth = (first second : List Clip) (outer : ℕ) (x y : ℤ) → chain_coverage (first ++ second) outer x y ≡ chain_coverage second (chain_coverage first outer x y) x y

-- where nothing is left, nothing comes back
abbrev pub ChainOfNothing : Type 0
ChainOfNothing = (clips : List Clip) (x y : ℤ) → chain_coverage clips 0 x y ≡ 0

-- a chain leaves no more than the cover around it, so a byte stays one
abbrev pub ChainAtMostOuter : Type 0
ChainAtMostOuter = (clips : List Clip) (outer : ℕ) (x y : ℤ) → chain_coverage clips outer x y ≤ outer

-- a moved chain covers the moved pixels
abbrev pub ShiftedChainCoversMoved : Type 0
ShiftedChainCoversMoved = (clips : List Clip) (by : Point) (outer : ℕ) (x y : ℤ) → chain_coverage (shifted_clips clips by) outer (x +ℤ by.x) (y +ℤ by.y) ≡ chain_coverage clips outer x y

-- ---- the cut of a rectangle

-- a cut lies in the rectangle
abbrev pub CutIsInside : Type 0
CutIsInside = (b : Bounds) (clips : List Clip) → Covers b (cut_by b clips)

-- at points of the rectangle that a cut leaves out, the chain leaves nothing
abbrev pub ChainBesideCut : Type 0
ChainBesideCut = (b : Bounds) (clips : List Clip) (outer : ℕ) (x y : ℤ) → outer < 2 ^ 8 → IsTrue (holds b x y) → IsFalse (holds (cut_by b clips) x y)
    → chain_coverage clips outer x y ≡ 0

-- in the cut by rectangle clips, the chain leaves the cover around it
abbrev pub ChainWithinCut : Type 0
ChainWithinCut = (b : Bounds) (clips : List Clip) (outer : ℕ) (x y : ℤ) → All IsRectClip clips → IsTrue (holds (cut_by b clips) x y)
    → chain_coverage clips outer x y ≡ outer
