-- What holds of primitives and of runs of entries, as laws on the definitions.
use Rattle.std.specs.Prelude.{◌≡◌, ℕ, ℤ, ◌+ℤ◌, ◌++◌, ◌∷◌, ◌≤◌, ◌&&◌, List, take, All, IsTrue, IsFalse}
use Rattle.wr_geom.specs.Bounds.{holds}
use Rattle.wr_geom.specs.declared.point.Point.{Point}
use Rattle.blend_rules.specs.Colour.{IsPixel, clear}
use Rattle.clip_masks.specs.Coverage.{chain_coverage}
use Rattle.image_store.specs.StoreModel.{StoreModel, IsStore}
use Rattle.primitives.specs.PrimitiveModel.{PrimitiveModel, IsPrimitive}
use Rattle.primitives.specs.Colours.{primitive_colour, covered_colour, visible_rect}
use Rattle.primitives.specs.Moves.{shifted_primitive, shifted_entry, shifted_entries}
use Rattle.primitives.specs.Clipping.{entry_clips, without_clips}
use Rattle.primitives.specs.Stacks.{Stack, step, run, balanced, is_shallow, IsRow}
use Rattle.primitives.specs.Facts.{IsOpaque, IsEntry, IsHidden, IsStack}
use Rattle.primitives.specs.declared.entry.Entry.{Entry}
use Rattle.primitives.specs.declared.entry.Entry.TheVariants as entry

-- ---- colours

-- a primitive's colour is premultiplied and of four bytes
abbrev pub ColourIsPixel : Type 0
ColourIsPixel = (store : StoreModel) (p : PrimitiveModel) (x y : ℤ) → IsStore store → IsPrimitive p → IsPixel (primitive_colour store p x y)

-- so is what its clips leave of it
abbrev pub CoveredIsPixel : Type 0
CoveredIsPixel = (store : StoreModel) (p : PrimitiveModel) (x y : ℤ) → IsStore store → IsPrimitive p → IsPixel (covered_colour store p x y)

-- outside of its visible rectangle that is clear
abbrev pub ClearWhereNotVisible : Type 0
ClearWhereNotVisible = (store : StoreModel) (p : PrimitiveModel) (x y : ℤ) → IsStore store → IsPrimitive p → IsFalse (holds (visible_rect p) x y) → covered_colour store p x y ≡ clear

-- an opaque primitive has alpha 255 at each point of its rectangle
abbrev pub OpaqueIsFull : Type 0
OpaqueIsFull = (store : StoreModel) (p : PrimitiveModel) (x y : ℤ) → IsStore store → IsOpaque store p.kind → IsTrue (holds p.rect x y) → (primitive_colour store p x y).a ≡ 255

-- where its clips leave all of it, it replaces any colour below
abbrev pub OpaqueReplaces : Type 0
OpaqueReplaces = (store : StoreModel) (p : PrimitiveModel) (x y : ℤ) (s : Stack) → IsStore store → IsPrimitive p → IsOpaque store p.kind → IsTrue (holds p.rect x y) → chain_coverage p.clips 255 x y ≡ 255
    → step store x y (entry.Primitive p) s ≡ record { top = primitive_colour store p x y; groups = s.groups }

-- ---- moves

-- a moved primitive has its colours at the moved points
abbrev pub ShiftedHasColours : Type 0
ShiftedHasColours = (store : StoreModel) (p : PrimitiveModel) (by : Point) (x y : ℤ) → primitive_colour store (shifted_primitive p by) (x +ℤ by.x) (y +ℤ by.y) ≡ primitive_colour store p x y

-- its moved clips leave as much of them
abbrev pub ShiftedHasCoveredColours : Type 0
ShiftedHasCoveredColours = (store : StoreModel) (p : PrimitiveModel) (by : Point) (x y : ℤ) → covered_colour store (shifted_primitive p by) (x +ℤ by.x) (y +ℤ by.y) ≡ covered_colour store p x y

-- a moved entry does at a moved point what the entry did at the point
abbrev pub ShiftedSteps : Type 0
ShiftedSteps = (store : StoreModel) (e : Entry) (by : Point) (x y : ℤ) (s : Stack) → step store (x +ℤ by.x) (y +ℤ by.y) (shifted_entry e by) s ≡ step store x y e s

-- and so do moved entries
abbrev pub ShiftedRuns : Type 0
ShiftedRuns = (store : StoreModel) (es : List Entry) (by : Point) (x y : ℤ) (s : Stack) → run store (x +ℤ by.x) (y +ℤ by.y) (shifted_entries es by) s ≡ run store x y es s

-- its visible rectangle has the moved points
abbrev pub ShiftedIsVisible : Type 0
ShiftedIsVisible = (p : PrimitiveModel) (by : Point) (x y : ℤ) → holds (visible_rect (shifted_primitive p by)) (x +ℤ by.x) (y +ℤ by.y) ≡ holds (visible_rect p) x y

-- ---- runs

-- an entry without clips that leave all of a point does there what it did
abbrev pub FullClipsDoNothing : Type 0
FullClipsDoNothing = (store : StoreModel) (x y : ℤ) (e : Entry) (n : ℕ) (s : Stack) → chain_coverage (take n (entry_clips e)) 255 x y ≡ 255 → step store x y (without_clips e n) s ≡ step store x y e s

-- entries run part by part
abbrev pub RunsInParts : Type 0
RunsInParts = (store : StoreModel) (x y : ℤ) (es fs : List Entry) (s : Stack) → run store x y (es ++ fs) s ≡ run store x y fs (run store x y es s)

-- a balanced list leaves the open groups below the top
abbrev pub BalancedLeavesGroups : Type 0
BalancedLeavesGroups = (store : StoreModel) (x y : ℤ) (es : List Entry) (s : Stack) → IsTrue (balanced 0 es) → (run store x y es s).groups ≡ s.groups

-- what it leaves on top knows nothing of the groups below
abbrev pub BalancedKnowsTopAlone : Type 0
BalancedKnowsTopAlone = (store : StoreModel) (x y : ℤ) (es : List Entry) (s t : Stack) → IsTrue (balanced 0 es) → s.top ≡ t.top → (run store x y es s).top ≡ (run store x y es t).top

-- primitives and whole groups are balanced
abbrev pub RowsAreBalanced : Type 0
RowsAreBalanced = (es : List Entry) → IsRow es → IsTrue (balanced 0 es)

-- primitives and whole groups are as shallow before others as alone, and leave as much room
abbrev pub RowsLeaveRoom : Type 0
RowsLeaveRoom = (room : ℕ) (es fs : List Entry) → IsRow es → is_shallow room (es ++ fs) ≡ (is_shallow room es && is_shallow room fs)

-- what is shallow is so where there is more room
abbrev pub RoomIsEnough : Type 0
RoomIsEnough = (room more : ℕ) (es : List Entry) → room ≤ more → IsTrue (is_shallow room es) → IsTrue (is_shallow more es)

-- moved entries are as shallow
abbrev pub ShiftedIsShallow : Type 0
ShiftedIsShallow = (room : ℕ) (es : List Entry) (by : Point) → is_shallow room (shifted_entries es by) ≡ is_shallow room es

-- and so are entries of which the first has fewer clips
abbrev pub FewerClipsAreShallow : Type 0
FewerClipsAreShallow = (room n : ℕ) (e : Entry) (es : List Entry) → is_shallow room (without_clips e n ∷ es) ≡ is_shallow room (e ∷ es)

-- a stack of pixels stays one
abbrev pub RunKeepsPixels : Type 0
RunKeepsPixels = (store : StoreModel) (x y : ℤ) (es : List Entry) (s : Stack) → IsStore store → All IsEntry es → IsStack s → IsStack (run store x y es s)

-- a primitive that isn't visible at a point leaves the stack there
abbrev pub HiddenLeavesStack : Type 0
HiddenLeavesStack = (store : StoreModel) (x y : ℤ) (p : PrimitiveModel) (s : Stack) → IsStore store → IsPrimitive p → IsPixel s.top → IsFalse (holds (visible_rect p) x y) → step store x y (entry.Primitive p) s ≡ s

-- so does a balanced list in which no primitive is visible there
abbrev pub HiddenListLeavesStack : Type 0
HiddenListLeavesStack = (store : StoreModel) (x y : ℤ) (es : List Entry) (s : Stack) → IsStore store → All IsEntry es → IsPixel s.top → IsTrue (balanced 0 es) → All (IsHidden x y) es → run store x y es s ≡ s
