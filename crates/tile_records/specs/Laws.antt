-- What holds of records and of their dirt, as laws on the definitions.
use Rattle.std.specs.Prelude.{◌≡◌, ℕ, ℤ, List, [], ◌∷◌, ◌++◌, All, Contains, IsTrue, IsFalse, if◌then◌else◌}
use Rattle.wr_geom.specs.Bounds.{Bounds, Covers as HasPointsOf, holds, nowhere}
use Rattle.blend_rules.specs.declared.colour.Px.{Px}
use Rattle.blend_rules.specs.declared.mode.Mode.{Mode}
use Rattle.clip_masks.specs.declared.clip.Clip.{Clip}
use Rattle.image_store.specs.StoreModel.{StoreModel, IsStore}
use Rattle.primitives.specs.Facts.{IsEntry}
use Rattle.primitives.specs.PrimitiveModel.{PrimitiveModel}
use Rattle.primitives.specs.Stacks.{IsRow, balanced, is_shallow, value_at}
use Rattle.primitives.specs.declared.entry.Entry.{Entry}
use Rattle.primitives.specs.declared.entry.Entry.TheVariants as entry
use Rattle.tile_records.specs.Interning.{Interning, AreHeld, entries_under}
use Rattle.tile_records.specs.Counts.{IsAcquired, Covers, Moves}
use Rattle.tile_records.specs.Picks.{shows_in, picked}
use Rattle.tile_records.specs.Dirt.{dirt, extent, extent_from}
use Rattle.tile_records.specs.Right.{IsCurrentAt, IsRight}

-- ---- what is picked, told over primitives and whole groups

abbrev pub PickedOfNothing : Type 0
PickedOfNothing = (rect : Bounds) → picked rect [] ≡ []

-- a primitive is picked where its visible rectangle meets the tile
abbrev pub PickedOfPrimitive : Type 0
PickedOfPrimitive = (rect : Bounds) (p : PrimitiveModel) (es : List Entry)
    → picked rect (entry.Primitive p ∷ es) ≡ (if shows_in rect p then entry.Primitive p ∷ picked rect es else picked rect es)

-- a group round what is picked of it, and nothing where nothing is
abbrev pub group_round : ℕ → Mode → List Clip → List Entry → List Entry
group_round opacity mode clips [] = []
group_round opacity mode clips (e ∷ es) = entry.Push opacity mode clips ∷ ((e ∷ es) ++ (entry.Pop ∷ []))

abbrev pub PickedOfGroup : Type 0
PickedOfGroup = (rect : Bounds) (opacity : ℕ) (mode : Mode) (clips : List Clip) (es fs : List Entry) → IsRow es → IsRow fs
    → picked rect (entry.Push opacity mode clips ∷ (es ++ (entry.Pop ∷ fs))) ≡ group_round opacity mode clips (picked rect es) ++ picked rect fs

-- ---- what is picked has all that matters

-- its value is that of all entries, at each point of the tile
abbrev pub PickedHasValues : Type 0
PickedHasValues = (store : StoreModel) (es : List Entry) (rect : Bounds) (x y : ℤ) → IsStore store → All IsEntry es → IsTrue (balanced 0 es) → IsTrue (holds rect x y)
    → value_at (picked rect es) store x y ≡ value_at es store x y

abbrev pub PickedIsBalanced : Type 0
PickedIsBalanced = (rect : Bounds) (es : List Entry) → IsTrue (balanced 0 es) → IsTrue (balanced 0 (picked rect es))

abbrev pub PickedIsShallow : Type 0
PickedIsShallow = (rect : Bounds) (room : ℕ) (es : List Entry) → IsTrue (is_shallow room es) → IsTrue (is_shallow room (picked rect es))

abbrev pub PickedAreEntries : Type 0
PickedAreEntries = (rect : Bounds) (es : List Entry) → All (Contains es) (picked rect es)

-- ---- dirt

-- lists that differ in balanced middles have equal values outside of the middles' primitives
abbrev pub MiddlesMatterInside : Type 0
MiddlesMatterInside = (store : StoreModel) (x y : ℤ) (front old new back : List Entry) → IsStore store → All IsEntry front → All IsEntry old → All IsEntry new
    → IsTrue (balanced 0 old) → IsTrue (balanced 0 new) → IsFalse (holds (extent_from (extent old) new) x y)
    → value_at (front ++ (old ++ back)) store x y ≡ value_at (front ++ (new ++ back)) store x y

-- outside of the dirt no value changes
abbrev pub DirtIsEnough : Type 0
DirtIsEnough = (store : StoreModel) (old new : List Entry) (rect : Bounds) (x y : ℤ) → IsStore store → All IsEntry old → All IsEntry new
    → IsTrue (holds rect x y) → IsFalse (holds (dirt old new rect) x y)
    → value_at old store x y ≡ value_at new store x y

-- outside of the dirt, a tile that is right for the old entries has the pixels of the new ones, where these are current
abbrev pub NothingIsStale : Type 0
NothingIsStale = (store : StoreModel) (pixel : ℤ → ℤ → Px) (old new : List Entry) (rect : Bounds) (x y : ℤ) → IsStore store → All IsEntry old → All IsEntry new
    → IsRight store pixel old rect → All (IsCurrentAt store x y) new
    → IsTrue (holds rect x y) → IsFalse (holds (dirt old new rect) x y)
    → pixel x y ≡ value_at new store x y

-- between equal records there is no dirt
abbrev pub SameIsClean : Type 0
SameIsClean = (es : List Entry) (rect : Bounds) → dirt es es rect ≡ nowhere

-- dirt lies in the tile
abbrev pub DirtIsInTile : Type 0
DirtIsInTile = (old new : List Entry) (rect : Bounds) → HasPointsOf rect (dirt old new rect)

-- ---- ids that are held

-- ids may be held in parts
abbrev pub AcquiredInParts : Type 0
AcquiredInParts = (a b c : Interning) (xs ys : List ℕ) → IsAcquired a b xs → IsAcquired b c ys → IsAcquired a c (xs ++ ys)

-- one move after another is a move
abbrev pub MovesInParts : Type 0
MovesInParts = (a b c : Interning) (from mid to : List ℕ) → Moves a b from mid → Moves b c mid to → Moves a c from to

-- ids are still held, with their entries
pub record StayHeld (old new : Interning) (ids : List ℕ) : Type 0 where
  pub held : AreHeld new ids
  pub entries : entries_under new ids ≡ entries_under old ids

-- whatever is held more often, ids that are held stay
abbrev pub HeldStay : Type 0
HeldStay = (old new : Interning) (more ids : List ℕ) → IsAcquired old new more → AreHeld old ids → StayHeld old new ids

-- what others claim stays
abbrev pub ClaimedStay : Type 0
ClaimedStay = (old new : Interning) (from to claims : List ℕ) → Moves old new from to → Covers old (from ++ claims) → StayHeld old new claims

-- ids that are claimed are held
abbrev pub CoveredAreHeld : Type 0
CoveredAreHeld = (m : Interning) (claims : List ℕ) → Covers m claims → AreHeld m claims
