-- Nesting levels of entries, and how far a level has been run.
use Rattle.std.specs.Prelude.{◌≡◌, ℕ, ◌+◌, ◌<◌, ◌≤◌, ◌⊎◌, ℤ, true, List, ◌∷◌, drop, max}
use Rattle.blend_rules.specs.Colour.{clear, blended}
use Rattle.blend_rules.specs.declared.colour.Px.{Px}
use Rattle.blend_rules.specs.declared.mode.Mode.{Mode}
use Rattle.blend_rules.specs.declared.mode.Mode.TheVariants.{Normal}
use Rattle.clip_masks.specs.Coverage.{chain_coverage}
use Rattle.clip_masks.specs.declared.clip.Clip.{Clip}
use Rattle.image_store.specs.StoreModel.{StoreModel}
use Rattle.primitives.specs.PrimitiveModel.{PrimitiveModel}
use Rattle.primitives.specs.Colours.{covered_colour}
use Rattle.primitives.specs.Stacks.{Group, run, balanced, group_over_backdrop}
use Rattle.primitives.specs.declared.entry.Entry.{Entry}
use Rattle.primitives.specs.declared.entry.Entry.TheVariants as entry

-- so many groups are open before the entry at i: the entries from there on end that many
abbrev pub IsAt : List Entry → ℕ → ℕ → Type 0
IsAt es n i = balanced n (drop i es) ≡ true

-- at none of the positions from one to another, both included, are fewer groups open
abbrev pub StaysWithin : List Entry → ℕ → ℕ → ℕ → Type 0
StaysWithin es depth from to = (i n : ℕ) → from ≤ i → i ≤ to → IsAt es n i → depth ≤ n

-- at each position fewer groups are open than that
abbrev pub IsBelow : List Entry → ℕ → Type 0
IsBelow es limit = (i n : ℕ) → IsAt es n i → n < limit

-- the Pop at j ends the group that the Push at i opened inside so many others
pub record IsGroupEnd (es : List Entry) (depth i j : ℕ) : Type 0 where
  pub order : i < j
  pub pop : drop j es ≡ entry.Pop ∷ drop (j + 1) es
  pub place : IsAt es (depth + 1) j
  pub within : StaysWithin es (depth + 1) (i + 1) j

-- a primitive over a colour, at the point (x, y)
abbrev pub over_primitive : StoreModel → PrimitiveModel → ℤ → ℤ → Px → Px
over_primitive store p x y under = blended Normal (covered_colour store p x y) under

-- a group with the colour `top` over the colour `under`, at the point (x, y)
abbrev pub over_group : ℕ → Mode → List Clip → ℤ → ℤ → Px → Px → Px
over_group opacity mode clips x y top under =
    group_over_backdrop (record { backdrop = under; opacity = opacity; mode = mode; cover = chain_coverage clips 255 x y }) top

-- at the point (x, y), the entries from one position to before another come from clear to the colour t, whatever groups are open
abbrev pub Begins : StoreModel → List Entry → ℕ → ℕ → ℤ → ℤ → Px → Type 0
Begins store es from to x y t = (groups : List Group)
    → run store x y (drop from es) (record { top = clear; groups = groups }) ≡ run store x y (drop to es) (record { top = t; groups = groups })

-- A level's colour at the point (x, y). Where `start` is 0, it is that of the entries before `at`. Else an opaque primitive
-- of this level stands right before `start`, and the colour is that of the entries before `start` or `at`, the later one.
pub record IsBegun (store : StoreModel) (es : List Entry) (depth from to at : ℕ) (x y : ℤ) (start : ℕ) (t : Px) : Type 0 where
  pub begins : Begins store es from (max at start) x y t
  pub within : start ≤ to
  pub level : (start ≡ 0) ⊎ IsAt es depth start
