-- Entries, painted over a stack of colours at one point.
use Rattle.std.specs.Prelude.{ℕ, zero, suc, ℤ, Bool, true, false, List, [], ◌∷◌, ◌++◌}
use Rattle.blend_rules.specs.declared.colour.Px.{Px}
use Rattle.blend_rules.specs.declared.mode.Mode.{Mode}
use Rattle.blend_rules.specs.declared.mode.Mode.TheVariants.{Normal}
use Rattle.blend_rules.specs.Colour.{clear, scaled, blended}
use Rattle.clip_masks.specs.Coverage.{chain_coverage}
use Rattle.clip_masks.specs.declared.clip.Clip.{Clip}
use Rattle.image_store.specs.StoreModel.{StoreModel}
use Rattle.primitives.specs.PrimitiveModel.{PrimitiveModel}
use Rattle.primitives.specs.Colours.{covered_colour}
use Rattle.primitives.specs.declared.entry.Entry.{Entry}
use Rattle.primitives.specs.declared.entry.Entry.TheVariants as entry

-- an open group: the colour below it, and how it will be blended over that, under so much of 255
pub record Group : Type 0 where
  pub backdrop : Px
  pub opacity : ℕ
  pub mode : Mode
  pub cover : ℕ

-- the colour on top, and the open groups, the innermost first
pub record Stack : Type 0 where
  pub top : Px
  pub groups : List Group

-- clear, with no group open
abbrev pub empty_stack : Stack
empty_stack = record { top = clear; groups = [] }

-- a group's colour, blended over the one below
unfoldable pub group_over_backdrop : Group → Px → Px
group_over_backdrop g colour = blended g.mode (scaled (scaled colour g.opacity) g.cover) g.backdrop

-- the innermost group ends; where none is open, nothing changes
abbrev pub after_pop : Px → List Group → Stack
after_pop colour [] = record { top = colour; groups = [] }
after_pop colour (g ∷ gs) = record { top = group_over_backdrop g colour; groups = gs }

-- one entry at the point (x, y)
abbrev pub step : StoreModel → ℤ → ℤ → Entry → Stack → Stack
step store x y (entry.Primitive p) s = record { top = blended Normal (covered_colour store p x y) s.top; groups = s.groups }
step store x y (entry.Push opacity mode clips) s = record { top = clear; groups = record { backdrop = s.top; opacity = opacity; mode = mode; cover = chain_coverage clips 255 x y } ∷ s.groups }
step store x y entry.Pop s = after_pop s.top s.groups

-- entries in order, at the point (x, y)
abbrev pub run : StoreModel → ℤ → ℤ → List Entry → Stack → Stack
run store x y [] s = s
run store x y (e ∷ es) s = run store x y es (step store x y e s)

-- what entries paint on clear at the point (x, y)
abbrev pub value_at : List Entry → StoreModel → ℤ → ℤ → Px
value_at es store x y = (run store x y es empty_stack).top

-- after so many open groups, each Pop ends one, and in the end none is open
abbrev pub balanced : ℕ → List Entry → Bool
balanced zero [] = true
balanced (suc n) [] = false
balanced n (entry.Primitive p ∷ es) = balanced n es
balanced n (entry.Push opacity mode clips ∷ es) = balanced (suc n) es
balanced zero (entry.Pop ∷ es) = false
balanced (suc n) (entry.Pop ∷ es) = balanced n es

-- whether no Push opens a group where none more may be open: so many may be at first, and each Pop makes room for one
abbrev pub is_shallow : ℕ → List Entry → Bool
is_shallow room [] = true
is_shallow room (entry.Primitive p ∷ es) = is_shallow room es
is_shallow zero (entry.Push opacity mode clips ∷ es) = false
is_shallow (suc room) (entry.Push opacity mode clips ∷ es) = is_shallow room es
is_shallow room (entry.Pop ∷ es) = is_shallow (suc room) es

-- primitives and whole groups in order
pub data IsRow : List Entry → Type 0 where
  none : IsRow []
  primitive : (p : PrimitiveModel) (es : List Entry) → IsRow es → IsRow (entry.Primitive p ∷ es)
  group : (opacity : ℕ) (mode : Mode) (clips : List Clip) (es fs : List Entry) → IsRow es → IsRow fs → IsRow (entry.Push opacity mode clips ∷ (es ++ (entry.Pop ∷ fs)))
