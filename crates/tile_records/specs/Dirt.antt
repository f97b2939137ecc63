-- Where the values of two records can differ.
use Rattle.std.specs.Prelude.{◌≡◌, ℕ, zero, suc, ◌+◌, Bool, ◌&&◌, ◌==◌, List, [], ◌∷◌, reverse, drop, Option, Some, None, if◌then◌else◌}
use Rattle.wr_geom.specs.Bounds.{Bounds, nowhere, bounding, intersection}
use Rattle.primitives.specs.Colours.{visible_rect}
use Rattle.primitives.specs.Stacks.{balanced}
use Rattle.primitives.specs.contracts.entry.EntryPartialEq.TheImpl as by_equality
use Rattle.primitives.specs.declared.entry.Entry.{Entry}
use Rattle.primitives.specs.declared.entry.Entry.TheVariants as entry
use Rattle.tile_records.specs.declared.id.Id.{Id}

-- whether two entries are equal, as `==` says
abbrev pub same_entry : Entry → Entry → Bool
same_entry = (by_equality.ghosts).eq

-- ---- what two lists don't have in common

-- an old and a new list
pub record Pair (A : Type 0) : Type 0 where
  pub old : List A
  pub new : List A

module _ {A : Type 0} where
  abbrev pub reversed : Pair A → Pair A
  reversed p = record { old = reverse p.old; new = reverse p.new }

module _ {A : Type 0} (same : A → A → Bool) where
  -- what two lists have after their longest common prefix
  abbrev pub rests : List A → List A → Pair A
  rests [] ys = record { old = []; new = ys }
  rests (a ∷ xs) [] = record { old = a ∷ xs; new = [] }
  rests (a ∷ xs) (b ∷ ys) = if same a b then rests xs ys else record { old = a ∷ xs; new = b ∷ ys }

  -- what two lists have before their longest common suffix
  abbrev pub fronts : List A → List A → Pair A
  fronts xs ys = reversed (rests (reverse xs) (reverse ys))

  -- without the longest common prefix, and then without the longest common suffix of what remains
  abbrev pub middles : List A → List A → Pair A
  middles xs ys = fronts (rests xs ys).old (rests xs ys).new

-- ---- the dirt

-- the least rectangle with the points of the first and of each primitive's visible rectangle
abbrev pub extent_from : Bounds → List Entry → Bounds
extent_from a [] = a
extent_from a (entry.Primitive p ∷ es) = extent_from (bounding a (visible_rect p)) es
extent_from a (entry.Push opacity mode clips ∷ es) = extent_from a es
extent_from a (entry.Pop ∷ es) = extent_from a es

abbrev pub extent : List Entry → Bounds
extent es = extent_from nowhere es

-- of two lists that have nothing in common: where both are balanced, the bound of all their primitives cut to the tile, and else the tile
abbrev pub dirt_between : List Entry → List Entry → Bounds → Bounds
dirt_between old new rect = if balanced 0 old && balanced 0 new then intersection (extent_from (extent old) new) rect else rect

-- of an old and a new list of entries, in a tile
abbrev pub dirt : List Entry → List Entry → Bounds → Bounds
dirt old new rect = dirt_between (middles same_entry old new).old (middles same_entry old new).new rect

-- ---- one entry at a time

-- how many groups are open after an entry, if there is one; none where it ends a group that isn't open
abbrev pub depth_after : Option Entry → ℕ → Option ℕ
depth_after None depth = Some depth
depth_after (Some (entry.Primitive p)) depth = Some depth
depth_after (Some (entry.Push opacity mode clips)) depth = Some (depth + 1)
depth_after (Some entry.Pop) zero = None
depth_after (Some entry.Pop) (suc depth) = Some depth

-- the bound of a rectangle and of an entry's visible rectangle, if it is a primitive
abbrev pub extended : Bounds → Option Entry → Bounds
extended a None = a
extended a (Some (entry.Primitive p)) = bounding a (visible_rect p)
extended a (Some (entry.Push opacity mode clips)) = a
extended a (Some entry.Pop) = a

-- ---- lists of ids

abbrev pub same_id : Id → Id → Bool
same_id a b = a.key == b.key

-- what stands past the end of a list
abbrev pub no_id : Id
no_id = record { key = 0 }

-- two lists have their first n ids in common, and no more
abbrev pub SharedPrefix : ℕ → List Id → List Id → Type 0
SharedPrefix n xs ys = rests same_id xs ys ≡ record { old = drop n xs; new = drop n ys }
