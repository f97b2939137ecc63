-- What one pass over entries keeps, while it fills the records of many tiles.
use Rattle.std.specs.Prelude.{◌≡◌, ◌≢◌, ℕ, ◌+◌, ◌-◌, ◌*◌, ◌<◌, ◌≤◌, Bool, ◌==◌, List, [], ◌∷◌, ◌++◌, drop, length, get_or, reverse, map, if◌then◌else◌, slice_set, Contains, replicate, IsTrue}
use Rattle.std.specs.Global.{Vec}
use Rattle.primitives.specs.PrimitiveModel.{PrimitiveModel}
use Rattle.primitives.specs.Stacks.{balanced}
use Rattle.primitives.specs.declared.entry.Entry.{Entry}
use Rattle.primitives.specs.declared.entry.Entry.TheVariants as entry
use Rattle.tile_records.specs.declared.pass.Pass.{Pass}
use Rattle.tile_records.specs.declared.record.TileRecord.{TileRecord}
use Rattle.tile_records.specs.declared.tiles.Tiles.{Tiles}
use Rattle.tile_records.specs.Interning.{record_keys}
use Rattle.tile_records.specs.Picks.{picked_after, shows_in}
use Rattle.tile_records.specs.Tiles.{columns_of, rows_of, rect_at}

-- lists of lists, without where they lie in memory
abbrev pub views : List (Vec ℕ) → List (List ℕ)
views vs = map (λ v. v.items) vs

abbrev pub keys_of_records : List TileRecord → List (List ℕ)
keys_of_records rs = map record_keys rs

-- all their members, one list after another
abbrev pub joined : List (List ℕ) → List ℕ
joined [] = []
joined (xs ∷ rest) = xs ++ joined rest

-- the record of a tile so far, and how many of the open groups, the outermost first, it has
pub record TileState : Type 0 where
  pub list : List ℕ
  pub depth : ℕ

-- the records of the tiles, how many groups each has, the keys of the open groups, and the tiles that each reached
pub record State : Type 0 where
  pub lists : List (List ℕ)
  pub entered : List ℕ
  pub groups : List ℕ
  pub reached : List (List ℕ)

abbrev pub state : Pass → State
state p = record { lists = keys_of_records p.records.items; entered = p.entered.items; groups = p.groups.items; reached = views p.reached.items }

abbrev pub tile_among : List (List ℕ) → List ℕ → ℕ → TileState
tile_among lists entered k = record { list = get_or lists k []; depth = get_or entered k 0 }

abbrev pub tile_of : State → ℕ → TileState
tile_of s k = tile_among s.lists s.entered k

-- a primitive: the groups that the tile lacks, and then its key
abbrev pub drawn : List ℕ → ℕ → TileState → TileState
drawn groups n t = record { list = t.list ++ (drop t.depth groups ++ (n ∷ [])); depth = length groups }

-- the end of the group at this depth
abbrev pub closed : ℕ → ℕ → TileState → TileState
closed depth n t = if t.depth == depth then record { list = t.list ++ (n ∷ []); depth = t.depth - 1 } else t

pub record IsSoundPass (s : State) : Type 0 where
  pub sides : length s.entered ≡ length s.lists
  pub depths : length s.reached ≡ length s.groups
  pub below : (k : ℕ) → get_or s.entered k 0 ≤ length s.groups
  -- each open group that a tile has knows that tile
  pub known : (k i : ℕ) → i < get_or s.entered k 0 → Contains (get_or s.reached i []) k

-- what a tile's record comes to at the end
abbrev pub promised : (PrimitiveModel → Bool) → List ℕ → TileState → List Entry → List ℕ → List ℕ
promised hits groups t es xs = t.list ++ picked_after hits (reverse (drop t.depth groups)) es xs

-- a tile's record has the groups from a depth on, and each of those knows the tile
pub record HasFilled (groups : List ℕ) (from tile : ℕ) (lists reached : List (List ℕ)) (new_lists new_reached : List (List ℕ)) : Type 0 where
  pub list : new_lists ≡ slice_set lists tile (get_or lists tile [] ++ drop from groups)
  pub sides : length new_reached ≡ length reached
  pub more : (j k : ℕ) → Contains (get_or reached j []) k → Contains (get_or new_reached j []) k
  pub told : (j : ℕ) → from ≤ j → j < length groups → Contains (get_or new_reached j []) tile

-- the tiles from a on and before b have a primitive more, and no other changes
pub record HasDrawn (a b n : ℕ) (old new : State) : Type 0 where
  pub hit : (k : ℕ) → a ≤ k → k < b → tile_of new k ≡ drawn old.groups n (tile_of old k)
  pub below : (k : ℕ) → k < a → tile_of new k ≡ tile_of old k
  pub above : (k : ℕ) → b ≤ k → tile_of new k ≡ tile_of old k
  pub groups : new.groups ≡ old.groups
  pub sides : length new.lists ≡ length old.lists
  pub sound : IsSoundPass new

-- one tile ends its group at this depth, if it has it, and no other changes
pub record Leaves (tile depth n : ℕ) (lists : List (List ℕ)) (entered : List ℕ) (new_lists : List (List ℕ)) (new_entered : List ℕ) : Type 0 where
  pub here : tile_among new_lists new_entered tile ≡ closed depth n (tile_among lists entered tile)
  pub there : (k : ℕ) → k ≢ tile → tile_among new_lists new_entered k ≡ tile_among lists entered k
  pub sides : length new_entered ≡ length entered
  pub lists_sides : length new_lists ≡ length lists

-- each tile ends its group at this depth, if it has it
pub record AllLeave (depth n : ℕ) (lists : List (List ℕ)) (entered : List ℕ) (new_lists : List (List ℕ)) (new_entered : List ℕ) : Type 0 where
  pub each : (k : ℕ) → tile_among new_lists new_entered k ≡ closed depth n (tile_among lists entered k)
  pub sides : length new_entered ≡ length entered
  pub lists_sides : length new_lists ≡ length lists

-- one group more is open, and no tile has it
pub record HasOpened (n : ℕ) (old new : State) : Type 0 where
  pub tiles : (k : ℕ) → tile_of new k ≡ tile_of old k
  pub groups : new.groups ≡ old.groups ++ (n ∷ [])
  pub sides : length new.lists ≡ length old.lists
  pub sound : IsSoundPass new

-- the innermost group ends, in each tile that has it
pub record HasClosed (n : ℕ) (old new : State) : Type 0 where
  pub tiles : (k : ℕ) → tile_of new k ≡ closed (length old.groups) n (tile_of old k)
  pub groups : (o : ℕ) × (old.groups ≡ new.groups ++ (o ∷ []))
  pub sides : length new.lists ≡ length old.lists
  pub sound : IsSoundPass new

-- the tiles of some columns and rows have a primitive more, and no other changes
pub record HasDrawnBlock (columns left right top bottom n : ℕ) (old new : State) : Type 0 where
  pub hit : (c r : ℕ) → left ≤ c → c < right → top ≤ r → r < bottom → tile_of new (r * columns + c) ≡ drawn old.groups n (tile_of old (r * columns + c))
  pub beside_left : (c r : ℕ) → c < left → tile_of new (r * columns + c) ≡ tile_of old (r * columns + c)
  pub beside_right : (c r : ℕ) → right ≤ c → c < columns → tile_of new (r * columns + c) ≡ tile_of old (r * columns + c)
  pub above : (c r : ℕ) → c < columns → r < top → tile_of new (r * columns + c) ≡ tile_of old (r * columns + c)
  pub below : (c r : ℕ) → c < columns → bottom ≤ r → tile_of new (r * columns + c) ≡ tile_of old (r * columns + c)
  pub groups : new.groups ≡ old.groups
  pub sides : length new.lists ≡ length old.lists
  pub sound : IsSoundPass new

-- the tiles that a primitive meets have it, and no other changes
pub record HasPainted (over : Tiles) (p : PrimitiveModel) (n : ℕ) (old new : State) : Type 0 where
  pub tiles : (c r : ℕ) → c < columns_of over → r < rows_of over
      → tile_of new (r * columns_of over + c) ≡ (if shows_in (rect_at over c r) p then drawn old.groups n (tile_of old (r * columns_of over + c)) else tile_of old (r * columns_of over + c))
  pub groups : new.groups ≡ old.groups
  pub sides : length new.lists ≡ length old.lists
  pub sound : IsSoundPass new

-- what an entry changes
abbrev pub Takes : Tiles → Entry → ℕ → State → State → Type 0
Takes tiles (entry.Primitive p) n old new = HasPainted tiles p n old new
Takes tiles (entry.Push opacity mode clips) n old new = HasOpened n old new
Takes tiles entry.Pop n old new = HasClosed n old new

-- nothing has come yet
pub record IsFresh (tiles : ℕ) (s : State) : Type 0 where
  pub lists : s.lists ≡ replicate tiles []
  pub entered : s.entered ≡ replicate tiles 0
  pub groups : s.groups ≡ []
  pub reached : s.reached ≡ []

-- with what is left, from here, each tile's record comes to what is picked of all
pub record HasPassed (tiles : Tiles) (es all : List Entry) (xs ids : List ℕ) (s : State) : Type 0 where
  pub sound : IsSoundPass s
  pub sides : length s.lists ≡ rows_of tiles * columns_of tiles
  pub rest : IsTrue (balanced (length s.groups) es)
  pub told : (c r : ℕ) → c < columns_of tiles → r < rows_of tiles
      → promised (shows_in (rect_at tiles c r)) s.groups (tile_of s (r * columns_of tiles + c)) es xs ≡ picked_after (shows_in (rect_at tiles c r)) [] all ids
