-- The tiles of a slice, one after another.
use Rattle.std.proofs.Common.{◌≡◌, ◌<◌, ◌≤◌, ◌+◌, ◌^◌, ℕ, zero, suc, Bool, true, false, List, [], ◌∷◌, ◌++◌, reverse, length, get_or, All, Contains, Option, Some, None, IfSome, option_map, ℤ, if◌then◌else◌, refl, sym, ap, subst, ◌∙◌, arith}
use Rattle.std.proofs.lemmas.Int.{ints}
use Rattle.std.proofs.lemmas.List.{length-append, length-map, length-reverse}
use Rattle.std.proofs.lemmas.List.Elements.{All-contains}
use Rattle.wr_geom.specs.Bounds.{Bounds, has_points, width_of, height_of}
use Rattle.wr_geom.specs.declared.keys.TileKey.{TileKey}
use Rattle.image_store.specs.StoreModel.{StoreModel as Resources}
use Rattle.primitives.specs.PrimitiveModel.{PrimitiveModel}
use Rattle.primitives.specs.Facts.{IsEntry}
use Rattle.primitives.specs.declared.entry.Entry.{Entry}
use Rattle.primitives.specs.declared.entry.Entry.TheVariants as entry
use Rattle.picture_slices.specs.declared.slice.Slice.{Slice}
use Rattle.tile_grid.specs.Grids.{GridModel, count_of, grid_over, no_tiles, span_over, tiles_of, tiles_from}
use Rattle.tile_grid.specs.Grids.{tile_at as grid_tile}
use Rattle.tile_grid.specs.Tiles.{AreTileSides, tile_rect}
use Rattle.tile_grid.specs.declared.tile.TileSides.{TileSides}
use Rattle.tile_store.specs.StoreModel.{StoreModel}
use Rattle.tile_store.specs.Tiles.{HasTileSides, tile_at}
use Rattle.tile_store.specs.declared.tile.Tile.{Tile}
use Rattle.tile_records.specs.Counts.{times, Suffices, Covers, Moves}
use Rattle.tile_records.specs.Interning.{Interning, entries_under, record_keys}
use Rattle.tile_records.specs.Laws.{PickedIsBalanced, PickedIsShallow, PickedAreEntries}
use Rattle.tile_records.specs.Passing.{joined, keys_of_records}
use Rattle.tile_records.specs.Picks.{picked, picked_after, shows_in}
use Rattle.tile_records.specs.declared.record.TileRecord.{TileRecord}
use Rattle.tile_records.specs.declared.slots.Held.{Held}
use Rattle.tile_records.proofs.Holding.{times_append}
use Rattle.std.specs.FinMap.{get}
use Rattle.kept_tiles.specs.Tiles.{KeptTile, KeptModel, valued, all_valued, claims, kept_of, kept_with}
use Rattle.kept_tiles.specs.Progress.{IsWithin, KeepsSound}
use Rattle.kept_tiles.specs.Sound.{IsCurrent}
use Rattle.kept_tiles.specs.Steps.{AreDrawable, ArePlaced}
use Rattle.kept_tiles.specs.Work.{Shown, IsWorkDone, key_of, records_of, shown_tile, shown_tiles, work_at, work_on}
use Rattle.kept_tiles.proofs.Claims.{same_claims, under_same}
use Rattle.kept_tiles.proofs.Lists.{valued_at}
use Rattle.kept_tiles.proofs.Progress.{IsCounting, IsUnderway, counting_done, counting_start, counting_step, keeps_itself, keeps_then, one_within, one_work, underway_done, underway_start, underway_step, underway_within, within_step}

-- ---- how much is claimed

fewer_suffice : (o : Option Held) (n k : ℕ) → k ≤ n → Suffices o n → Suffices o k
fewer_suffice None n k le h = omega (arith, le, h)
fewer_suffice (Some x) n k le h = λ e. let a = h e in omega (arith, le, a)

pub fewer_claims : (m : Interning) (xs ys : List ℕ) → ((k : ℕ) → times k ys ≤ times k xs) → Covers m xs → Covers m ys
fewer_claims m xs ys le c k = fewer_suffice (get m k) (times k xs) (times k ys) (le k) (c k)

-- the next record's ids, those of the records behind it, and those of kept tiles
pub next_claims : (own rest kept : List ℕ) (k : ℕ) → times k (own ++ kept) ≤ times k ((own ++ rest) ++ kept)
next_claims own rest kept k =
    let a = times_append k own kept in
    let b = times_append k (own ++ rest) kept in
    let c = times_append k own rest in
    omega (arith, a, b, c)

pub order_claims : (own rest kept : List ℕ) (k : ℕ) → times k ((own ++ rest) ++ kept) ≡ times k ((own ++ kept) ++ rest)
order_claims own rest kept k =
    let a = times_append k own kept in
    let b = times_append k (own ++ rest) kept in
    let c = times_append k own rest in
    let d = times_append k (own ++ kept) rest in
    omega (arith, a, b, c, d)

pub turned_claims : (xs ys : List ℕ) (k : ℕ) → times k (xs ++ ys) ≡ times k (ys ++ xs)
turned_claims xs ys k =
    let a = times_append k xs ys in
    let b = times_append k ys xs in
    omega (arith, a, b)

pub joined_names : (xs : List (List ℕ)) (j k : ℕ) → 0 < times k (get_or xs j []) → 0 < times k (joined xs)
joined_names [] j k h = absurd (omega (arith, h))
joined_names (x ∷ xs) zero k h = let a = times_append k x (joined xs) in omega (arith, a, h)
joined_names (x ∷ xs) (suc j) k h =
    let a = times_append k x (joined xs) in
    let b = joined_names xs j k h in
    omega (arith, a, b)

-- ---- what is picked can be drawn

picked_few : {A : Type 0} (shows : PrimitiveModel → Bool) (waiting : List A) (es : List Entry) (xs : List A) → length (picked_after shows waiting es xs) ≤ length waiting + length xs
picked_few shows waiting [] xs = omega arith
picked_few shows waiting (e ∷ es) [] = omega arith
picked_few shows waiting (entry.Primitive p ∷ es) (x ∷ xs) = by_test (shows p) (picked_few shows [] es xs) (picked_few shows waiting es xs)
  where
    by_test : (t : Bool) → length (picked_after shows [] es xs) ≤ 0 + length xs → length (picked_after shows waiting es xs) ≤ length waiting + length xs
        → length (if t then reverse waiting ++ (x ∷ picked_after shows [] es xs) else picked_after shows waiting es xs) ≤ length waiting + suc (length xs)
    by_test true a b =
        let c = length-append (reverse waiting) (x ∷ picked_after shows [] es xs) in
        let d = length-reverse waiting in
        omega (arith, a, c, d)
    by_test false a b = omega (arith, b)
picked_few shows waiting (entry.Push opacity mode clips ∷ es) (x ∷ xs) = let a = picked_few shows (x ∷ waiting) es xs in omega (arith, a)
picked_few shows [] (entry.Pop ∷ es) (x ∷ xs) = let a = picked_few shows [] es xs in omega (arith, a)
picked_few shows (w ∷ waiting) (entry.Pop ∷ es) (x ∷ xs) = let a = picked_few shows waiting es xs in omega (arith, a)

-- what holds of each of a list holds of each that it contains
all_contained : {A : Type 0} (P : A → Type 0) (es xs : List A) → All P es → All (Contains es) xs → All P xs
all_contained P es xs all h k d less = All-contains P es (get_or xs k d) all (h k d less)

pub picked_drawable : (store : Resources) (rect : Bounds) (es : List Entry) → PickedIsBalanced → PickedIsShallow → PickedAreEntries → AreDrawable store es → AreDrawable store (picked rect es)
picked_drawable store rect es balanced shallow entries d = record {
  good = all_contained IsEntry es (picked rect es) d.good (entries rect es);
  few = let a = picked_few (shows_in rect) [] es es in let b = d.few in omega (arith, a, b);
  balanced = balanced rect es d.balanced;
  shallow = shallow rect 64 es d.shallow;
  current = all_contained (IsCurrent store) es (picked rect es) d.current (entries rect es);
}

-- ---- where tiles lie

pub rect_sides : (sides : TileSides) (col row : ℤ) → AreTileSides sides → HasTileSides (tile_rect sides col row)
rect_sides sides col row is =
    let across : width_of (tile_rect sides col row) ≡ sides.width = omega (arith, ints) in
    let down : height_of (tile_rect sides col row) ≡ sides.height = omega (arith, ints) in
    record {
      some_across = omega (arith, across, is.width.some);
      across = omega (arith, across, is.width.most);
      some_down = omega (arith, down, is.height.some);
      down = omega (arith, down, is.height.most);
    }

pub rect_width : (sides : TileSides) (col row : ℤ) → width_of (tile_rect sides col row) ≡ sides.width
rect_width sides col row = omega (arith, ints)

pub placed_tile : (sides : TileSides) (m : Interning) (s : StoreModel TileRecord) (key : TileKey) (rect : Bounds) → rect ≡ tile_rect sides key.col key.row → ArePlaced sides (all_valued m s.tiles) → IfSome (tile_at key s.tiles) (λ t. t.rect ≡ rect)
placed_tile sides m s key rect is placed = by_tile (tile_at key s.tiles) (subst (λ (o : Option KeptTile). IfSome o (λ t. t.rect ≡ tile_rect sides key.col key.row)) (valued_at m key s.tiles) (placed key))
  where
    by_tile : (o : Option (Tile TileRecord)) → IfSome (option_map (valued m) o) (λ t. t.rect ≡ tile_rect sides key.col key.row) → IfSome o (λ t. t.rect ≡ rect)
    by_tile None h = tt
    by_tile (Some t) h = h ∙ sym is

-- ---- how far it has come

-- the tiles of a grid from one on are left, with their records
pub record IsShowing (slice : Slice) (grid : GridModel) (store : Resources) (first : KeptModel) (m : Interning) (s : StoreModel TileRecord) (is_well : Bool) (i : ℕ) (left : List TileRecord) : Type 0 where
  pub covers : Covers m (joined (keys_of_records left) ++ claims s.tiles)
  pub count : i + length left ≡ count_of grid
  pub entries : (j : ℕ) → j < length left → entries_under m (get_or (keys_of_records left) j []) ≡ picked (grid_tile grid (i + j)).rect slice.entries
  pub underway : is_well ≡ true → IsUnderway first (kept_with m s) (shown_tiles slice (tiles_of grid)) (shown_tiles slice (tiles_from grid i (length left)))
  pub within : IsWithin first (kept_with m s) (shown_tiles slice (tiles_of grid))
  pub keeps : KeepsSound grid.sides store first (kept_with m s)
  pub placed : ArePlaced grid.sides (all_valued m s.tiles)
  pub closed : s.window ≡ None

-- what showing one tile more leaves
pub record IsNextShown (slice : Slice) (grid : GridModel) (store : Resources) (m n : Interning) (old new : StoreModel TileRecord) (before after : Bool) (i : ℕ) (next : TileRecord) : Type 0 where
  pub well : after ≡ true → before ≡ true
  pub work : after ≡ true → IsWorkDone (kept_with m old) (kept_with n new)
      (work_at (records_of (kept_of (kept_with m old))) (key_of slice.key (grid_tile grid i)) (grid_tile grid i).rect (entries_under m (record_keys next)))
  pub keeps : KeepsSound grid.sides store (kept_with m old) (kept_with n new)
  pub placed : ArePlaced grid.sides (all_valued m old.tiles) → ArePlaced grid.sides (all_valued n new.tiles)
  pub more : length new.tiles ≤ length old.tiles + 1
  pub err : after ≡ false → new.opened ≡ old.opened
  pub skipped : before ≡ false → new ≡ old
  pub moves : Moves m n (record_keys next ++ claims old.tiles) (claims new.tiles)
  pub closed : new.window ≡ None

module _ (slice : Slice) (grid : GridModel) (store : Resources) (first : KeptModel) (m n : Interning) (old new : StoreModel TileRecord) (before after : Bool) (i : ℕ) (next : TileRecord) (left : List TileRecord)
    (now : IsShowing slice grid store first m old before i (next ∷ left)) (step : IsNextShown slice grid store m n old new before after i next) where
  abbrev tile : Shown
  tile = shown_tile slice (grid_tile grid i)

  abbrev rest : List (List ℕ)
  rest = keys_of_records left

  later : i + 1 ≡ suc i
  later = omega arith

  here : i + 0 ≡ i
  here = omega arith

  own_entries : entries_under m (record_keys next) ≡ picked (grid_tile grid i).rect slice.entries
  own_entries = now.entries 0 (omega arith) ∙ ap (λ (k : ℕ). picked (grid_tile grid k).rect slice.entries) here

  set_apart : Covers m ((record_keys next ++ claims old.tiles) ++ joined rest)
  set_apart = same_claims m ((record_keys next ++ joined rest) ++ claims old.tiles) ((record_keys next ++ claims old.tiles) ++ joined rest) (order_claims (record_keys next) (joined rest) (claims old.tiles)) now.covers

  tile_done : after ≡ true → IsWorkDone (kept_with m old) (kept_with n new) (work_on (kept_with m old) (tile ∷ []))
  tile_done t = one_work (kept_with m old) (kept_with n new) tile
      (subst (λ (es : List Entry). IsWorkDone (kept_with m old) (kept_with n new) (work_at (records_of (kept_of (kept_with m old))) (key_of slice.key (grid_tile grid i)) (grid_tile grid i).rect es)) own_entries (step.work t))

  on_way : before ≡ true → IsUnderway first (kept_with m old) (shown_tiles slice (tiles_of grid)) ((tile ∷ []) ++ shown_tiles slice (tiles_from grid (suc i) (length left)))
  on_way t = now.underway t

  next_within : (b : Bool) → before ≡ b → IsWithin first (kept_with n new) (shown_tiles slice (tiles_of grid))
  next_within true t =
      let u = on_way t in
      within_step first (kept_with m old) (kept_with n new) (shown_tiles slice (tiles_of grid)) (tile ∷ []) (shown_tiles slice (tiles_from grid (suc i) (length left))) u
      (one_within after (kept_with m old) (kept_with n new) tile u.fits tile_done step.err step.more)
  next_within false t =
      let w = now.within in
      let same = step.skipped t in
      record {
        least = subst (λ (s : StoreModel TileRecord). first.store.opened ≤ s.opened) (sym same) w.least;
        most = subst (λ (s : StoreModel TileRecord). s.opened ≤ first.store.opened + (work_on first (shown_tiles slice (tiles_of grid))).cost) (sym same) w.most;
        more = subst (λ (s : StoreModel TileRecord). length s.tiles ≤ length first.store.tiles + length (shown_tiles slice (tiles_of grid))) (sym same) w.more;
      }

  pub showing_step : IsShowing slice grid store first n new after (i + 1) left
  showing_step = record {
    covers = same_claims n (claims new.tiles ++ joined rest) (joined rest ++ claims new.tiles) (turned_claims (claims new.tiles) (joined rest)) (step.moves.covers (joined rest) set_apart);
    count = let c = now.count in omega (arith, c);
    entries = λ j less.
        under_same m n (get_or rest j []) (λ k h. step.moves.entries (joined rest) set_apart k (joined_names rest j k h))
        ∙ now.entries (suc j) (omega (arith, less)) ∙ ap (λ (k : ℕ). picked (grid_tile grid k).rect slice.entries) (let e : i + suc j ≡ (i + 1) + j = omega arith in e);
    underway = λ t. subst (λ (k : ℕ). IsUnderway first (kept_with n new) (shown_tiles slice (tiles_of grid)) (shown_tiles slice (tiles_from grid k (length left)))) (sym later)
        (underway_step first (kept_with m old) (kept_with n new) (shown_tiles slice (tiles_of grid)) (tile ∷ []) (shown_tiles slice (tiles_from grid (suc i) (length left)))
        (on_way (step.well t)) (tile_done t) step.more);
    within = next_within before refl;
    keeps = keeps_then grid.sides store first (kept_with m old) (kept_with n new) now.keeps step.keeps;
    placed = step.placed now.placed;
    closed = step.closed;
  }

  pub counting_tile : (drawn more : ℕ) → (before ≡ true → IsCounting first (kept_with m old) (shown_tiles slice (tiles_of grid)) (shown_tiles slice (tiles_from grid i (length (next ∷ left)))) drawn)
      → (after ≡ true → more ≡ drawn + (work_at (records_of (kept_of (kept_with m old))) (key_of slice.key (grid_tile grid i)) (grid_tile grid i).rect (entries_under m (record_keys next))).cost)
      → after ≡ true → IsCounting first (kept_with n new) (shown_tiles slice (tiles_of grid)) (shown_tiles slice (tiles_from grid (i + 1) (length left))) more
  counting_tile drawn more counting rise t =
      let own = ap (λ (es : List Entry). (work_at (records_of (kept_of (kept_with m old))) (key_of slice.key (grid_tile grid i)) (grid_tile grid i).rect es).cost) own_entries in
      let risen = rise t in
      subst (λ (k : ℕ). IsCounting first (kept_with n new) (shown_tiles slice (tiles_of grid)) (shown_tiles slice (tiles_from grid k (length left))) more) (sym later)
      (counting_step first (kept_with m old) (kept_with n new) (shown_tiles slice (tiles_of grid)) (tile ∷ []) (shown_tiles slice (tiles_from grid (suc i) (length left))) drawn more
      (counting (step.well t)) (tile_done t) (omega (arith, own, risen)))

-- the next record has what is picked for its tile
pub own_entries_of : (slice : Slice) (grid : GridModel) (store : Resources) (first : KeptModel) (m : Interning) (s : StoreModel TileRecord) (well : Bool) (i : ℕ) (next : TileRecord) (left : List TileRecord)
    → IsShowing slice grid store first m s well i (next ∷ left) → entries_under m (record_keys next) ≡ picked (grid_tile grid i).rect slice.entries
own_entries_of slice grid store first m s well i next left now = now.entries 0 (omega arith) ∙ ap (λ (k : ℕ). picked (grid_tile grid k).rect slice.entries) (let e : i + 0 ≡ i = omega arith in e)

-- what is left after one tile has room for another
pub showing_room : (slice : Slice) (grid : GridModel) (store : Resources) (first : KeptModel) (m : Interning) (s : StoreModel TileRecord) (i most : ℕ) (next : TileRecord) (left : List TileRecord)
    → IsShowing slice grid store first m s true i (next ∷ left) → length first.store.tiles + length (shown_tiles slice (tiles_of grid)) ≤ most → length s.tiles < most
showing_room slice grid store first m s i most next left now room = let a = (now.underway refl).room in omega (arith, a, room)

-- ---- before the first and after the last

length_from : (g : GridModel) (i n : ℕ) → length (tiles_from g i n) ≡ n
length_from g i zero = refl
length_from g i (suc n) = ap suc (length_from g (suc i) n)

pub length_shown : (slice : Slice) (g : GridModel) → length (shown_tiles slice (tiles_of g)) ≡ count_of g
length_shown slice g = length-map (tiles_of g) (shown_tile slice) ∙ length_from g 0 (count_of g)

pub nil_from : (xs : List TileRecord) → length xs ≡ 0 → xs ≡ []
nil_from [] h = refl
nil_from (x ∷ xs) h = absurd (omega (arith, h))

pub showing_start : (slice : Slice) (grid : GridModel) (store : Resources) (m : Interning) (s : StoreModel TileRecord) (records : List TileRecord)
    → Covers m (joined (keys_of_records records) ++ claims s.tiles) → length (keys_of_records records) ≡ count_of grid
    → ((i : ℕ) → i < count_of grid → entries_under m (get_or (keys_of_records records) i []) ≡ picked (grid_tile grid i).rect slice.entries)
    → s.opened < 2 ^ 64 → ArePlaced grid.sides (all_valued m s.tiles) → s.window ≡ None
    → IsShowing slice grid store (kept_with m s) m s true 0 records
showing_start slice grid store m s records covers count entries fits placed closed =
    let long : length records ≡ count_of grid = sym (length-map records record_keys) ∙ count in
    let start = underway_start (kept_with m s) (shown_tiles slice (tiles_of grid)) fits in
    record {
      covers = covers;
      count = omega (arith, long);
      entries = λ j less. entries j (omega (arith, less, long)) ∙ ap (λ (k : ℕ). picked (grid_tile grid k).rect slice.entries) (let e : j ≡ 0 + j = omega arith in e);
      underway = λ t. subst (λ (k : ℕ). IsUnderway (kept_with m s) (kept_with m s) (shown_tiles slice (tiles_of grid)) (shown_tiles slice (tiles_from grid 0 k))) (sym long) start;
      within = underway_within (kept_with m s) (kept_with m s) (shown_tiles slice (tiles_of grid)) (shown_tiles slice (tiles_of grid)) start;
      keeps = keeps_itself grid.sides store (kept_with m s);
      placed = placed;
      closed = closed;
    }

pub tiles_counting_start : (slice : Slice) (grid : GridModel) (s : KeptModel) (records : List TileRecord) → length (keys_of_records records) ≡ count_of grid
    → IsCounting s s (shown_tiles slice (tiles_of grid)) (shown_tiles slice (tiles_from grid 0 (length records))) 0
tiles_counting_start slice grid s records count =
    let long : length records ≡ count_of grid = sym (length-map records record_keys) ∙ count in
    subst (λ (k : ℕ). IsCounting s s (shown_tiles slice (tiles_of grid)) (shown_tiles slice (tiles_from grid 0 k)) 0) (sym long) (counting_start s (shown_tiles slice (tiles_of grid)))

pub tiles_counting_done : (slice : Slice) (grid : GridModel) (first now : KeptModel) (i n drawn : ℕ) → IsCounting first now (shown_tiles slice (tiles_of grid)) (shown_tiles slice (tiles_from grid i n)) drawn
    → n ≡ 0 → drawn ≡ (work_on first (shown_tiles slice (tiles_of grid))).cost
tiles_counting_done slice grid first now i n drawn c none =
    counting_done first now (shown_tiles slice (tiles_of grid)) drawn
    (subst (λ (k : ℕ). IsCounting first now (shown_tiles slice (tiles_of grid)) (shown_tiles slice (tiles_from grid i k)) drawn) none c)

pub showing_done : (slice : Slice) (grid : GridModel) (store : Resources) (first : KeptModel) (m : Interning) (s : StoreModel TileRecord) (i : ℕ) (left : List TileRecord)
    → IsShowing slice grid store first m s true i left → length left ≡ 0 → IsWorkDone first (kept_with m s) (work_on first (shown_tiles slice (tiles_of grid)))
showing_done slice grid store first m s i left now none =
    underway_done first (kept_with m s) (shown_tiles slice (tiles_of grid))
    (subst (λ (k : ℕ). IsUnderway first (kept_with m s) (shown_tiles slice (tiles_of grid)) (shown_tiles slice (tiles_from grid i k))) none (now.underway refl))

pub showing_covers : (slice : Slice) (grid : GridModel) (store : Resources) (first : KeptModel) (m : Interning) (s : StoreModel TileRecord) (well : Bool) (i : ℕ) (left : List TileRecord)
    → IsShowing slice grid store first m s well i left → length left ≡ 0 → Covers m (claims s.tiles)
showing_covers slice grid store first m s well i left now none = subst (λ (l : List TileRecord). Covers m (joined (keys_of_records l) ++ claims s.tiles)) (nil_from left none) now.covers

-- ---- the grid of a slice

grid_by : (t : Bool) (s : TileSides) (b : Bounds) → GridModel
grid_by true s b = record { sides = s; columns = span_over s.width b.x0 b.x1; rows = span_over s.height b.y0 b.y1 }
grid_by false s b = record { sides = s; columns = no_tiles; rows = no_tiles }

sides_by : (t : Bool) (s : TileSides) (b : Bounds) → (grid_by t s b).sides ≡ s
unfolding grid_by
sides_by true s b = refl
sides_by false s b = refl

grid_is : (s : TileSides) (b : Bounds) → grid_over s b ≡ grid_by (has_points b) s b
unfolding grid_over grid_by
grid_is s b = by_test (has_points b)
  where
    by_test : (t : Bool) → (if t then record { sides = s; columns = span_over s.width b.x0 b.x1; rows = span_over s.height b.y0 b.y1 } else record { sides = s; columns = no_tiles; rows = no_tiles }) ≡ grid_by t s b
    by_test true = refl
    by_test false = refl

pub grid_sides : (s : TileSides) (b : Bounds) → (grid_over s b).sides ≡ s
grid_sides s b = ap (λ (g : GridModel). g.sides) (grid_is s b) ∙ sides_by (has_points b) s b
