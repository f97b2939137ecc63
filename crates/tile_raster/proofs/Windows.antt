-- Rows of a window, written one after another.
use Rattle.std.proofs.Common.{◌≡◌, ◌≢◌, ℕ, ◌+◌, ◌*◌, ◌<◌, ◌≤◌, ◌⊎◌, inl, inr, IsTrue, IsFalse, true≢false, List, length, take, get_or, ◌^◌, Some, None, Option, ℤ, pos, ◌+ℤ◌, ◌-ℤ◌, ◌<ℤ◌, ◌≤ℤ◌, unsigned_abs, refl, sym, ap, subst, ◌∙◌, arith}
use Rattle.std.proofs.lemmas.Int.{ints, by_lt_z}
use Rattle.std.proofs.lemmas.List.{get_or-take, length-take-le}
use Rattle.std.specs.Option.{option_map_or}
use Rattle.wr_geom.specs.Bounds.{Bounds, IsRect, holds, width_of, height_of, area_of, Covers, HasNoPoint}
use Rattle.wr_geom.proofs.Points.{IsInside, inside, holds_it, misses_it, area_none}
use Rattle.blend_rules.specs.Planes.{channel}
use Rattle.blend_rules.specs.declared.colour.Px.{Px}
use Rattle.blend_rules.specs.declared.plane.Plane.{Plane}
use Rattle.blend_rules.specs.declared.plane.Plane.TheVariants.{B, G, R, A}
use Rattle.span_kernels.specs.PlanesModel.{plane_of}
use Rattle.tile_store.specs.declared.tile.Tile.{Tile}
use Rattle.tile_store.specs.declared.window.Window.{Window}
use Rattle.tile_store.specs.Tiles.{TileList, HasRow, IsTile, tile_at, tile_byte, changed_at, column_of, row_of}
use Rattle.tile_store.specs.StoreModel.{StoreModel, IsStore, LiesInTile, opened_after}
use Rattle.tile_store.specs.Windows.{HasWindowRow, with_part_in, with_window_row}
use Rattle.tile_store.specs.Laws.{IsRowWritten}
use Rattle.tile_store.proofs.Listed.{changed_id, changed_twice, tile_in}
use Rattle.tile_store.proofs.Pixels.{row_written}
use Rattle.tile_store.proofs.Ready.{IsWithin, within, tile_written}
use Rattle.tile_raster.specs.Rows.{LineModel, IsLine, line_plane, width, pixel}
use Rattle.tile_raster.specs.Spans.{IsFirst}
use Rattle.tile_raster.specs.Windows.{first_rows, IsRedrawn, IsWindowDrawn, IsWindowDrawnTo, with_window_line}
use Rattle.tile_raster.proofs.Planes.{b≢g, b≢r, b≢a, g≢r, g≢a, r≢a}

turned : {a b : Plane} → a ≢ b → b ≢ a
turned ne e = ne (sym e)

-- the bytes of a row that are written into a plane
abbrev first_bytes : ℕ → Plane → LineModel → List ℕ
first_bytes count plane line = take count (line_plane plane line)

long : (line : LineModel) → IsLine line → (p : Plane) → length (line_plane p line) ≡ width line
long line is B = is.blue
long line is G = is.green
long line is R = is.red
long line is A = refl

count_of : (rect : Bounds) (count : ℕ) (line : LineModel) → count ≡ width_of rect → IsLine line → count ≤ width line → (p : Plane) → length (first_bytes count p line) ≡ width_of rect
count_of rect count line wide is fits p = length-take-le count (line_plane p line) (let l = long line is p in omega arith) ∙ wide

module _ {N : Type 0} (rect : Bounds) (y : ℤ) (count : ℕ) (line : LineModel) where
  -- a tile with one plane of the row, and with all four
  abbrev with_plane_of : Plane → Tile N → Tile N
  with_plane_of plane t = with_part_in rect plane y (first_bytes count plane line) t

  abbrev pub with_line_in : Tile N → Tile N
  with_line_in t = with_plane_of A (with_plane_of R (with_plane_of G (with_plane_of B t)))

  module _ (row : HasRow rect y) (across : rect.x0 <ℤ rect.x1) (wide : count ≡ width_of rect) (is : IsLine line) (fits : count ≤ width line) where
    module _ (t : Tile N) (tile : IsTile t) (w : IsWithin t.rect rect) where
      abbrev one : Tile N
      one = with_plane_of B t

      abbrev two : Tile N
      two = with_plane_of G one

      abbrev three : Tile N
      three = with_plane_of R two

      tile_one : IsTile one
      tile_one = tile_written rect B y (first_bytes count B line) t tile

      tile_two : IsTile two
      tile_two = tile_written rect G y (first_bytes count G line) one tile_one

      tile_three : IsTile three
      tile_three = tile_written rect R y (first_bytes count R line) two tile_two

      pub tile_line : IsTile (with_line_in t)
      tile_line = tile_written rect A y (first_bytes count A line) three tile_three

      put_one : IsRowWritten t one rect B y (first_bytes count B line)
      put_one = row_written t rect B y (first_bytes count B line) tile w row across (count_of rect count line wide is fits B)

      put_two : IsRowWritten one two rect G y (first_bytes count G line)
      put_two = row_written one rect G y (first_bytes count G line) tile_one w row across (count_of rect count line wide is fits G)

      put_three : IsRowWritten two three rect R y (first_bytes count R line)
      put_three = row_written two rect R y (first_bytes count R line) tile_two w row across (count_of rect count line wide is fits R)

      put_four : IsRowWritten three (with_line_in t) rect A y (first_bytes count A line)
      put_four = row_written three rect A y (first_bytes count A line) tile_three w row across (count_of rect count line wide is fits A)

      -- what is in one plane's row is as in the line
      in_line : (p : Plane) (before after : Tile N) → IsRowWritten before after rect p y (first_bytes count p line) → (k : ℕ) → k < count
          → tile_byte p after (rect.x0 +ℤ pos k) y ≡ get_or (line_plane p line) k 0
      in_line p before after s k h = s.inside k (let c = count_of rect count line wide is fits p in omega arith) ∙ get_or-take count (line_plane p line) k 0 h

      -- and in the other planes as before
      other_byte : (p q : Plane) (before after : Tile N) → IsRowWritten before after rect p y (first_bytes count p line) → after.rect ≡ before.rect → after.planes.width ≡ before.planes.width
          → q ≢ p → (x z : ℤ) → tile_byte q after x z ≡ tile_byte q before x z
      other_byte p q before after s same wide ne x z =
          ap (λ (l : List ℕ). get_or l (row_of after.rect z * after.planes.width + column_of after.rect x) 0) (s.other_planes q ne)
          ∙ ap (λ (n : ℕ). get_or (plane_of q before.planes) (row_of after.rect z * n + column_of after.rect x) 0) wide
          ∙ ap (λ (b : Bounds). get_or (plane_of q before.planes) (row_of b z * before.planes.width + column_of b x) 0) same

      keeps_one : (q : Plane) → q ≢ B → (x z : ℤ) → tile_byte q one x z ≡ tile_byte q t x z
      keeps_one q = other_byte B q t one put_one refl (tile_one.width ∙ sym tile.width)

      keeps_two : (q : Plane) → q ≢ G → (x z : ℤ) → tile_byte q two x z ≡ tile_byte q one x z
      keeps_two q = other_byte G q one two put_two refl (tile_two.width ∙ sym tile_one.width)

      keeps_three : (q : Plane) → q ≢ R → (x z : ℤ) → tile_byte q three x z ≡ tile_byte q two x z
      keeps_three q = other_byte R q two three put_three refl (tile_three.width ∙ sym tile_two.width)

      keeps_four : (q : Plane) → q ≢ A → (x z : ℤ) → tile_byte q (with_line_in t) x z ≡ tile_byte q three x z
      keeps_four q = other_byte A q three (with_line_in t) put_four refl (tile_line.width ∙ sym tile_three.width)

      pub line_inside : (p : Plane) (k : ℕ) → k < count → tile_byte p (with_line_in t) (rect.x0 +ℤ pos k) y ≡ channel p (pixel line k)
      line_inside B k h = keeps_four B b≢a _ _ ∙ keeps_three B b≢r _ _ ∙ keeps_two B b≢g _ _ ∙ in_line B t one put_one k h
      line_inside G k h = keeps_four G g≢a _ _ ∙ keeps_three G g≢r _ _ ∙ in_line G one two put_two k h
      line_inside R k h = keeps_four R r≢a _ _ ∙ in_line R two three put_three k h
      line_inside A k h = in_line A three (with_line_in t) put_four k h

      pub line_outside : (p : Plane) (x z : ℤ) → IsTrue (holds t.rect x z) → (z ≢ y) ⊎ (x <ℤ rect.x0) ⊎ (rect.x1 ≤ℤ x) → tile_byte p (with_line_in t) x z ≡ tile_byte p t x z
      line_outside B x z i o = keeps_four B b≢a x z ∙ keeps_three B b≢r x z ∙ keeps_two B b≢g x z ∙ put_one.outside x z i o
      line_outside G x z i o = keeps_four G g≢a x z ∙ keeps_three G g≢r x z ∙ put_two.outside x z i o ∙ keeps_one G (turned b≢g) x z
      line_outside R x z i o = keeps_four R r≢a x z ∙ put_three.outside x z i o ∙ keeps_two R (turned g≢r) x z ∙ keeps_one R (turned b≢r) x z
      line_outside A x z i o = put_four.outside x z i o ∙ keeps_three A (turned r≢a) x z ∙ keeps_two A (turned g≢a) x z ∙ keeps_one A (turned b≢a) x z

-- ---- one row more of a tile
apart_or_same : {P : Type 0} (a b : ℤ) → (a ≢ b → P) → (a ≡ b → P) → P
apart_or_same a b f g = by_lt_z a b (λ h. f (λ e. absurd (omega (arith, ints, h, e)))) (λ h. by_lt_z b a (λ k. f (λ e. absurd (omega (arith, ints, k, e)))) (λ k. g (omega (arith, ints, h, k))))

rows_of_it : (rect : Bounds) (n : ℕ) (x z : ℤ) → IsInside (first_rows rect (n + 1)) x z → z ≢ (rect.y0 +ℤ pos n) → IsInside (first_rows rect n) x z
rows_of_it rect n x z i ne = record { left = i.left; right = i.right; top = i.top; bottom = by_lt_z z (rect.y0 +ℤ pos n) (λ h. h) (λ h. absurd (ne (let b = i.bottom in omega (arith, ints)))) }

more_rows_hold : (rect : Bounds) (n : ℕ) (x z : ℤ) → IsInside (first_rows rect n) x z → IsInside (first_rows rect (n + 1)) x z
more_rows_hold rect n x z i = record { left = i.left; right = i.right; top = i.top; bottom = let b = i.bottom in omega (arith, ints) }

module _ {N : Type 0} (rect : Bounds) (n count : ℕ) (line : LineModel) (f : ℤ → ℤ → Px) (before t : Tile N) where
  pub redrawn_more : IsRedrawn before t (first_rows rect n) f → IsTile t → IsWithin t.rect rect → n < height_of rect → rect.y0 ≤ℤ rect.y1 → rect.x0 <ℤ rect.x1 → count ≡ width_of rect → IsLine line → count ≤ width line
      → ((k : ℕ) → k < count → pixel line k ≡ f (rect.x0 +ℤ pos k) (rect.y0 +ℤ pos n))
      → IsRedrawn before (with_line_in rect (rect.y0 +ℤ pos n) count line t) (first_rows rect (n + 1)) f
  redrawn_more d tile w h down across wide is fits colours = record {
    same_rect = d.same_rect;
    same_note = d.same_note;
    inside = λ p x z i. at_inside p x z (inside (first_rows rect (n + 1)) x z i);
    outside = λ p x z i o. at_outside p x z i o;
  }
    where
      y : ℤ
      y = rect.y0 +ℤ pos n

      has_row : HasRow rect (rect.y0 +ℤ pos n)
      has_row = record { top = omega (arith, ints); bottom = omega (arith, ints, h, down) }

      in_tile : (x z : ℤ) → IsInside (first_rows rect (n + 1)) x z → IsTrue (holds t.rect x z)
      in_tile x z i = holds_it t.rect x z (record {
        left = let a = w.left in let b = i.left in omega (arith, ints);
        right = let a = w.right in let b = i.right in omega (arith, ints);
        top = let a = w.top in let b = i.top in omega (arith, ints);
        bottom = let a = w.bottom in let b = i.bottom in omega (arith, ints, h, down);
      })

      at_inside : (p : Plane) (x z : ℤ) → IsInside (first_rows rect (n + 1)) x z → tile_byte p (with_line_in rect (rect.y0 +ℤ pos n) count line t) x z ≡ channel p (f x z)
      at_inside p x z i = apart_or_same z (rect.y0 +ℤ pos n)
          (λ ne. line_outside rect (rect.y0 +ℤ pos n) count line has_row across wide is fits t tile w p x z (in_tile x z i) (inl ne)
          ∙ d.inside p x z (holds_it (first_rows rect n) x z (rows_of_it rect n x z i ne)))
          (λ same.
          let k = unsigned_abs (x -ℤ rect.x0) in
          let less : k < count = (let a = i.left in let b = i.right in omega (arith, ints, wide)) in
          let at : rect.x0 +ℤ pos k ≡ x = (let a = i.left in omega (arith, ints)) in
          subst (λ (v : ℤ). tile_byte p (with_line_in rect (rect.y0 +ℤ pos n) count line t) x v ≡ channel p (f x v)) (sym same)
          (subst (λ (u : ℤ). tile_byte p (with_line_in rect (rect.y0 +ℤ pos n) count line t) u (rect.y0 +ℤ pos n) ≡ channel p (f u (rect.y0 +ℤ pos n))) at
          (line_inside rect (rect.y0 +ℤ pos n) count line has_row across wide is fits t tile w p k less ∙ ap (channel p) (colours k less))))

      at_outside : (p : Plane) (x z : ℤ) → IsTrue (holds before.rect x z) → IsFalse (holds (first_rows rect (n + 1)) x z) → tile_byte p (with_line_in rect (rect.y0 +ℤ pos n) count line t) x z ≡ tile_byte p before x z
      at_outside p x z i o =
          let beyond : (IsInside (first_rows rect (n + 1)) x z → ⊥) = λ j. true≢false (sym (holds_it (first_rows rect (n + 1)) x z j) ∙ o) in
          let there : IsTrue (holds t.rect x z) = subst (λ (b : Bounds). IsTrue (holds b x z)) (sym d.same_rect) i in
          let off : (z ≢ (rect.y0 +ℤ pos n)) ⊎ (x <ℤ rect.x0) ⊎ (rect.x1 ≤ℤ x) = apart_or_same z (rect.y0 +ℤ pos n) (λ ne. inl ne)
          (λ same. by_lt_z x rect.x0 (λ l. inr (inl l)) (λ l. by_lt_z x rect.x1
          (λ r. absurd (beyond (record { left = l; right = r; top = omega (arith, ints, same); bottom = omega (arith, ints, same) })))
          (λ r. inr (inr r)))) in
          line_outside rect (rect.y0 +ℤ pos n) count line has_row across wide is fits t tile w p x z there off
          ∙ d.outside p x z i (misses_it (first_rows rect n) x z (λ j. beyond (more_rows_hold rect n x z j)))

pub all_rows : (rect : Bounds) → rect.y0 ≤ℤ rect.y1 → first_rows rect (height_of rect) ≡ rect
all_rows rect down = ap (λ (z : ℤ). let b : Bounds = record rect { y1 = z } in b) (let e : rect.y0 +ℤ pos (height_of rect) ≡ rect.y1 = omega (arith, ints) in e)

-- ---- the open window
pub record HasTile {N : Type 0} (window : Window) (store : StoreModel N) : Type 0 where
  pub kept : Tile N
  pub found : tile_at window.key store.tiles ≡ Some kept
  pub tile : IsTile kept
  pub covers : Covers kept.rect window.rect

module _ {N : Type 0} (window : Window) (store : StoreModel N) (is : IsStore store) (opened : store.window ≡ Some window) where
  lies : LiesInTile window.rect (tile_at window.key store.tiles)
  lies = rw opened at is.window

  found_in : (o : Option (Tile N)) → tile_at window.key store.tiles ≡ o → LiesInTile window.rect o → HasTile window store
  found_in (Some t) e l = record { kept = t; found = e; tile = tile_in window.key store.tiles t is.tiles e; covers = l }
  found_in None e l = absurd l

  pub window_tile : HasTile window store
  window_tile = found_in (tile_at window.key store.tiles) refl lies

pub narrow_window : {N : Type 0} (window : Window) (store : StoreModel N) → HasTile window store → window.rect.x0 <ℤ window.rect.x1 → window.rect.y0 <ℤ window.rect.y1
    → (width_of window.rect < 2 ^ 16) × (height_of window.rect < 2 ^ 16)
narrow_window window store h across down =
    let w = within h.kept.rect window.rect h.covers across down in
    let i = h.tile.sides.across in let j = h.tile.sides.down in
    ((let a = w.left in let b = w.right in omega (arith, ints)), (let a = w.top in let b = w.bottom in omega (arith, ints)))

-- ---- the store
pub none_drawn : {N : Type 0} (old : StoreModel N) (window : Window) (f : ℤ → ℤ → Px) → IsWindowDrawnTo old old window 0 f
none_drawn old window f = record {
  change = λ t. t;
  tile = λ before e. record { same_rect = refl; same_note = refl; inside = λ p x z i. let j = inside (first_rows window.rect 0) x z i in absurd (let a = j.top in let b = j.bottom in omega (arith, ints)); outside = λ p x z i o. refl };
  whole = λ before e i. i;
  store = ap (λ (tiles : TileList _). let s : StoreModel _ = record old { tiles = tiles } in s) (sym (changed_id window.key old.tiles));
}

pub empty_drawn : {N : Type 0} (old : StoreModel N) (window : Window) (f : ℤ → ℤ → Px) → HasNoPoint window.rect → window.rect.y0 ≤ℤ window.rect.y1 → IsWindowDrawnTo old old window (height_of window.rect) f
empty_drawn old window f none down = record {
  change = λ t. t;
  tile = λ before e. record { same_rect = refl; same_note = refl; inside = λ p x z i. absurd (true≢false (sym (subst (λ (b : Bounds). IsTrue (holds b x z)) (all_rows window.rect down) i) ∙ none x z)); outside = λ p x z i o. refl };
  whole = λ before e i. i;
  store = ap (λ (tiles : TileList _). let s : StoreModel _ = record old { tiles = tiles } in s) (sym (changed_id window.key old.tiles));
}

module _ {N : Type 0} (window : Window) (old now : StoreModel N) (opened : old.window ≡ Some window) (change : Tile N → Tile N) (is : now ≡ record old { tiles = changed_at window.key change old.tiles }) where
  abbrev with_tiles : TileList N → StoreModel N
  with_tiles tiles = record old { tiles = tiles }

  row_put : (p : Plane) (y : ℤ) (bytes : List ℕ) (f : Tile N → Tile N)
      → with_window_row p y bytes (with_tiles (changed_at window.key f old.tiles)) ≡ with_tiles (changed_at window.key (λ t. with_part_in window.rect p y bytes (f t)) old.tiles)
  row_put p y bytes f =
      let tiles = changed_at window.key f old.tiles in
      ap with_tiles (ap (λ o. option_map_or (λ w. changed_at w.key (with_part_in w.rect p y bytes) tiles) o tiles) opened ∙ changed_twice window.key (with_part_in window.rect p y bytes) f old.tiles)

  pub line_put : (y : ℤ) (count : ℕ) (line : LineModel) → with_window_line y count line now ≡ record old { tiles = changed_at window.key (λ t. with_line_in window.rect y count line (change t)) old.tiles }
  line_put y count line =
      let b = ap (with_window_row B y (take count line.blue)) is ∙ row_put B y (take count line.blue) change in
      let g = ap (with_window_row G y (take count line.green)) b ∙ row_put G y (take count line.green) (λ t. with_part_in window.rect B y (take count line.blue) (change t)) in
      let r = ap (with_window_row R y (take count line.red)) g ∙ row_put R y (take count line.red) (λ t. with_part_in window.rect G y (take count line.green) (with_part_in window.rect B y (take count line.blue) (change t))) in
      ap (with_window_row A y (take count line.alpha)) r
      ∙ row_put A y (take count line.alpha) (λ t. with_part_in window.rect R y (take count line.red) (with_part_in window.rect G y (take count line.green) (with_part_in window.rect B y (take count line.blue) (change t))))

-- a row that is to come is one of the window's
pub row_ready : {N : Type 0} (window : Window) (old now : StoreModel N) (n : ℕ) (f : ℤ → ℤ → Px) → old.window ≡ Some window → IsWindowDrawnTo old now window n f → window.rect.x0 <ℤ window.rect.x1
    → n < height_of window.rect → window.rect.y0 <ℤ window.rect.y1 → (y : ℤ) → y ≡ window.rect.y0 +ℤ pos n → HasWindowRow now.window y
row_ready {N} window old now n f opened d across h down y e =
    let same : now.window ≡ Some window = ap (λ (s : StoreModel N). s.window) d.store ∙ opened in
    rw same (across, record { top = omega (arith, ints, e); bottom = omega (arith, ints, e, h, down) })

-- and a row more is drawn
pub row_drawn : {N : Type 0} (window : Window) (old now new : StoreModel N) (n count : ℕ) (line : LineModel) (f : ℤ → ℤ → Px) → old.window ≡ Some window → HasTile window old
    → IsWindowDrawnTo old now window n f → window.rect.x0 <ℤ window.rect.x1 → window.rect.y0 <ℤ window.rect.y1 → n < height_of window.rect → count ≡ width_of window.rect → IsLine line → count ≤ width line
    → ((k : ℕ) → k < count → pixel line k ≡ f (window.rect.x0 +ℤ pos k) (window.rect.y0 +ℤ pos n))
    → new ≡ with_window_line (window.rect.y0 +ℤ pos n) count line now → IsWindowDrawnTo old new window (n + 1) f
row_drawn {N} window old now new n count line f opened h d across down more wide is fits colours put = record {
  change = λ t. with_line_in window.rect (window.rect.y0 +ℤ pos n) count line (d.change t);
  tile = λ before e. redrawn_more window.rect n count line f before (d.change before) (d.tile before e) (whole_now before e) (in_it before e) more (omega (arith, ints, down)) across wide is fits colours;
  whole = λ before e i. tile_line window.rect (window.rect.y0 +ℤ pos n) count line (record { top = omega (arith, ints); bottom = omega (arith, ints, more, down) }) across wide is fits (d.change before) (d.whole before e i) (in_it before e);
  store = put ∙ line_put window old now opened d.change d.store (window.rect.y0 +ℤ pos n) count line;
}
  where
    same_tile : (before : Tile N) → tile_at window.key old.tiles ≡ Some before → h.kept ≡ before
    same_tile before e = let k : Some h.kept ≡ Some before = sym h.found ∙ e in cc

    whole_now : (before : Tile N) → tile_at window.key old.tiles ≡ Some before → IsTile (d.change before)
    whole_now before e = d.whole before e (subst (λ (t : Tile N). IsTile t) (same_tile before e) h.tile)

    in_it : (before : Tile N) → tile_at window.key old.tiles ≡ Some before → IsWithin (d.change before).rect window.rect
    in_it before e = subst (λ (b : Bounds). IsWithin b window.rect) (sym (d.tile before e).same_rect) (subst (λ (t : Tile N). IsWithin t.rect window.rect) (same_tile before e) (within h.kept.rect window.rect h.covers across down))

-- a window that was opened, drawn to its last row and closed
pub closed_drawn : {N : Type 0} (old ready drawn new : StoreModel N) (window : Window) (f : ℤ → ℤ → Px)
    → ready ≡ record old { window = Some window; opened = opened_after old.opened (area_of window.rect) } → IsWindowDrawnTo ready drawn window (height_of window.rect) f
    → new ≡ record drawn { window = None } → window.rect.y0 ≤ℤ window.rect.y1 → IsWindowDrawn old new window f
closed_drawn {N} old ready drawn new window f start d end down = record {
  change = d.change;
  tile = λ before e. subst (λ (b : Bounds). IsRedrawn before (d.change before) b f) (all_rows window.rect down) (d.tile before (ap (λ (s : StoreModel N). tile_at window.key s.tiles) start ∙ e));
  store = end ∙ ap (λ (s : StoreModel N). let c : StoreModel N = record s { window = None } in c) d.store
      ∙ ap (λ (s : StoreModel N). let c : StoreModel N = record { tiles = changed_at window.key d.change s.tiles; window = None; opened = s.opened } in c) start;
}

-- ---- where rows lie

-- the first pixel of a row of a rectangle is one that a row can begin with
pub row_first : (rect : Bounds) (i : ℕ) → IsRect rect → rect.y0 <ℤ rect.y1 → i < height_of rect → IsFirst (record { x = rect.x0; y = rect.y0 +ℤ pos i })
row_first rect i is down h =
    let left = is.in_range.left in
    let top = is.in_range.top in
    let bottom = is.in_range.bottom in
    record {
      left = left.low;
      right = left.high;
      top = omega (arith, ints, top.low);
      bottom = omega (arith, ints, bottom.high, down, h);
    }

-- a row ends no later than coordinates of rectangles do
pub row_reach : (rect : Bounds) → IsRect rect → (rect.x0 +ℤ pos (width_of rect)) ≤ℤ pos (2 ^ 29)
row_reach rect is = let right = is.in_range.right in omega (arith, ints, is.across, right.high)

-- ---- an empty window

pub nothing_drawn : {N : Type 0} (old : StoreModel N) (window : Window) (f : ℤ → ℤ → Px) → IsRect window.rect → HasNoPoint window.rect → old.window ≡ None → old.opened < 2 ^ 64 → IsWindowDrawn old old window f
nothing_drawn old window f is none closed fits =
    let area : area_of window.rect ≡ 0 = (area_none window.rect is).1 none in
    let same : old.opened ≡ opened_after old.opened (area_of window.rect) = omega (arith, area, fits) in
    record {
      change = λ t. t;
      tile = λ before e. record { same_rect = refl; same_note = refl; inside = λ p x z i. absurd (true≢false (sym i ∙ none x z)); outside = λ p x z i o. refl };
      store = λ i. record { tiles = sym (changed_id window.key old.tiles) i; window = closed i; opened = same i };
    }
