-- Kept tiles stay sound from a scene to the next.
use Rattle.std.proofs.Common.{◌≡◌, ◌⊎◌, inl, inr, ℕ, ◌≤◌, ◌<◌, List, [], ◌∷◌, Option, Some, None, option_map, IfSome, All, ℤ, refl, sym, ap, subst, ◌∙◌, arith}
use Rattle.std.proofs.lemmas.List.Elements.{All-nil, All-cons, All-head, All-tail, All-weaker}
use Rattle.wr_geom.specs.declared.keys.TileKey.{TileKey}
use Rattle.image_store.specs.Models.{ImageModel, MaskModel}
use Rattle.image_store.specs.StoreModel.{StoreModel, IsStore, image_at, glyph_at}
use Rattle.image_store.specs.Laws.{IsUpTo}
use Rattle.primitives.specs.declared.entry.Entry.{Entry}
use Rattle.primitives.specs.declared.entry.Entry.TheVariants as entry
use Rattle.primitives.specs.declared.kind.GlyphUse.{GlyphUse}
use Rattle.primitives.specs.declared.kind.Kind.{Kind}
use Rattle.primitives.specs.declared.kind.Kind.TheVariants as kind
use Rattle.primitives.proofs.Colours.{clear_where_not_visible}
use Rattle.tile_grid.specs.declared.tile.TileSides.{TileSides}
use Rattle.tile_records.specs.Right.{IsCurrentUse, IsCurrentKind, IsCurrentAt}
use Rattle.kept_tiles.specs.Sound.{IsUseUpTo, IsKindUpTo, IsNamedUpTo, IsSound, Agrees}
use Rattle.kept_tiles.specs.Tiles.{KeptTile, kept_at}
use Rattle.kept_tiles.proofs.Agreement.{value_same}
use Rattle.scene_resources.specs.Laws.{StoresAgree, TilesStaySound, TilesAreSoundAbove}
use Rattle.scene_resources.proofs.Counting.{IsLater, next_moves}

-- ---- one resource in two stores

known : {A : Type 0} (generation : A → ℕ) (x : A) (g : ℕ) → option_map generation (Some x) ≡ Some g → generation x ≡ g
known generation x g e = cc

-- the new one has a generation that isn't above the last one, so it stood before
stood : {A : Type 0} (generation : A → ℕ) (old : Option A) (x : A) (last g : ℕ) → generation x ≡ g → g ≤ last → (old ≡ Some x) ⊎ (last < generation x) → old ≡ Some x
stood generation old x last g e le (inl same) = same
stood generation old x last g e le (inr lt) = absurd (omega (arith, e, le, lt))

one_same : {A : Type 0} (generation : A → ℕ) (old new : Option A) (last g : ℕ) → ((x : A) → old ≡ Some x → generation x ≤ last)
    → ((x : A) → new ≡ Some x → (old ≡ Some x) ⊎ (last < generation x)) → option_map generation old ≡ Some g → option_map generation new ≡ Some g → old ≡ new
one_same generation None new last g up later h j = absurd cc
one_same generation (Some x) None last g up later h j = absurd cc
one_same generation (Some x) (Some y) last g up later h j =
    let le : g ≤ last = subst (λ (z : ℕ). z ≤ last) (known generation x g h) (up x refl) in
    stood generation (Some x) y last g (known generation y g j) le (later y refl)

use_before : {A : Type 0} (generation : A → ℕ) (old new : Option A) (last : ℕ) (carried : Option ℕ) → ((x : A) → new ≡ Some x → (old ≡ Some x) ⊎ (last < generation x))
    → IsUseUpTo last carried → IsCurrentUse carried (option_map generation new) → IsCurrentUse carried (option_map generation old)
use_before generation old new last None later le h = tt
use_before generation old None last (Some g) later le h = absurd cc
use_before generation old (Some x) last (Some g) later le h = ap (option_map generation) (stood generation old x last g (known generation x g h) le (later x refl)) ∙ h

-- ---- what names no generation above the last one, and is current, was current

module _ (old new : StoreModel) (last : ℕ) (later : IsLater old new last) where
  stores_agree_on : IsUpTo last old → Agrees old new
  stores_agree_on up = record {
    images = λ p k g h j. one_same (λ (i : ImageModel). i.generation) (image_at old p k) (image_at new p k) last g (up.images p k) (later.images p k) h j;
    masks = λ p f k g h j. one_same (λ (m : MaskModel). m.generation) (glyph_at old p f k) (glyph_at new p f k) last g (up.masks p f k) (later.masks p f k) h j;
  }

  glyphs_before : (p f : ℕ) (glyphs : List GlyphUse) → All (λ (g : GlyphUse). IsUseUpTo last g.generation) glyphs
      → All (λ (g : GlyphUse). IsCurrentUse g.generation (option_map (λ m. m.generation) (glyph_at new p f g.glyph))) glyphs
      → All (λ (g : GlyphUse). IsCurrentUse g.generation (option_map (λ m. m.generation) (glyph_at old p f g.glyph))) glyphs
  glyphs_before p f [] named h = All-nil (λ (g : GlyphUse). IsCurrentUse g.generation (option_map (λ m. m.generation) (glyph_at old p f g.glyph)))
  glyphs_before p f (g ∷ glyphs) named h =
      All-cons (λ (u : GlyphUse). IsCurrentUse u.generation (option_map (λ m. m.generation) (glyph_at old p f u.glyph))) g glyphs
      (use_before (λ (m : MaskModel). m.generation) (glyph_at old p f g.glyph) (glyph_at new p f g.glyph) last g.generation (later.masks p f g.glyph)
      (All-head (λ (u : GlyphUse). IsUseUpTo last u.generation) g glyphs named)
      (All-head (λ (u : GlyphUse). IsCurrentUse u.generation (option_map (λ m. m.generation) (glyph_at new p f u.glyph))) g glyphs h))
      (glyphs_before p f glyphs (All-tail (λ (u : GlyphUse). IsUseUpTo last u.generation) g glyphs named)
      (All-tail (λ (u : GlyphUse). IsCurrentUse u.generation (option_map (λ m. m.generation) (glyph_at new p f u.glyph))) g glyphs h))

  kind_before : (k : Kind) → IsKindUpTo last k → IsCurrentKind new k → IsCurrentKind old k
  kind_before (kind.Solid colour) named h = tt
  kind_before (kind.Image p key g u v) named h = use_before (λ (i : ImageModel). i.generation) (image_at old p key) (image_at new p key) last g (later.images p key) named h
  kind_before (kind.Border widths top right bottom l radii) named h = tt
  kind_before (kind.Text p f colour glyphs) named h = glyphs_before p f glyphs named h

  entry_before : (x y : ℤ) (e : Entry) → IsNamedUpTo last e → IsCurrentAt new x y e → IsCurrentAt old x y e
  entry_before x y (entry.Primitive p) named h = λ shows. kind_before p.kind named (h shows)
  entry_before x y (entry.Push opacity mode clips) named h = tt
  entry_before x y entry.Pop named h = tt

  entries_before : (x y : ℤ) (es : List Entry) → All (IsNamedUpTo last) es → All (IsCurrentAt new x y) es → All (IsCurrentAt old x y) es
  entries_before x y [] named h = All-nil (IsCurrentAt old x y)
  entries_before x y (e ∷ es) named h =
      All-cons (IsCurrentAt old x y) e es
      (entry_before x y e (All-head (IsNamedUpTo last) e es named) (All-head (IsCurrentAt new x y) e es h))
      (entries_before x y es (All-tail (IsNamedUpTo last) e es named) (All-tail (IsCurrentAt new x y) e es h))

-- ---- greater counters

use_above : (n m : ℕ) (carried : Option ℕ) → n ≤ m → IsUseUpTo n carried → IsUseUpTo m carried
use_above n m None le h = tt
use_above n m (Some g) le h = let own : g ≤ n = h in omega (arith, le, own)

kind_above : (n m : ℕ) (k : Kind) → n ≤ m → IsKindUpTo n k → IsKindUpTo m k
kind_above n m (kind.Solid colour) le h = tt
kind_above n m (kind.Image p key g u v) le h = use_above n m g le h
kind_above n m (kind.Border widths top right bottom l radii) le h = tt
kind_above n m (kind.Text p f colour glyphs) le h =
    All-weaker (λ (g : GlyphUse). IsUseUpTo n g.generation) (λ (g : GlyphUse). IsUseUpTo m g.generation) (λ g own. use_above n m g.generation le own) glyphs h

entry_above : (n m : ℕ) (e : Entry) → n ≤ m → IsNamedUpTo n e → IsNamedUpTo m e
entry_above n m (entry.Primitive p) le h = kind_above n m p.kind le h
entry_above n m (entry.Push opacity mode clips) le h = tt
entry_above n m entry.Pop le h = tt

entries_above : (n m : ℕ) (es : List Entry) → n ≤ m → All (IsNamedUpTo n) es → All (IsNamedUpTo m) es
entries_above n m es le h = All-weaker (IsNamedUpTo n) (IsNamedUpTo m) (λ e own. entry_above n m e le own) es h

-- ---- kept tiles

each_tile : (o : Option KeptTile) (P Q : KeptTile → Type 0) → ((t : KeptTile) → P t → Q t) → IfSome o P → IfSome o Q
each_tile None P Q weaker h = tt
each_tile (Some t) P Q weaker h = weaker t h

sound_above : (sides : TileSides) (n m : ℕ) (store : StoreModel) (key : TileKey) (tile : KeptTile) → n ≤ m → IsSound sides n store key tile → IsSound sides m store key tile
sound_above sides n m store key tile le s = record { rect = s.rect; pixels = s.pixels; good = s.good; named = entries_above n m tile.entries le s.named; right = s.right }

pub tiles_are_sound_above : TilesAreSoundAbove
tiles_are_sound_above sides n m store tiles le sound =
    λ key. each_tile (kept_at key tiles) (IsSound sides n store key) (IsSound sides m store key) (λ tile s. sound_above sides n m store key tile le s) (sound key)

-- a tile that was sound is so over a later store, up to the same counter
sound_later : (sides : TileSides) (last : ℕ) (old new : StoreModel) (key : TileKey) (tile : KeptTile) → IsLater old new last → IsUpTo last old → IsStore old → IsStore new
    → IsSound sides last old key tile → IsSound sides last new key tile
sound_later sides last old new key tile later up is_old is_new s = record {
  rect = s.rect;
  pixels = s.pixels;
  good = s.good;
  named = s.named;
  right = λ x y inside current.
      let before = entries_before old new last later x y tile.entries s.named current in
      s.right x y inside before
      ∙ value_same old new (stores_agree_on old new last later up) clear_where_not_visible is_old is_new tile.entries x y s.good before current;
}

pub tiles_stay_sound : TilesStaySound
tiles_stay_sound t old new last next sides tiles e up is_old is_new sound =
    let moves = next_moves t old new last next e in
    tiles_are_sound_above sides last next new.store tiles moves.least
    (λ key. each_tile (kept_at key tiles) (IsSound sides last old.store key) (IsSound sides last new.store key)
    (λ tile s. sound_later sides last old.store new.store key tile moves.later up is_old is_new s) (sound key))

-- ---- stores

agrees_back : (a b : StoreModel) → Agrees a b → Agrees b a
agrees_back a b h = record { images = λ p k g i j. sym (h.images p k g j i); masks = λ p f k g i j. sym (h.masks p f k g j i) }

pub stores_agree : StoresAgree
stores_agree t old new last next e up =
    let agree = stores_agree_on old.store new.store last (next_moves t old new last next e).later up in
    (agree, agrees_back old.store new.store agree)
