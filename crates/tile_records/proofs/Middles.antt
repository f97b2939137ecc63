-- Lists that differ in balanced middles, and their dirt.
use Rattle.std.proofs.Common.{◌≡◌, Bool, true, false, ◌&&◌, List, [], ◌∷◌, ◌++◌, reverse, All, if◌then◌else◌, refl, sym, ap, ap₂, ◌∙◌, subst, true≢false}
use Rattle.std.specs.Prelude.{ℤ}
use Rattle.std.proofs.lemmas.Bool.{and_parts}
use Rattle.std.proofs.lemmas.List.{reverse-append, reverse-reverse}
use Rattle.std.proofs.lemmas.List.Elements.{All-head, All-tail, All-cons, All-nil}
use Rattle.wr_geom.specs.Bounds.{Bounds, Covers, holds, has_points, nowhere, bounding, intersection}
use Rattle.wr_geom.proofs.Points.{no_points, intersection_points, intersection_apart}
use Rattle.wr_geom.proofs.Rects.{bounding_covers_first, bounding_covers_second, intersection_in_second}
use Rattle.blend_rules.proofs.Blends.{clear_is_pixel}
use Rattle.image_store.specs.StoreModel.{StoreModel, IsStore}
use Rattle.primitives.specs.Colours.{visible_rect}
use Rattle.primitives.specs.Facts.{IsEntry, IsGroup, IsHidden}
use Rattle.primitives.specs.Stacks.{Stack, empty_stack, run, balanced, value_at}
use Rattle.primitives.specs.declared.entry.Entry.{Entry}
use Rattle.primitives.specs.declared.entry.Entry.TheVariants as entry
use Rattle.primitives.proofs.Runs.{runs_in_parts, run_keeps_pixels, hidden_list_leaves_stack}
use Rattle.tile_records.specs.Dirt.{Pair, same_entry, rests, fronts, middles, extent_from, extent, dirt_between}
use Rattle.tile_records.specs.Laws.{MiddlesMatterInside, DirtIsEnough, SameIsClean, DirtIsInTile}

-- ---- parts of lists

module _ {A : Type 0} (P : A → Type 0) where
  pub all_front : (xs ys : List A) → All P (xs ++ ys) → All P xs
  all_front [] ys h = All-nil P
  all_front (x ∷ xs) ys h = All-cons P x xs (All-head P x (xs ++ ys) h) (all_front xs ys (All-tail P x (xs ++ ys) h))

  pub all_back : (xs ys : List A) → All P (xs ++ ys) → All P ys
  all_back [] ys h = h
  all_back (x ∷ xs) ys h = all_back xs ys (All-tail P x (xs ++ ys) h)

-- two lists with one front
record Splits {A : Type 0} (xs ys : List A) (p : Pair A) : Type 0 where
  front : List A
  old_is : xs ≡ front ++ p.old
  new_is : ys ≡ front ++ p.new

-- and with one back
pub record Surrounds {A : Type 0} (xs ys : List A) (m : Pair A) : Type 0 where
  pub front : List A
  pub back : List A
  pub old_is : xs ≡ front ++ (m.old ++ back)
  pub new_is : ys ≡ front ++ (m.new ++ back)

module _ {A : Type 0} (same : A → A → Bool) (exact : (a b : A) → same a b ≡ true → a ≡ b) where
  splits_if : (a b : A) (xs ys : List A) (t : Bool) → same a b ≡ t → Splits xs ys (rests same xs ys)
      → Splits (a ∷ xs) (b ∷ ys) (if t then rests same xs ys else record { old = a ∷ xs; new = b ∷ ys })
  splits_if a b xs ys true e h = record { front = a ∷ h.front; old_is = ap (λ (l : List A). a ∷ l) h.old_is; new_is = ap₂ (λ (c : A) (l : List A). c ∷ l) (sym (exact a b e)) h.new_is }
  splits_if a b xs ys false e h = record { front = []; old_is = refl; new_is = refl }

  rests_split : (xs ys : List A) → Splits xs ys (rests same xs ys)
  rests_split [] ys = record { front = []; old_is = refl; new_is = refl }
  rests_split (a ∷ xs) [] = record { front = []; old_is = refl; new_is = refl }
  rests_split (a ∷ xs) (b ∷ ys) = splits_if a b xs ys (same a b) refl (rests_split xs ys)

  -- a list whose reverse begins with back
  reversed_is : (xs back rest : List A) → reverse xs ≡ back ++ rest → xs ≡ reverse rest ++ reverse back
  reversed_is xs back rest h = sym (reverse-reverse xs) ∙ ap reverse h ∙ reverse-append back rest

  pub middles_split : (xs ys : List A) → Surrounds xs ys (middles same xs ys)
  middles_split xs ys =
      let r = rests same xs ys in
      let h = rests_split xs ys in
      let k = rests_split (reverse r.old) (reverse r.new) in
      let t = rests same (reverse r.old) (reverse r.new) in
      record {
        front = h.front;
        back = reverse k.front;
        old_is = h.old_is ∙ ap (λ (l : List A). h.front ++ l) (reversed_is r.old k.front t.old k.old_is);
        new_is = h.new_is ∙ ap (λ (l : List A). h.front ++ l) (reversed_is r.new k.front t.new k.new_is);
      }

  -- equal lists have no rest
  rests_self : ((a : A) → same a a ≡ true) → (xs : List A) → rests same xs xs ≡ record { old = []; new = [] }
  rests_self self [] = refl
  rests_self self (x ∷ xs) = ap (λ (t : Bool). if t then rests same xs xs else record { old = x ∷ xs; new = x ∷ xs }) (self x) ∙ rests_self self xs

-- ---- rectangles

not_covered : (r b : Bounds) (x y : ℤ) → Covers r b → holds r x y ≡ false → holds b x y ≡ false
not_covered r b x y f n = by_test (holds b x y) refl
  where
    by_test : (t : Bool) → holds b x y ≡ t → t ≡ false
    by_test true e = absurd (true≢false (sym (f x y e) ∙ n))
    by_test false e = refl

cut_misses : (a b : Bounds) (x y : ℤ) → holds b x y ≡ true → holds (intersection a b) x y ≡ false → holds a x y ≡ false
cut_misses a b x y k n = by_test (holds a x y) (holds b x y) k (sym (intersection_points a b x y) ∙ n)
  where
    by_test : (s t : Bool) → t ≡ true → (s && t) ≡ false → s ≡ false
    by_test true t e f = absurd (true≢false (sym e ∙ f))
    by_test false t e f = refl

pub extent_first : (x y : ℤ) (a : Bounds) (es : List Entry) → holds (extent_from a es) x y ≡ false → holds a x y ≡ false
extent_first x y a [] n = n
extent_first x y a (entry.Primitive p ∷ es) n = not_covered (bounding a (visible_rect p)) a x y (bounding_covers_first a (visible_rect p)) (extent_first x y (bounding a (visible_rect p)) es n)
extent_first x y a (entry.Push o m clips ∷ es) n = extent_first x y a es n
extent_first x y a (entry.Pop ∷ es) n = extent_first x y a es n

-- outside of the extent no primitive is visible
pub all_hidden : (x y : ℤ) (a : Bounds) (es : List Entry) → holds (extent_from a es) x y ≡ false → All (IsHidden x y) es
all_hidden x y a [] n = All-nil (IsHidden x y)
all_hidden x y a (entry.Primitive p ∷ es) n =
    let b = bounding a (visible_rect p) in
    All-cons (IsHidden x y) (entry.Primitive p) es (not_covered b (visible_rect p) x y (bounding_covers_second a (visible_rect p)) (extent_first x y b es n)) (all_hidden x y b es n)
all_hidden x y a (entry.Push o m clips ∷ es) n = All-cons (IsHidden x y) (entry.Push o m clips) es tt (all_hidden x y a es n)
all_hidden x y a (entry.Pop ∷ es) n = All-cons (IsHidden x y) entry.Pop es tt (all_hidden x y a es n)

-- ---- values

without_middle : (store : StoreModel) (x y : ℤ) (front middle back : List Entry) → IsStore store → All IsEntry front → All IsEntry middle → balanced 0 middle ≡ true → All (IsHidden x y) middle
    → run store x y (front ++ (middle ++ back)) empty_stack ≡ run store x y back (run store x y front empty_stack)
without_middle store x y front middle back h f a b n =
    let s = run store x y front empty_stack in
    let k = run_keeps_pixels store x y front empty_stack h f (record { top = clear_is_pixel; groups = All-nil IsGroup }) in
    runs_in_parts store x y front (middle ++ back) empty_stack
    ∙ runs_in_parts store x y middle back s
    ∙ ap (run store x y back) (hidden_list_leaves_stack store x y middle s h a k.top b n)

pub middles_matter_inside : MiddlesMatterInside
middles_matter_inside store x y front old new back h f a c b d n =
    ap (λ (s : Stack). s.top)
    (without_middle store x y front old back h f a b (all_hidden x y nowhere old (extent_first x y (extent old) new n))
    ∙ sym (without_middle store x y front new back h f c d (all_hidden x y (extent old) new n)))

-- ---- dirt

-- what is dirt between two middles, by whether both are balanced
abbrev pub dirt_by : List Entry → List Entry → Bounds → Bool → Bounds
dirt_by old new rect t = if t then intersection (extent_from (extent old) new) rect else rect

beside_dirt : (store : StoreModel) (front old new back : List Entry) (rect : Bounds) (x y : ℤ) (t : Bool) → (balanced 0 old && balanced 0 new) ≡ t
    → IsStore store → All IsEntry front → All IsEntry old → All IsEntry new → holds rect x y ≡ true → holds (dirt_by old new rect t) x y ≡ false
    → value_at (front ++ (old ++ back)) store x y ≡ value_at (front ++ (new ++ back)) store x y
beside_dirt store front old new back rect x y true e h f a c k n =
    let b = and_parts (balanced 0 old) (balanced 0 new) e in
    middles_matter_inside store x y front old new back h f a c b.0 b.1 (cut_misses (extent_from (extent old) new) rect x y k n)
beside_dirt store front old new back rect x y false e h f a c k n = absurd (true≢false (sym k ∙ n))

-- outside of the dirt no primitive of the old middle is visible
pub old_hidden : (old new : List Entry) (rect : Bounds) (x y : ℤ) (t : Bool) → holds rect x y ≡ true → holds (dirt_by old new rect t) x y ≡ false → All (IsHidden x y) old
old_hidden old new rect x y true k n = all_hidden x y nowhere old (extent_first x y (extent old) new (cut_misses (extent_from (extent old) new) rect x y k n))
old_hidden old new rect x y false k n = absurd (true≢false (sym k ∙ n))

nowhere_none : (x y : ℤ) → holds nowhere x y ≡ false
unfolding has_points
nowhere_none x y = no_points nowhere refl x y

nowhere_cut : (rect : Bounds) → intersection nowhere rect ≡ nowhere
nowhere_cut rect = intersection_apart nowhere rect (λ x y. ap (λ (t : Bool). t && holds rect x y) (nowhere_none x y))

in_tile : (a rect : Bounds) (t : Bool) → Covers rect (if t then intersection a rect else rect)
in_tile a rect true = intersection_in_second a rect
in_tile a rect false = λ x y h. h

pub dirt_is_in_tile : DirtIsInTile
dirt_is_in_tile old new rect =
    let m = middles same_entry old new in
    in_tile (extent_from (extent m.old) m.new) rect (balanced 0 m.old && balanced 0 m.new)

module _ (exact : (a b : Entry) → same_entry a b ≡ true → a ≡ b) where
  pub dirt_is_enough : DirtIsEnough
  dirt_is_enough store old new rect x y h a c k n =
      let m = middles same_entry old new in
      let s = middles_split same_entry exact old new in
      let u = subst (All IsEntry) s.old_is a in
      let v = subst (All IsEntry) s.new_is c in
      ap (λ (es : List Entry). value_at es store x y) s.old_is
      ∙ beside_dirt store s.front m.old m.new s.back rect x y (balanced 0 m.old && balanced 0 m.new) refl h
      (all_front IsEntry s.front (m.old ++ s.back) u)
      (all_front IsEntry m.old s.back (all_back IsEntry s.front (m.old ++ s.back) u))
      (all_front IsEntry m.new s.back (all_back IsEntry s.front (m.new ++ s.back) v)) k n
      ∙ sym (ap (λ (es : List Entry). value_at es store x y) s.new_is)

  -- the dirt, by what two lists have after their common prefix
  abbrev dirt_after : Bounds → Pair Entry → Bounds
  dirt_after rect p = dirt_between (fronts same_entry p.old p.new).old (fronts same_entry p.old p.new).new rect

  pub same_is_clean : ((a : Entry) → same_entry a a ≡ true) → SameIsClean
  same_is_clean self es rect = ap (dirt_after rect) (rests_self same_entry exact self es) ∙ nowhere_cut rect
