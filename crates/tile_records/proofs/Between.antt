-- What two lists of ids don't have in common, their entries don't have either.
use Rattle.std.proofs.Common.{rules, ◌≡◌, ◌≤◌, ◌-◌, ℕ, zero, suc, List, [], ◌∷◌, reverse, length, take, drop, IsSome, refl, sym, ap, ap₂, subst, ◌∙◌, true, arith}
use Rattle.std.proofs.lemmas.Grind.{common_steps}
use Rattle.std.proofs.lemmas.List.{reverse-append, reverse-reverse, length-reverse, take-append-le}
use Rattle.std.proofs.lemmas.List.Elements.{All-head, All-tail, All-append, All-cons, All-nil}
use Rattle.std.specs.FinMap.{get}
use Rattle.wr_geom.specs.Bounds.{Bounds}
use Rattle.primitives.specs.declared.entry.Entry.{Entry}
use Rattle.tile_records.specs.declared.id.Id.{Id}
use Rattle.tile_records.specs.Interning.{Interning, AreHeld, IsDistinct, ids_keys}
use Rattle.tile_records.specs.Dirt.{Pair, same_entry, rests, reversed, fronts, middles, dirt_between, dirt, SharedPrefix}
use Rattle.tile_records.proofs.Unders.{under, unders, rests_under, under_reversed, keys_append}

-- ---- lists

take_length : {A : Type 0} (xs : List A) (k : ℕ) → length xs ≤ k → take k xs ≡ xs
take_length xs k h = search (rules, common_steps)

reverse_drop : {A : Type 0} (n : ℕ) (ys : List A) → reverse (drop n ys) ≡ take (length ys - n) (reverse ys)
reverse_drop zero ys = sym (take_length (reverse ys) (length ys - 0) (omega (arith, length-reverse ys)))
reverse_drop (suc n) [] = search (rules, common_steps)
reverse_drop (suc n) (y ∷ ys) =
    let k : length ys - n ≤ length (reverse ys) = omega (arith, length-reverse ys) in
    let e : length (y ∷ ys) - suc n ≡ length ys - n = omega arith in
    reverse_drop n ys ∙ rw (e, reverse-append (y ∷ []) ys, take-append-le) refl

-- what is left before n members at the end
before_end : {A : Type 0} (n : ℕ) (xs : List A) → reverse (drop n (reverse xs)) ≡ take (length xs - n) xs
before_end n xs = reverse_drop n (reverse xs) ∙ rw (length-reverse xs, reverse-reverse xs) refl

whole_rest : {A : Type 0} (m : ℕ) (xs : List A) → take (length xs - m) (drop m xs) ≡ drop m xs
whole_rest m xs = search (rules, common_steps)

module _ (m : Interning) where
  held_reversed : (xs : List Id) → AreHeld m (ids_keys xs) → AreHeld m (ids_keys (reverse xs))
  held_reversed [] h = h
  held_reversed (a ∷ xs) h =
      subst (AreHeld m) (sym (ap ids_keys (reverse-append (a ∷ []) xs) ∙ keys_append (reverse xs) (a ∷ [])))
      (All-append (λ (k : ℕ). IsSome (get m k)) (ids_keys (reverse xs)) (a.key ∷ [])
      (held_reversed xs (All-tail (λ (k : ℕ). IsSome (get m k)) a.key (ids_keys xs) h))
      (All-cons (λ (k : ℕ). IsSome (get m k)) a.key [] (All-head (λ (k : ℕ). IsSome (get m k)) a.key (ids_keys xs) h) (All-nil (λ (k : ℕ). IsSome (get m k)))))

  held_drop : (n : ℕ) (xs : List Id) → AreHeld m (ids_keys xs) → AreHeld m (ids_keys (drop n xs))
  held_drop zero xs h = h
  held_drop (suc n) [] h = h
  held_drop (suc n) (x ∷ xs) h = held_drop n xs (All-tail (λ (k : ℕ). IsSome (get m k)) x.key (ids_keys xs) h)

module _ (m : Interning) (distinct : IsDistinct m) (exact : (a b : Entry) → same_entry a b ≡ true → a ≡ b) (self : (a : Entry) → same_entry a a ≡ true) where
  back_under : (n : ℕ) (xs : List Id) → AreHeld m (ids_keys xs) → reverse (under m (drop n (reverse xs))) ≡ under m (take (length xs - n) xs)
  back_under n xs h =
      under_reversed m distinct exact self (drop n (reverse xs)) (held_drop m n (reverse xs) (held_reversed m xs h)) ∙ ap (under m) (before_end n xs)

  fronts_under : (xs ys : List Id) (n : ℕ) → AreHeld m (ids_keys xs) → AreHeld m (ids_keys ys) → SharedPrefix n (reverse xs) (reverse ys)
      → fronts same_entry (under m xs) (under m ys) ≡ unders m (record { old = take (length xs - n) xs; new = take (length ys - n) ys })
  fronts_under xs ys n h k e =
      ap₂ (λ (a b : List Entry). reversed (rests same_entry a b)) (under_reversed m distinct exact self xs h) (under_reversed m distinct exact self ys k)
      ∙ ap (λ (p : Pair Entry). reversed p) (rests_under m distinct exact self (reverse xs) (reverse ys) (held_reversed m xs h) (held_reversed m ys k))
      ∙ ap (λ (p : Pair Id). reversed (unders m p)) e
      ∙ ap₂ (λ (a b : List Entry). let p : Pair Entry = record { old = a; new = b } in p) (back_under n xs h) (back_under n ys k)

  middles_under : (xs ys zs ws : List Id) (i n : ℕ) → AreHeld m (ids_keys xs) → AreHeld m (ids_keys ys)
      → zs ≡ drop i xs → ws ≡ drop i ys → SharedPrefix i xs ys → SharedPrefix n (reverse zs) (reverse ws)
      → middles same_entry (under m xs) (under m ys) ≡ unders m (record { old = take (length zs - n) zs; new = take (length ws - n) ws })
  middles_under xs ys zs ws i n h k e f g s =
      ap (λ (p : Pair Entry). fronts same_entry p.old p.new) (rests_under m distinct exact self xs ys h k ∙ ap (unders m) g)
      ∙ ap₂ (λ (a b : List Id). fronts same_entry (under m a) (under m b)) (sym e) (sym f)
      ∙ fronts_under zs ws n (subst (λ (l : List Id). AreHeld m (ids_keys l)) (sym e) (held_drop m i xs h)) (subst (λ (l : List Id). AreHeld m (ids_keys l)) (sym f) (held_drop m i ys k)) s

  pub dirt_under : (xs ys : List Id) (i n : ℕ) (rect : Bounds) → AreHeld m (ids_keys xs) → AreHeld m (ids_keys ys)
      → SharedPrefix i xs ys
      → SharedPrefix n (reverse (take (length xs - i) (drop i xs))) (reverse (take (length ys - i) (drop i ys)))
      → dirt (under m xs) (under m ys) rect
      ≡ dirt_between (under m (take (length (take (length xs - i) (drop i xs)) - n) (take (length xs - i) (drop i xs)))) (under m (take (length (take (length ys - i) (drop i ys)) - n) (take (length ys - i) (drop i ys)))) rect
  dirt_under xs ys i n rect h k e f =
      ap (λ (p : Pair Entry). dirt_between p.old p.new rect)
      (middles_under xs ys (take (length xs - i) (drop i xs)) (take (length ys - i) (drop i ys)) i n h k (whole_rest i xs) (whole_rest i ys) e f)
