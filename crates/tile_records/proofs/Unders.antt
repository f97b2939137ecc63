-- The entries of ids, one after another.
use Rattle.std.proofs.Common.{◌≡◌, ◌<◌, ◌≤◌, ◌+◌, ◌==◌, ℕ, zero, suc, Bool, true, false, List, [], ◌∷◌, ◌++◌, reverse, length, drop, get_or, IsSome, Option, Some, None, if◌then◌else◌, refl, sym, ap, ap₂, ◌∙◌, true≢false, arith}
use Rattle.std.proofs.lemmas.Bool.Decides.{nat_tests}
use Rattle.std.proofs.lemmas.List.{drop_more, drop_all, reverse-append}
use Rattle.std.proofs.lemmas.List.Elements.{All-head, All-tail}
use Rattle.std.specs.FinMap.{get}
use Rattle.wr_geom.specs.Bounds.{Bounds}
use Rattle.primitives.specs.Stacks.{balanced}
use Rattle.primitives.specs.declared.entry.Entry.{Entry}
use Rattle.primitives.specs.declared.entry.Entry.TheVariants as entry
use Rattle.tile_records.specs.declared.id.Id.{Id}
use Rattle.tile_records.specs.declared.slots.Held.{Held}
use Rattle.tile_records.specs.Interning.{Interning, AreHeld, IsDistinct, entry_of, entry_at, entries_under, ids_keys}
use Rattle.tile_records.specs.Dirt.{Pair, same_entry, same_id, no_id, rests, extent_from, depth_after, extended}

-- the entries of ids
abbrev pub under : Interning → List Id → List Entry
under m ids = entries_under m (ids_keys ids)

-- ---- one id more

pub under_some : (m : Interning) (id : Id) (ids : List Id) (e : Entry) → entry_at m id.key ≡ Some e → under m (id ∷ ids) ≡ e ∷ under m ids
under_some m id ids e p = rw p refl

pub under_none : (m : Interning) (id : Id) (ids : List Id) → entry_at m id.key ≡ None → under m (id ∷ ids) ≡ under m ids
under_none m id ids p = rw p refl

next_ids : (m : Interning) (ids : List Id) (i : ℕ) → i < length ids → under m (drop i ids) ≡ under m (get_or ids i no_id ∷ drop (i + 1) ids)
next_ids m ids i h = ap (under m) (drop_more ids i no_id h)

-- ---- balance

balanced_by : (m : Interning) (id : Id) (ids : List Id) (depth next : ℕ) (o : Option Entry) → entry_at m id.key ≡ o → depth_after o depth ≡ Some next → balanced depth (under m (id ∷ ids)) ≡ balanced next (under m ids)
balanced_by m id ids depth next None p e =
    ap (balanced depth) (under_none m id ids p) ∙ ap (λ (n : ℕ). balanced n (under m ids)) (let q : depth ≡ next = cc in q)
balanced_by m id ids depth next (Some (entry.Primitive x)) p e =
    ap (balanced depth) (under_some m id ids (entry.Primitive x) p) ∙ ap (λ (n : ℕ). balanced n (under m ids)) (let q : depth ≡ next = cc in q)
balanced_by m id ids depth next (Some (entry.Push o k c)) p e =
    ap (balanced depth) (under_some m id ids (entry.Push o k c) p)
    ∙ ap (λ (n : ℕ). balanced n (under m ids)) (let q : depth + 1 ≡ next = cc in let r : suc depth ≡ depth + 1 = omega arith in r ∙ q)
balanced_by m id ids zero next (Some entry.Pop) p e = absurd cc
balanced_by m id ids (suc depth) next (Some entry.Pop) p e =
    ap (balanced (suc depth)) (under_some m id ids entry.Pop p) ∙ ap (λ (n : ℕ). balanced n (under m ids)) (let q : depth ≡ next = cc in q)

pub balanced_step : (m : Interning) (ids : List Id) (i depth next : ℕ) → i < length ids → Some next ≡ depth_after (entry_at m (get_or ids i no_id).key) depth
    → balanced depth (under m (drop i ids)) ≡ balanced next (under m (drop (i + 1) ids))
balanced_step m ids i depth next h e =
    ap (balanced depth) (next_ids m ids i h) ∙ balanced_by m (get_or ids i no_id) (drop (i + 1) ids) depth next (entry_at m (get_or ids i no_id).key) refl (sym e)

few_by : (depth next : ℕ) (o : Option Entry) → depth_after o depth ≡ Some next → next ≤ depth + 1
few_by depth next None e = let q : depth ≡ next = cc in omega (arith, q)
few_by depth next (Some (entry.Primitive x)) e = let q : depth ≡ next = cc in omega (arith, q)
few_by depth next (Some (entry.Push o k c)) e = let q : depth + 1 ≡ next = cc in omega (arith, q)
few_by zero next (Some entry.Pop) e = absurd cc
few_by (suc depth) next (Some entry.Pop) e = let q : depth ≡ next = cc in omega (arith, q)

pub few_step : (m : Interning) (id : Id) (depth next i : ℕ) → depth ≤ i → Some next ≡ depth_after (entry_at m id.key) depth → next ≤ i + 1
few_step m id depth next i h e = let f = few_by depth next (entry_at m id.key) (sym e) in omega (arith, h, f)

stop_by : (m : Interning) (id : Id) (ids : List Id) (depth : ℕ) (o : Option Entry) → entry_at m id.key ≡ o → depth_after o depth ≡ None → balanced depth (under m (id ∷ ids)) ≡ false
stop_by m id ids depth None p e = absurd cc
stop_by m id ids depth (Some (entry.Primitive x)) p e = absurd cc
stop_by m id ids depth (Some (entry.Push o k c)) p e = absurd cc
stop_by m id ids zero (Some entry.Pop) p e = ap (balanced 0) (under_some m id ids entry.Pop p)
stop_by m id ids (suc depth) (Some entry.Pop) p e = absurd cc

pub balanced_stop : (m : Interning) (ids : List Id) (i depth : ℕ) → i < length ids → None ≡ depth_after (entry_at m (get_or ids i no_id).key) depth → balanced depth (under m (drop i ids)) ≡ false
balanced_stop m ids i depth h e = ap (balanced depth) (next_ids m ids i h) ∙ stop_by m (get_or ids i no_id) (drop (i + 1) ids) depth (entry_at m (get_or ids i no_id).key) refl (sym e)

none_left : (depth : ℕ) → balanced depth [] ≡ (depth == 0)
none_left zero = refl
none_left (suc depth) = let e : (suc depth == 0) ≡ false = grind (arith, nat_tests) in sym e

pub balanced_end : (m : Interning) (ids : List Id) (i depth : ℕ) → length ids ≤ i → balanced depth (under m (drop i ids)) ≡ (depth == 0)
balanced_end m ids i depth h = ap (λ (l : List Id). balanced depth (under m l)) (drop_all i ids h) ∙ none_left depth

-- ---- extents

extent_by : (m : Interning) (id : Id) (ids : List Id) (a : Bounds) (o : Option Entry) → entry_at m id.key ≡ o → extent_from a (under m (id ∷ ids)) ≡ extent_from (extended a o) (under m ids)
extent_by m id ids a None p = ap (extent_from a) (under_none m id ids p)
extent_by m id ids a (Some (entry.Primitive x)) p = ap (extent_from a) (under_some m id ids (entry.Primitive x) p)
extent_by m id ids a (Some (entry.Push o k c)) p = ap (extent_from a) (under_some m id ids (entry.Push o k c) p)
extent_by m id ids a (Some entry.Pop) p = ap (extent_from a) (under_some m id ids entry.Pop p)

pub extent_step : (m : Interning) (ids : List Id) (i : ℕ) (a b : Bounds) → i < length ids → b ≡ extended a (entry_at m (get_or ids i no_id).key)
    → extent_from b (under m (drop (i + 1) ids)) ≡ extent_from a (under m (drop i ids))
extent_step m ids i a b h e =
    ap (λ (r : Bounds). extent_from r (under m (drop (i + 1) ids))) e
    ∙ sym (ap (extent_from a) (next_ids m ids i h) ∙ extent_by m (get_or ids i no_id) (drop (i + 1) ids) a (entry_at m (get_or ids i no_id).key) refl)

-- ---- equal ids are those of equal entries

abbrev pub unders : Interning → Pair Id → Pair Entry
unders m p = record { old = under m p.old; new = under m p.new }

record IsUnder (m : Interning) (id : Id) : Type 0 where
  entry : Entry
  is : entry_at m id.key ≡ Some entry

under_by : (m : Interning) (id : Id) (o : Option Held) → get m id.key ≡ o → IsSome o → IsUnder m id
under_by m id None e h = absurd (true≢false (sym h))
under_by m id (Some x) e h = record { entry = x.entry; is = ap entry_of e }

first_under : (m : Interning) (id : Id) (ids : List Id) → AreHeld m (ids_keys (id ∷ ids)) → IsUnder m id
first_under m id ids h = under_by m id (get m id.key) refl (All-head (λ (k : ℕ). IsSome (get m k)) id.key (ids_keys ids) h)

later_held : (m : Interning) (id : Id) (ids : List Id) → AreHeld m (ids_keys (id ∷ ids)) → AreHeld m (ids_keys ids)
later_held m id ids h = All-tail (λ (k : ℕ). IsSome (get m k)) id.key (ids_keys ids) h

pub keys_append : (xs ys : List Id) → ids_keys (xs ++ ys) ≡ ids_keys xs ++ ids_keys ys
keys_append [] ys = refl
keys_append (x ∷ xs) ys = ap (λ (l : List ℕ). x.key ∷ l) (keys_append xs ys)

same_of : (a b : Id) → same_id a b ≡ true → a ≡ b
same_of a b e = let k : a.key ≡ b.key = grind (arith, nat_tests) in λ i. record { key = k i }

of_same : (a b : Id) → a ≡ b → same_id a b ≡ true
of_same a b e = let k : a.key ≡ b.key = ap (λ (i : Id). i.key) e in grind (arith, nat_tests)

filter_by : (m : Interning) (k : ℕ) (ks ls : List ℕ) (o : Option Entry) → entry_at m k ≡ o → entries_under m (ks ++ ls) ≡ entries_under m ks ++ entries_under m ls
    → entries_under m (k ∷ (ks ++ ls)) ≡ entries_under m (k ∷ ks) ++ entries_under m ls
filter_by m k ks ls None e h = rw e h
filter_by m k ks ls (Some x) e h = rw e (ap (λ (l : List Entry). x ∷ l) h)

filter_append : (m : Interning) (ks ls : List ℕ) → entries_under m (ks ++ ls) ≡ entries_under m ks ++ entries_under m ls
filter_append m [] ls = refl
filter_append m (k ∷ ks) ls = filter_by m k ks ls (entry_at m k) refl (filter_append m ks ls)

module _ (m : Interning) (distinct : IsDistinct m) (exact : (a b : Entry) → same_entry a b ≡ true → a ≡ b) (self : (a : Entry) → same_entry a a ≡ true) where
  same_if : (a b : Id) (x y : Entry) → entry_at m a.key ≡ Some x → entry_at m b.key ≡ Some y → (s t : Bool) → same_entry x y ≡ s → same_id a b ≡ t → s ≡ t
  same_if a b x y p q true true e f = refl
  same_if a b x y p q false false e f = refl
  same_if a b x y p q true false e f =
      let k : a.key ≡ b.key = distinct a.key b.key y (p ∙ ap (λ (z : Entry). Some z) (exact x y e)) q in
      sym (of_same a b (λ i. record { key = k i })) ∙ f
  same_if a b x y p q false true e f =
      let r : Some x ≡ Some y = sym p ∙ ap (λ (i : Id). entry_at m i.key) (same_of a b f) ∙ q in
      let z : x ≡ y = cc in
      sym e ∙ ap (same_entry x) (sym z) ∙ self x

  rests_if : (xs ys : List Id) (a b : Id) (x y : Entry) (t : Bool) → under m (a ∷ xs) ≡ x ∷ under m xs → under m (b ∷ ys) ≡ y ∷ under m ys
      → rests same_entry (under m xs) (under m ys) ≡ unders m (rests same_id xs ys)
      → (if t then rests same_entry (under m xs) (under m ys) else record { old = x ∷ under m xs; new = y ∷ under m ys })
      ≡ unders m (if t then rests same_id xs ys else record { old = a ∷ xs; new = b ∷ ys })
  rests_if xs ys a b x y true p q h = h
  rests_if xs ys a b x y false p q h = ap₂ (λ (l r : List Entry). let u : Pair Entry = record { old = l; new = r } in u) (sym p) (sym q)

  pub rests_under : (xs ys : List Id) → AreHeld m (ids_keys xs) → AreHeld m (ids_keys ys) → rests same_entry (under m xs) (under m ys) ≡ unders m (rests same_id xs ys)
  rests_under [] ys h k = refl
  rests_under (a ∷ xs) [] h k = rests_none (under m (a ∷ xs))
    where
      rests_none : (l : List Entry) → rests same_entry l [] ≡ record { old = l; new = [] }
      rests_none [] = refl
      rests_none (x ∷ l) = refl
  rests_under (a ∷ xs) (b ∷ ys) h k =
      let x = first_under m a xs h in
      let y = first_under m b ys k in
      let p = under_some m a xs x.entry x.is in
      let q = under_some m b ys y.entry y.is in
      ap₂ (rests same_entry) p q
      ∙ ap (λ (t : Bool). if t then rests same_entry (under m xs) (under m ys) else record { old = x.entry ∷ under m xs; new = y.entry ∷ under m ys })
      (same_if a b x.entry y.entry x.is y.is (same_entry x.entry y.entry) (same_id a b) refl refl)
      ∙ rests_if xs ys a b x.entry y.entry (same_id a b) p q (rests_under xs ys (later_held m a xs h) (later_held m b ys k))

  -- ---- from the end

  under_append : (xs ys : List Id) → under m (xs ++ ys) ≡ under m xs ++ under m ys
  under_append xs ys = ap (entries_under m) (keys_append xs ys) ∙ filter_append m (ids_keys xs) (ids_keys ys)

  pub under_reversed : (xs : List Id) → AreHeld m (ids_keys xs) → reverse (under m xs) ≡ under m (reverse xs)
  under_reversed [] h = refl
  under_reversed (a ∷ xs) h =
      let x = first_under m a xs h in
      ap reverse (under_some m a xs x.entry x.is)
      ∙ reverse-append (x.entry ∷ []) (under m xs)
      ∙ ap₂ (λ (l r : List Entry). l ++ r) (under_reversed xs (later_held m a xs h)) (sym (under_some m a [] x.entry x.is))
      ∙ sym (under_append (reverse xs) (a ∷ []))
      ∙ ap (under m) (sym (reverse-append (a ∷ []) xs))
