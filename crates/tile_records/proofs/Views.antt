-- Finite maps that are made of what a slab holds.
use Rattle.std.proofs.Common.{◌≡◌, ◌≢◌, ◌<◌, ◌+◌, ℕ, zero, suc, Bool, true, false, true≢false, cond, zero-add, List, [], ◌∷◌, Option, Some, None, refl, sym, ap, ◌∙◌, arith}
use Rattle.std.specs.Prelude.{slice_index_or, IsSome}
use Rattle.std.proofs.Common.{subst}
use Rattle.slab.proofs.SlabLemmas.{Updates-with_value}
use Rattle.std.specs.declared.cmp.Ordering.TheVariants.{Less, Equal, Greater}
use Rattle.std.proofs.lemmas.Map.Views.{tells_apart}
use Rattle.std.specs.Cmp.{nat_cmp_is, nat_cmp_total}
use Rattle.std.specs.Ordering.{nat_cmp, eq_by_cmp, is_eq}
use Rattle.std.specs.FinMap.{nat_cmp-IsAntisymmetric, find, get, insert, remove, from_entries, get-from_entries, get-insert, get-remove, same_map}
use Rattle.slab.specs.Slab.{Slab, Updates, with_value, entries, entries_from, get as slot}

eq_less : (x y : ℕ) → x < y → eq_by_cmp nat_cmp x y ≡ false
eq_less x y h = sym (ap is_eq (nat_cmp_is x y Less h))

eq_more : (x y : ℕ) → y < x → eq_by_cmp nat_cmp x y ≡ false
eq_more x y h = sym (ap is_eq (nat_cmp_is x y Greater h))

pub eq_same : (x y : ℕ) → x ≡ y → eq_by_cmp nat_cmp x y ≡ true
eq_same x y h = sym (ap is_eq (nat_cmp_is x y Equal h))

pub same_eq : (x y : ℕ) → eq_by_cmp nat_cmp x y ≡ true → x ≡ y
same_eq x y e = tells_apart nat_cmp-IsAntisymmetric x y e

pub apart_eq : (x y : ℕ) → eq_by_cmp nat_cmp x y ≡ false → x ≢ y
apart_eq x y e h = true≢false (sym (eq_same x y h) ∙ e)

module _ {T : Type 0} where
  find_below : (q key : ℕ) (slots : List (Option T)) → q < key → find nat_cmp q (entries_from key slots) ≡ None
  find_below q key [] h = refl
  find_below q key (None ∷ rest) h = find_below q (key + 1) rest (omega arith)
  find_below q key (Some v ∷ rest) h = ap (λ b. cond b (Some v) (find nat_cmp q (entries_from (key + 1) rest))) (eq_less q key h) ∙ find_below q (key + 1) rest (omega arith)

  find_slot : (key q : ℕ) (slots : List (Option T)) → find nat_cmp (key + q) (entries_from key slots) ≡ slice_index_or slots q None
  find_slot key q [] = refl
  find_slot key zero (None ∷ rest) = find_below (key + 0) (key + 1) rest (omega arith)
  find_slot key zero (Some v ∷ rest) = ap (λ b. cond b (Some v) (find nat_cmp (key + 0) (entries_from (key + 1) rest))) (eq_same (key + 0) key (omega arith))
  find_slot key (suc q) (None ∷ rest) =
      let shift : key + suc q ≡ key + 1 + q = omega arith in
      ap (λ n. find nat_cmp n (entries_from (key + 1) rest)) shift ∙ find_slot (key + 1) q rest
  find_slot key (suc q) (Some v ∷ rest) =
      let shift : key + suc q ≡ key + 1 + q = omega arith in
      ap (λ b. cond b (Some v) (find nat_cmp (key + suc q) (entries_from (key + 1) rest))) (eq_more (key + suc q) key (omega arith))
      ∙ ap (λ n. find nat_cmp n (entries_from (key + 1) rest)) shift ∙ find_slot (key + 1) q rest

  -- what the map of a slab has at a key
  pub slot_is : (s : Slab T) (q : ℕ) → get (from_entries {R = nat_cmp} (entries s)) q ≡ slot s q
  slot_is s q = get-from_entries nat_cmp_total (entries s) q ∙ ap (λ n. find nat_cmp n (entries s)) (sym (zero-add q)) ∙ find_slot 0 q s.slots

  at_slot : (old new : Slab T) (k : ℕ) (v : Option T) → Updates old new k v → (q : ℕ) (b : Bool) → eq_by_cmp nat_cmp q k ≡ b → slot new q ≡ cond b v (slot old q)
  at_slot old new k v u q true e = ap (slot new) (same_eq q k e) ∙ u.changed
  at_slot old new k v u q false e = u.others q (apart_eq q k e)

  -- a slab that differs at one key makes a map that differs there
  pub slab_inserted : (old new : Slab T) (k : ℕ) (v : T) → Updates old new k (Some v) → from_entries {R = nat_cmp} (entries new) ≡ insert (from_entries (entries old)) k v
  slab_inserted old new k v u = same_map nat_cmp_total nat_cmp-IsAntisymmetric _ _ (λ q.
      slot_is new q ∙ at_slot old new k (Some v) u q (eq_by_cmp nat_cmp q k) refl
      ∙ sym (get-insert nat_cmp_total (from_entries (entries old)) k v q ∙ ap (cond (eq_by_cmp nat_cmp q k) (Some v)) (slot_is old q)))

  pub slab_removed : (old new : Slab T) (k : ℕ) → Updates old new k None → from_entries {R = nat_cmp} (entries new) ≡ remove (from_entries (entries old)) k
  slab_removed old new k u = same_map nat_cmp_total nat_cmp-IsAntisymmetric _ _ (λ q.
      slot_is new q ∙ at_slot old new k None u q (eq_by_cmp nat_cmp q k) refl
      ∙ sym (get-remove nat_cmp_total (from_entries (entries old)) k q ∙ ap (cond (eq_by_cmp nat_cmp q k) None) (slot_is old q)))

  -- a write of the value at a key
  pub slab_written : (s : Slab T) (k : ℕ) (x v : T) → slot s k ≡ Some x → from_entries {R = nat_cmp} (entries (with_value s k v)) ≡ insert (from_entries (entries s)) k v
  slab_written s k x v h = slab_inserted s (with_value s k v) k v (Updates-with_value s k v (subst IsSome (sym h) refl))

pub no_value : {A : Type 0} (r : Option A) → ((x : A) → r ≢ Some x) → r ≡ None
no_value None h = refl
no_value (Some x) h = absurd (h x refl)
