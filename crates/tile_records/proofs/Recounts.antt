-- What another count, a new key and a removal leave under each key.
use Rattle.std.proofs.Common.{◌≡◌, ℕ, Bool, true, false, cond, Option, Some, None, refl, sym, ap, ◌∙◌}
use Rattle.std.specs.Cmp.{nat_cmp_total}
use Rattle.std.specs.Ordering.{nat_cmp, eq_by_cmp}
use Rattle.std.specs.FinMap.{get, insert, remove, get-insert, get-remove, same_map, nat_cmp-IsAntisymmetric}
use Rattle.tile_records.specs.declared.slots.Held.{Held}
use Rattle.tile_records.specs.Interning.{Interning, entry_of, entry_at}
use Rattle.tile_records.specs.Counts.{recounted_at, recounted}
use Rattle.tile_records.proofs.Views.{same_eq, eq_same}

pub recounted_some : (m : Interning) (k c : ℕ) (h : Held) → get m k ≡ Some h → recounted m k c ≡ insert m k (record { entry = h.entry; count = c })
recounted_some m k c h e = ap (λ o. recounted_at o m k c) e

pub recounted_none : (m : Interning) (k c : ℕ) → get m k ≡ None → recounted m k c ≡ m
recounted_none m k c e = ap (λ o. recounted_at o m k c) e

-- what an inserted or a removed key leaves
pub at_inserted : (m : Interning) (k : ℕ) (h : Held) (q : ℕ) (b : Bool) → eq_by_cmp nat_cmp q k ≡ b → get (insert m k h) q ≡ cond b (Some h) (get m q)
at_inserted m k h q b e = get-insert nat_cmp_total m k h q ∙ ap (λ t. cond t (Some h) (get m q)) e

pub at_removed : (m : Interning) (k : ℕ) (q : ℕ) (b : Bool) → eq_by_cmp nat_cmp q k ≡ b → get (remove m k) q ≡ cond b None (get m q)
at_removed m k q b e = get-remove nat_cmp_total m k q ∙ ap (λ t. cond t None (get m q)) e

pub get_inserted : (m : Interning) (k : ℕ) (h : Held) → get (insert m k h) k ≡ Some h
get_inserted m k h = at_inserted m k h k true (eq_same k k refl)

-- another count leaves each entry
entry_counted : (m : Interning) (k c : ℕ) (h : Held) (q : ℕ) (b : Bool) → get m k ≡ Some h → eq_by_cmp nat_cmp q k ≡ b → entry_at (insert m k (record { entry = h.entry; count = c })) q ≡ entry_at m q
entry_counted m k c h q true p r = ap entry_of (at_inserted m k _ q true r) ∙ sym (ap entry_of p) ∙ ap (entry_at m) (sym (same_eq q k r))
entry_counted m k c h q false p r = ap entry_of (at_inserted m k _ q false r)

entry_recounted_at : (m : Interning) (k c q : ℕ) (o : Option Held) → get m k ≡ o → entry_at (recounted_at o m k c) q ≡ entry_at m q
entry_recounted_at m k c q None p = refl
entry_recounted_at m k c q (Some h) p = entry_counted m k c h q (eq_by_cmp nat_cmp q k) p refl

pub entry_recounted : (m : Interning) (k c q : ℕ) → entry_at (recounted m k c) q ≡ entry_at m q
entry_recounted m k c q = entry_recounted_at m k c q (get m k) refl

none_at : (m : Interning) (k q : ℕ) (b : Bool) → get m k ≡ None → eq_by_cmp nat_cmp q k ≡ b → cond b None (get m q) ≡ get m q
none_at m k q true p r = sym p ∙ ap (get m) (sym (same_eq q k r))
none_at m k q false p r = refl

-- what isn't there is taken
pub removed_none : (m : Interning) (k : ℕ) → get m k ≡ None → remove m k ≡ m
removed_none m k p = same_map nat_cmp_total nat_cmp-IsAntisymmetric _ _ (λ q. get-remove nat_cmp_total m k q ∙ none_at m k q (eq_by_cmp nat_cmp q k) p refl)

twice_at : {A : Type 0} (b : Bool) (x y z : A) → cond b x (cond b y z) ≡ cond b x z
twice_at true x y z = refl
twice_at false x y z = refl

-- a new key, taken again
pub removed_inserted : (m : Interning) (k : ℕ) (v : Held) → get m k ≡ None → remove (insert m k v) k ≡ m
removed_inserted m k v p = same_map nat_cmp_total nat_cmp-IsAntisymmetric _ _ (λ q.
    get-remove nat_cmp_total (insert m k v) k q ∙ ap (cond (eq_by_cmp nat_cmp q k) None) (get-insert nat_cmp_total m k v q)
    ∙ twice_at (eq_by_cmp nat_cmp q k) None (Some v) (get m q) ∙ none_at m k q (eq_by_cmp nat_cmp q k) p refl)
