-- The keys of entries are tied to what is held.
use Rattle.std.proofs.Common.{◌≡◌, ◌≢◌, ℕ, Bool, true, false, true≢false, cond, Some, None, refl, sym, ap, subst, ◌∙◌}
use Rattle.std.specs.Cmp.{eq_by_cmp_equiv}
use Rattle.std.specs.Option.{unwrap_or, is_some}
use Rattle.std.specs.Ordering.{nat_cmp, eq_by_cmp}
use Rattle.std.specs.FinMap.{IsAntisymmetric, get, insert, remove, empty, get-empty, get-insert, get-remove}
use Rattle.std.proofs.lemmas.Map.Views.{tells_apart}
use Rattle.primitives.specs.Facts.{IsEntry}
use Rattle.primitives.specs.declared.entry.Entry.{Entry}
use Rattle.tile_records.specs.declared.slots.Held.{Held}
use Rattle.tile_records.specs.Interning.{Interning, IsDistinct, IsInterning, entry_of, entry_at}
use Rattle.tile_records.specs.Keys.{KeyMap, IsTied, entry_cmp}
use Rattle.tile_records.specs.Counts.{recounted}
use Rattle.tile_records.proofs.Orders.{entry_total}
use Rattle.tile_records.proofs.Recounts.{at_inserted, at_removed, entry_recounted}
use Rattle.tile_records.proofs.Views.{same_eq, apart_eq}

key_self : (e : Entry) → eq_by_cmp entry_cmp e e ≡ true
key_self e = (eq_by_cmp_equiv entry_total).refl e

one_entry : (x y : Entry) → Some x ≡ Some y → x ≡ y
one_entry x y e = ap (λ o. unwrap_or o x) e

none_some : {A : Type 0} (x : A) → None ≢ Some x
none_some x e = true≢false (ap is_some (sym e))

pub tied_distinct : (keys : KeyMap) (m : Interning) → IsTied keys m → IsDistinct m
tied_distinct keys m t i j e a b = ap (λ o. unwrap_or o i) (sym (t.listed i e a) ∙ t.listed j e b)

pub tied_absent : (keys : KeyMap) (m : Interning) (e : Entry) → IsTied keys m → get keys e ≡ None → (k : ℕ) → entry_at m k ≢ Some e
tied_absent keys m e t none k h = none_some k (sym none ∙ t.listed k e h)

pub tied_interning : (keys : KeyMap) (m : Interning) → IsTied keys m → IsInterning m
tied_interning keys m t = record { distinct = tied_distinct keys m t; entries = t.entries }

pub tied_empty : IsTied (empty {X = ℕ} {R = entry_cmp}) (empty {X = Held} {R = nat_cmp})
tied_empty = record {
  known = λ e k h. absurd (none_some k (sym (get-empty entry_cmp e) ∙ h));
  listed = λ k e h. absurd (none_some e (ap entry_of (sym (get-empty nat_cmp k)) ∙ h));
  entries = λ k e h. absurd (none_some e (ap entry_of (sym (get-empty nat_cmp k)) ∙ h));
}

at_key : (keys : KeyMap) (e : Entry) (k : ℕ) (q : Entry) (b : Bool) → eq_by_cmp entry_cmp q e ≡ b → get (insert keys e k) q ≡ cond b (Some k) (get keys q)
at_key keys e k q b p = get-insert entry_total keys e k q ∙ ap (λ t. cond t (Some k) (get keys q)) p

at_taken : (keys : KeyMap) (e : Entry) (q : Entry) (b : Bool) → eq_by_cmp entry_cmp q e ≡ b → get (remove keys e) q ≡ cond b None (get keys q)
at_taken keys e q b p = get-remove entry_total keys e q ∙ ap (λ t. cond t None (get keys q)) p

-- what holds of the entries that are left
entries_added : (m : Interning) (e : Entry) (k c : ℕ) → IsEntry e → ((q : ℕ) (x : Entry) → entry_at m q ≡ Some x → IsEntry x)
    → (q : ℕ) (x : Entry) (b : Bool) → eq_by_cmp nat_cmp q k ≡ b → entry_at (insert m k (record { entry = e; count = c })) q ≡ Some x → IsEntry x
entries_added m e k c i old q x true r h = subst IsEntry (one_entry e x (sym (ap entry_of (at_inserted m k (record { entry = e; count = c }) q true r)) ∙ h)) i
entries_added m e k c i old q x false r h = old q x (sym (ap entry_of (at_inserted m k (record { entry = e; count = c }) q false r)) ∙ h)

entries_removed : (m : Interning) (k : ℕ) → ((q : ℕ) (x : Entry) → entry_at m q ≡ Some x → IsEntry x)
    → (q : ℕ) (x : Entry) (b : Bool) → eq_by_cmp nat_cmp q k ≡ b → entry_at (remove m k) q ≡ Some x → IsEntry x
entries_removed m k old q x true r h = absurd (none_some x (sym (ap entry_of (at_removed m k q true r)) ∙ h))
entries_removed m k old q x false r h = old q x (sym (ap entry_of (at_removed m k q false r)) ∙ h)

pub tied_recounted : (keys : KeyMap) (m : Interning) (k c : ℕ) → IsTied keys m → IsTied keys (recounted m k c)
tied_recounted keys m k c t = record {
  known = λ e q h. entry_recounted m k c q ∙ t.known e q h;
  listed = λ q e h. t.listed q e (sym (entry_recounted m k c q) ∙ h);
  entries = λ q e h. t.entries q e (sym (entry_recounted m k c q) ∙ h);
}

module _ (exact : IsAntisymmetric entry_cmp) where
  key_same : (e : Entry) (x : Entry) → eq_by_cmp entry_cmp e x ≡ true → e ≡ x
  key_same e x h = tells_apart exact e x h

  known_added : (keys : KeyMap) (m : Interning) (e : Entry) (k c : ℕ) → IsTied keys m → get m k ≡ None
      → (x : Entry) (q : ℕ) (a b : Bool) → eq_by_cmp entry_cmp x e ≡ a → eq_by_cmp nat_cmp q k ≡ b → get (insert keys e k) x ≡ Some q → entry_at (insert m k (record { entry = e; count = c })) q ≡ Some x
  known_added keys m e k c t none x q true true p r h = ap entry_of (at_inserted m k _ q true r) ∙ ap (λ y. Some y) (sym (key_same x e p))
  known_added keys m e k c t none x q true false p r h = absurd (apart_eq q k r (ap (λ o. unwrap_or o q) (sym h ∙ at_key keys e k x true p)))
  known_added keys m e k c t none x q false true p r h = absurd (none_some x (ap entry_of (sym none) ∙ ap (entry_at m) (sym (same_eq q k r)) ∙ t.known x q (sym (at_key keys e k x false p) ∙ h)))
  known_added keys m e k c t none x q false false p r h = ap entry_of (at_inserted m k _ q false r) ∙ t.known x q (sym (at_key keys e k x false p) ∙ h)

  listed_added : (keys : KeyMap) (m : Interning) (e : Entry) (k c : ℕ) → IsTied keys m → ((i : ℕ) → entry_at m i ≢ Some e)
      → (q : ℕ) (x : Entry) (a b : Bool) → eq_by_cmp entry_cmp x e ≡ a → eq_by_cmp nat_cmp q k ≡ b → entry_at (insert m k (record { entry = e; count = c })) q ≡ Some x → get (insert keys e k) x ≡ Some q
  listed_added keys m e k c t absent q x true true p r h = at_key keys e k x true p ∙ ap (λ y. Some y) (sym (same_eq q k r))
  listed_added keys m e k c t absent q x false true p r h =
      let same = one_entry e x (sym (ap entry_of (at_inserted m k (record { entry = e; count = c }) q true r)) ∙ h) in
      absurd (true≢false (sym (key_self x) ∙ ap (λ y. eq_by_cmp entry_cmp x y) (sym same) ∙ p))
  listed_added keys m e k c t absent q x true false p r h =
      absurd (absent q (sym (ap entry_of (at_inserted m k (record { entry = e; count = c }) q false r)) ∙ h ∙ ap (λ y. Some y) (key_same x e p)))
  listed_added keys m e k c t absent q x false false p r h =
      at_key keys e k x false p ∙ t.listed q x (sym (ap entry_of (at_inserted m k (record { entry = e; count = c }) q false r)) ∙ h)

  pub tied_added : (keys : KeyMap) (m : Interning) (e : Entry) (k c : ℕ) → IsTied keys m → IsEntry e → get m k ≡ None → ((i : ℕ) → entry_at m i ≢ Some e) → IsTied (insert keys e k) (insert m k (record { entry = e; count = c }))
  tied_added keys m e k c t i none absent = record {
    known = λ x q h. known_added keys m e k c t none x q (eq_by_cmp entry_cmp x e) (eq_by_cmp nat_cmp q k) refl refl h;
    listed = λ q x h. listed_added keys m e k c t absent q x (eq_by_cmp entry_cmp x e) (eq_by_cmp nat_cmp q k) refl refl h;
    entries = λ q x h. entries_added m e k c i t.entries q x (eq_by_cmp nat_cmp q k) refl h;
  }

  known_removed : (keys : KeyMap) (m : Interning) (k : ℕ) (o : Held) → IsTied keys m → get m k ≡ Some o
      → (x : Entry) (q : ℕ) (a b : Bool) → eq_by_cmp entry_cmp x o.entry ≡ a → eq_by_cmp nat_cmp q k ≡ b → get (remove keys o.entry) x ≡ Some q → entry_at (remove m k) q ≡ Some x
  known_removed keys m k o t held x q true b p r h = absurd (none_some q (sym (at_taken keys o.entry x true p) ∙ h))
  known_removed keys m k o t held x q false true p r h =
      let has = t.known x q (sym (at_taken keys o.entry x false p) ∙ h) in
      let same = one_entry x o.entry (sym has ∙ ap (entry_at m) (same_eq q k r) ∙ ap entry_of held) in
      absurd (true≢false (sym (key_self x) ∙ ap (λ y. eq_by_cmp entry_cmp x y) same ∙ p))
  known_removed keys m k o t held x q false false p r h = ap entry_of (at_removed m k q false r) ∙ t.known x q (sym (at_taken keys o.entry x false p) ∙ h)

  listed_removed : (keys : KeyMap) (m : Interning) (k : ℕ) (o : Held) → IsTied keys m → get m k ≡ Some o
      → (q : ℕ) (x : Entry) (a b : Bool) → eq_by_cmp entry_cmp x o.entry ≡ a → eq_by_cmp nat_cmp q k ≡ b → entry_at (remove m k) q ≡ Some x → get (remove keys o.entry) x ≡ Some q
  listed_removed keys m k o t held q x a true p r h = absurd (none_some x (sym (ap entry_of (at_removed m k q true r)) ∙ h))
  listed_removed keys m k o t held q x true false p r h =
      let has = t.listed q x (sym (ap entry_of (at_removed m k q false r)) ∙ h) in
      let own = t.listed k o.entry (ap entry_of held) in
      absurd (apart_eq q k r (ap (λ z. unwrap_or z q) (sym has ∙ ap (get keys) (key_same x o.entry p) ∙ own)))
  listed_removed keys m k o t held q x false false p r h = at_taken keys o.entry x false p ∙ t.listed q x (sym (ap entry_of (at_removed m k q false r)) ∙ h)

  pub tied_removed : (keys : KeyMap) (m : Interning) (k : ℕ) (o : Held) → IsTied keys m → get m k ≡ Some o → IsTied (remove keys o.entry) (remove m k)
  tied_removed keys m k o t held = record {
    known = λ x q h. known_removed keys m k o t held x q (eq_by_cmp entry_cmp x o.entry) (eq_by_cmp nat_cmp q k) refl refl h;
    listed = λ q x h. listed_removed keys m k o t held q x (eq_by_cmp entry_cmp x o.entry) (eq_by_cmp nat_cmp q k) refl refl h;
    entries = λ q x h. entries_removed m k t.entries q x (eq_by_cmp nat_cmp q k) refl h;
  }
