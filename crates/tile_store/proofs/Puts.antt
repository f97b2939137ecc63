-- A put of a key that isn't there.
use Rattle.std.proofs.Common.{◌≡◌, ◌≤◌, ◌-◌, Bool, true, false, List, [], ◌∷◌, length, None, refl, ap}
use Rattle.std.proofs.lemmas.List.{take_all}
use Rattle.std.specs.Map.{lookup, lookup_entry}
use Rattle.lru.specs.LruCache.{LruCache, put_entries}

module _ {K V : Type 0} where
  entry_none : (test : K → Bool) (es : List (K × V)) → lookup test es ≡ None → lookup_entry test es ≡ None
  entry_none test [] h = refl
  entry_none test (e ∷ es) h = (elim (test e.0) as (λ y. test e.0 ≡ y → lookup_entry test (e ∷ es) ≡ None) [
    | true ↦ λ t. let h' = rw t at h in cc
    | false ↦ λ t. rw t (entry_none test es (rw t at h))
  ]) refl

  -- it goes before all others, where the cache has room
  pub put_new : (eq : K → K → Bool) (c : LruCache K V) (k : K) (v : V) → lookup (eq k) c.entries ≡ None → length c.entries ≤ c.cap - 1 → put_entries eq c k v ≡ (k, v) ∷ c.entries
  put_new eq c k v none fits = rw (entry_none (eq k) c.entries none) (ap (λ l. (k, v) ∷ l) (take_all (c.cap - 1) c.entries fits))
