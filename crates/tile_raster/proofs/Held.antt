-- Entries that ids stand for.
use Rattle.std.proofs.Common.{◌≡◌, ◌<◌, ℕ, zero, suc, List, [], ◌∷◌, length, get_or, All, IsSome, Option, Some, None, refl, sym, ap, subst, ◌∙◌, true≢false, arith, Bor}
use Rattle.std.proofs.lemmas.List.Elements.{All-head, All-tail, All-nil, All-cons}
use Rattle.std.specs.FinMap.{get}
use Rattle.std.specs.Option.{option_copied}
use Rattle.primitives.specs.Facts.{IsEntry}
use Rattle.primitives.specs.declared.entry.Entry.{Entry}
use Rattle.tile_records.specs.declared.id.Id.{Id}
use Rattle.tile_records.specs.declared.slots.Held.{Held}
use Rattle.tile_records.specs.Interning.{Interning, AreHeld, IsInterning, entry_of, entry_at, ids_keys}
use Rattle.tile_records.proofs.Unders.{under, under_some}

-- the first id has an entry, which is the first
record IsFirstHeld (m : Interning) (id : Id) (ids : List Id) : Type 0 where
  entry : Entry
  is : entry_at m id.key ≡ Some entry
  list : under m (id ∷ ids) ≡ entry ∷ under m ids

first_by : (m : Interning) (id : Id) (ids : List Id) (o : Option Held) → get m id.key ≡ o → IsSome o → IsFirstHeld m id ids
first_by m id ids None is some = absurd (true≢false (sym some))
first_by m id ids (Some held) is some = let own = ap entry_of is in record { entry = held.entry; is = own; list = under_some m id ids held.entry own }

first_held : (m : Interning) (id : Id) (ids : List Id) → AreHeld m (ids_keys (id ∷ ids)) → IsFirstHeld m id ids
first_held m id ids held = first_by m id ids (get m id.key) refl (All-head (λ (k : ℕ). IsSome (get m k)) id.key (ids_keys ids) held)

later_held : (m : Interning) (id : Id) (ids : List Id) → AreHeld m (ids_keys (id ∷ ids)) → AreHeld m (ids_keys ids)
later_held m id ids held = All-tail (λ (k : ℕ). IsSome (get m k)) id.key (ids_keys ids) held

-- there are as many entries as ids
pub held_count : (m : Interning) (ids : List Id) → AreHeld m (ids_keys ids) → length (under m ids) ≡ length ids
held_count m [] held = refl
held_count m (id ∷ ids) held = ap (λ (l : List Entry). length l) (first_held m id ids held).list ∙ ap suc (held_count m ids (later_held m id ids held))

-- the entry at an index is that of the id there
pub held_at : (m : Interning) (ids : List Id) (i : ℕ) (id : Id) (e other : Entry) → AreHeld m (ids_keys ids) → i < length ids → id ≡ get_or ids i id → entry_at m id.key ≡ Some e → get_or (under m ids) i other ≡ e
held_at m [] i id e other held inside at is = absurd (omega (arith, inside))
held_at m (first ∷ ids) zero id e other held inside at is =
    let head = first_held m first ids held in
    let same : Some head.entry ≡ Some e = sym head.is ∙ sym (ap (λ (n : Id). entry_at m n.key) at) ∙ is in
    let own : head.entry ≡ e = cc in
    ap (λ (l : List Entry). get_or l zero other) head.list ∙ own
held_at m (first ∷ ids) (suc i) id e other held inside at is =
    ap (λ (l : List Entry). get_or l (suc i) other) (first_held m first ids held).list ∙ held_at m ids i id e other (later_held m first ids held) (omega (arith, inside)) at is

-- each has an entry
pub held_some : (m : Interning) (ids : List Id) (i : ℕ) (id : Id) → AreHeld m (ids_keys ids) → i < length ids → id ≡ get_or ids i id → (e : Entry) × (entry_at m id.key ≡ Some e)
held_some m [] i id held inside at = absurd (omega (arith, inside))
held_some m (first ∷ ids) zero id held inside at = let head = first_held m first ids held in (head.entry, ap (λ (n : Id). entry_at m n.key) at ∙ head.is)
held_some m (first ∷ ids) (suc i) id held inside at = held_some m ids i id (later_held m first ids held) (omega (arith, inside)) at

-- what was copied is some
pub copied_some : {A : Type 0} (o : Option (Bor A)) (e : A) → option_copied o ≡ Some e → IsSome o
copied_some None e h = absurd cc
copied_some (Some b) e h = refl

-- each is what every entry is
pub held_facts : (m : Interning) (ids : List Id) → IsInterning m → AreHeld m (ids_keys ids) → All IsEntry (under m ids)
held_facts m [] facts held = All-nil IsEntry
held_facts m (id ∷ ids) facts held =
    let head = first_held m id ids held in
    subst (λ (l : List Entry). All IsEntry l) (sym head.list) (All-cons IsEntry head.entry (under m ids) (facts.entries id.key head.entry head.is) (held_facts m ids facts (later_held m id ids held)))
