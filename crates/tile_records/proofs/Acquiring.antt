-- One entry is held once more.
use Rattle.std.proofs.Common.{◌≡◌, ◌<◌, ◌+◌, ℕ, zero, suc, Bool, true, false, List, [], ◌∷◌, ◌++◌, Option, Some, None, IsSome, is_some, refl, sym, ap, subst, ◌∙◌, arith}
use Rattle.std.specs.Ordering.{nat_cmp, eq_by_cmp}
use Rattle.std.specs.FinMap.{get, insert}
use Rattle.primitives.specs.declared.entry.Entry.{Entry}
use Rattle.tile_records.specs.declared.slots.Held.{Held}
use Rattle.tile_records.specs.Interning.{Interning, entry_of, entry_at}
use Rattle.tile_records.specs.Counts.{times, raised, IsAcquired, Moves}
use Rattle.tile_records.specs.Making.{IsGrownSlot, IsGrown, unused, Extends}
use Rattle.tile_records.proofs.Claims.{acquired_moves}
use Rattle.tile_records.proofs.Counting.{one_if, acquired_one, raised_entry}
use Rattle.tile_records.proofs.Holding.{times_append}
use Rattle.tile_records.proofs.Recounts.{at_inserted, get_inserted}
use Rattle.tile_records.proofs.Views.{same_eq}

some_entry : (o : Option Held) (e : Entry) → entry_of o ≡ Some e → IsSome o
some_entry None e h = ap is_some h
some_entry (Some x) e h = refl

pub held_where : (m : Interning) (k : ℕ) (e : Entry) → entry_at m k ≡ Some e → IsSome (get m k)
held_where m k e h = some_entry (get m k) e h

-- an id that a list of one names is that one
alone_by : (q k : ℕ) (b : Bool) → eq_by_cmp nat_cmp q k ≡ b → 0 < one_if b + 0 → q ≡ k
alone_by q k true r h = same_eq q k r
alone_by q k false r h = absurd (omega (arith, h))

pub alone : (q k : ℕ) → 0 < times q (k ∷ []) → q ≡ k
alone q k h = alone_by q k (eq_by_cmp nat_cmp q k) refl h

-- ---- what was added

-- nothing
pub grown_none : (m : Interning) → IsGrown m m []
grown_none m k = refl

-- one id more that is held no times
slot_more : (base old : Interning) (e : Entry) (k q : ℕ) (b : Bool) (n : ℕ) → eq_by_cmp nat_cmp q k ≡ b → get old k ≡ None → IsGrownSlot n (get base q) (get old q)
    → IsGrownSlot (n + (one_if b + 0)) (get base q) (get (insert old k (unused e)) q)
slot_more base old e k q true zero r none g =
    let same = ap (get old) (same_eq q k r) ∙ none in
    (sym g ∙ same, (e, at_inserted old k (unused e) q true r))
slot_more base old e k q true (suc n) r none g =
    let same = ap (get old) (same_eq q k r) ∙ none in
    absurd (none_is_some (sym same ∙ g.1.1))
  where
    none_is_some : {x : Held} → None ≡ Some x → ⊥
    none_is_some h = cc
slot_more base old e k q false n r none g =
    let i : n ≡ n + (one_if false + 0) = omega arith in
    subst (λ (j : ℕ). IsGrownSlot j (get base q) (get (insert old k (unused e)) q)) i
    (subst (IsGrownSlot n (get base q)) (sym (at_inserted old k (unused e) q false r)) g)

pub grown_more : (base old : Interning) (e : Entry) (k : ℕ) (added : List ℕ) → get old k ≡ None → IsGrown base old added → IsGrown base (insert old k (unused e)) (added ++ (k ∷ []))
grown_more base old e k added none g q =
    subst (λ (j : ℕ). IsGrownSlot j (get base q) (get (insert old k (unused e)) q)) (sym (times_append q added (k ∷ [])))
    (slot_more base old e k q (eq_by_cmp nat_cmp q k) (times q added) refl none (g q))

-- what is held stays
extend_by : (old : Interning) (e : Entry) (k q : ℕ) (x : Entry) (b : Bool) → eq_by_cmp nat_cmp q k ≡ b → get old k ≡ None → entry_at old q ≡ Some x → entry_at (insert old k (unused e)) q ≡ Some x
extend_by old e k q x true r none h = absurd (none_some (sym (ap entry_of (ap (get old) (same_eq q k r) ∙ none)) ∙ h))
  where
    none_some : {x : Entry} → None ≡ Some x → ⊥
    none_some h = cc
extend_by old e k q x false r none h = ap entry_of (at_inserted old k (unused e) q false r) ∙ h

pub inserted_extends : (old : Interning) (e : Entry) (k : ℕ) → get old k ≡ None → Extends old (insert old k (unused e))
inserted_extends old e k none q x h = extend_by old e k q x (eq_by_cmp nat_cmp q k) refl none h

-- ---- what one acquisition leaves

pub record IsHeldOnce (old new : Interning) (k : ℕ) (e : Entry) : Type 0 where
  pub entry : entry_at new k ≡ Some e
  pub counts : IsAcquired old new (k ∷ [])
  pub moves : Moves old new [] (k ∷ [])

held_once : (old mid new : Interning) (added : List ℕ) (k : ℕ) (e : Entry) → IsGrown old mid added → entry_at mid k ≡ Some e → ((q : ℕ) → 0 < times q added → 0 < times q (k ∷ [])) → new ≡ raised mid k → IsHeldOnce old new k e
held_once old mid new added k e g h i r =
    let counts = acquired_one old mid new added k g (λ q n. held_where mid q e (ap (entry_at mid) (alone q k n) ∙ h)) i r in
    record { entry = raised_entry mid new k k r ∙ h; counts = counts; moves = acquired_moves old new (k ∷ []) counts }

pub old_once : (old mid new : Interning) (k : ℕ) (e : Entry) → entry_at old k ≡ Some e → mid ≡ old → new ≡ raised mid k → IsHeldOnce old new k e
old_once old mid new k e h same r =
    held_once old mid new [] k e (subst (λ (m : Interning). IsGrown old m []) (sym same) (grown_none old)) (ap (λ (m : Interning). entry_at m k) same ∙ h) (λ q n. absurd (omega (arith, n))) r

pub new_once : (old mid new : Interning) (k : ℕ) (e : Entry) → get old k ≡ None → mid ≡ insert old k (unused e) → new ≡ raised mid k → IsHeldOnce old new k e
new_once old mid new k e none ins r =
    held_once old mid new (k ∷ []) k e
    (subst (λ (m : Interning). IsGrown old m (k ∷ [])) (sym ins) (grown_more old old e k [] none (grown_none old)))
    (ap (λ (m : Interning). entry_at m k) ins ∙ ap entry_of (get_inserted old k (unused e))) (λ q n. n) r
