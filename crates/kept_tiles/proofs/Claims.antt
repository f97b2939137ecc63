-- What holders of ids may rely on, in whatever order ids are named.
use Rattle.std.proofs.Common.{◌≡◌, ◌<◌, ◌+◌, ℕ, Bool, cond, List, [], ◌∷◌, ◌++◌, IsSome, Option, Some, None, refl, sym, ap, subst, ◌∙◌, arith}
use Rattle.std.proofs.lemmas.List.Elements.{All-nil, All-cons}
use Rattle.std.specs.FinMap.{get}
use Rattle.primitives.specs.declared.entry.Entry.{Entry}
use Rattle.tile_records.specs.declared.slots.Held.{Held}
use Rattle.tile_records.specs.Interning.{Interning, AreHeld, entry_at, entries_under}
use Rattle.tile_records.specs.Counts.{times, Suffices, Covers, Moves}
use Rattle.tile_records.proofs.Holding.{times_append}
use Rattle.tile_records.proofs.Views.{eq_same}

pub same_claims : (m : Interning) (xs ys : List ℕ) → ((k : ℕ) → times k xs ≡ times k ys) → Covers m xs → Covers m ys
same_claims m xs ys e c k = subst (Suffices (get m k)) (e k) (c k)

-- more of the same behind both
append_same : (xs ys rest : List ℕ) → ((k : ℕ) → times k xs ≡ times k ys) → (k : ℕ) → times k (xs ++ rest) ≡ times k (ys ++ rest)
append_same xs ys rest e k = times_append k xs rest ∙ ap (λ (n : ℕ). n + times k rest) (e k) ∙ sym (times_append k ys rest)

append_twice : (xs ys zs : List ℕ) (k : ℕ) → times k ((xs ++ ys) ++ zs) ≡ times k (xs ++ (ys ++ zs))
append_twice xs ys zs k =
    let a = times_append k (xs ++ ys) zs in
    let b = times_append k xs ys in
    let c = times_append k xs (ys ++ zs) in
    let d = times_append k ys zs in
    omega (arith, a, b, c, d)

pub moves_same : (a b : Interning) (from to give take : List ℕ) → ((k : ℕ) → times k from ≡ times k give) → ((k : ℕ) → times k to ≡ times k take) → Moves a b from to → Moves a b give take
moves_same a b from to give take e f h = record {
  covers = λ claims c. same_claims b (to ++ claims) (take ++ claims) (append_same to take claims f) (h.covers claims (same_claims a (give ++ claims) (from ++ claims) (append_same give from claims (λ k. sym (e k))) c));
  entries = λ claims c k p. h.entries claims (same_claims a (give ++ claims) (from ++ claims) (append_same give from claims (λ k. sym (e k))) c) k p;
}

-- what others hold may be named with what is given up and with what is held
pub moves_beside : (a b : Interning) (from to rest : List ℕ) → Moves a b from to → Moves a b (from ++ rest) (to ++ rest)
moves_beside a b from to rest h = record {
  covers = λ claims c. same_claims b (to ++ (rest ++ claims)) ((to ++ rest) ++ claims) (λ k. sym (append_twice to rest claims k))
      (h.covers (rest ++ claims) (same_claims a ((from ++ rest) ++ claims) (from ++ (rest ++ claims)) (append_twice from rest claims) c));
  entries = λ claims c k p.
      h.entries (rest ++ claims) (same_claims a ((from ++ rest) ++ claims) (from ++ (rest ++ claims)) (append_twice from rest claims) c) k
      (let e = times_append k rest claims in omega (arith, e, p));
}

pub moves_itself : (a : Interning) (xs : List ℕ) → Moves a a xs xs
moves_itself a xs = record { covers = λ claims c. c; entries = λ claims c k p. refl }

pub moves_then : (a b c : Interning) (from mid to : List ℕ) → Moves a b from mid → Moves b c mid to → Moves a c from to
moves_then a b c from mid to f g = record {
  covers = λ claims h. g.covers claims (f.covers claims h);
  entries = λ claims h k p. g.entries claims (f.covers claims h) k p ∙ f.entries claims h k p;
}

-- ---- ids that are named

pub named_first : (k : ℕ) (ks : List ℕ) → 0 < times k (k ∷ ks)
named_first k ks = let e : times k (k ∷ ks) ≡ 1 + times k ks = ap (λ (b : Bool). cond b 1 0 + times k ks) (eq_same k k refl) in omega (arith, e)

pub named_later : (q k : ℕ) (ks : List ℕ) → 0 < times q ks → 0 < times q (k ∷ ks)
named_later q k ks h = omega (arith, h)

some_suffices : (o : Option Held) (n : ℕ) → 0 < n → Suffices o n → IsSome o
some_suffices None n p h = absurd (omega (arith, p, h))
some_suffices (Some x) n p h = refl

-- each id that claims name is held
pub held_by : (m : Interning) (ks claims : List ℕ) → Covers m claims → ((k : ℕ) → 0 < times k ks → 0 < times k claims) → AreHeld m ks
held_by m [] claims c f = All-nil (λ (k : ℕ). IsSome (get m k))
held_by m (k ∷ ks) claims c f = All-cons (λ (q : ℕ). IsSome (get m q)) k ks (some_suffices (get m k) (times k claims) (f k (named_first k ks)) (c k)) (held_by m ks claims c (λ q h. f q (named_later q k ks h)))

-- ---- entries of ids that are named

under_next : (a b : Interning) (k : ℕ) (ks : List ℕ) (o : Option Entry) → entry_at a k ≡ o → entry_at b k ≡ o → entries_under b ks ≡ entries_under a ks → entries_under b (k ∷ ks) ≡ entries_under a (k ∷ ks)
under_next a b k ks None p q h = rw (p, q) h
under_next a b k ks (Some e) p q h = rw (p, q) (ap (λ (l : List Entry). e ∷ l) h)

pub under_same : (a b : Interning) (ks : List ℕ) → ((k : ℕ) → 0 < times k ks → entry_at b k ≡ entry_at a k) → entries_under b ks ≡ entries_under a ks
under_same a b [] f = refl
under_same a b (k ∷ ks) f = under_next a b k ks (entry_at a k) refl (f k (named_first k ks)) (under_same a b ks (λ q h. f q (named_later q k ks h)))
