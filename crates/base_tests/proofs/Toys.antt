-- The form of bells and payloads, which the tests read.
use Rattle.std.proofs.Common.{◌≡◌, ℕ, ◌+◌, ◌<◌, List, [], ◌∷◌, ◌++◌, Bool, true, false, ◌&&◌, cond, Option, Some, None, length, nat_eq, refl, sym, ap, ◌∙◌, arith, append-nil, codes}
use Rattle.std.proofs.lemmas.List.{take_at}
use Rattle.std.proofs.lemmas.Bool.Decides.{nat_tests}
use Rattle.std.specs.Cmp.Lexicographic.{pointwise}
use Rattle.record_frame.specs.Framing.{FirstRecord, entry, closing, broken, map_entry, IsInputForm}
use Rattle.record_frame.specs.Transactions.{first_sized}
use Rattle.base_tests.specs.Toys.{first_after, first_ring, is_bells, ring_size, bells}
use Rattle.record_frame.proofs.FirstRecords.{sized_size, sized_more}

-- ---- the magic

magic_is : (t tail : List ℕ) → length t ≡ 4 → is_bells (t ++ tail) ≡ pointwise nat_eq (codes "BELL") t
unfolding is_bells
magic_is t tail len = ap (pointwise nat_eq (codes "BELL")) (take_at t tail 4 len)

pub bells_four : (t : List ℕ) → length t ≡ 4 → is_bells t ≡ pointwise nat_eq (codes "BELL") t
bells_four t len = ap is_bells (sym (append-nil t)) ∙ magic_is t [] len

and_false : (b : Bool) → b && false ≡ false
and_false true = refl
and_false false = refl

magic_short : (t : List ℕ) → length t < 4 → is_bells t ≡ false
unfolding is_bells
magic_short [] few = refl
magic_short (a ∷ []) few = and_false (nat_eq 66 a)
magic_short (a ∷ b ∷ []) few = ap (λ x. nat_eq 66 a && x) (and_false (nat_eq 69 b)) ∙ and_false (nat_eq 66 a)
magic_short (a ∷ b ∷ c ∷ []) few =
    ap (λ x. nat_eq 66 a && (nat_eq 69 b && x)) (and_false (nat_eq 76 c)) ∙ ap (λ x. nat_eq 66 a && x) (and_false (nat_eq 69 b)) ∙ and_false (nat_eq 66 a)
magic_short (a ∷ b ∷ c ∷ d ∷ t) few = absurd (omega (arith, few))

-- ---- the first entry

-- an entry of so many bytes after its first
record IsRing (first : List ℕ → FirstRecord (Option (List ℕ))) (bytes : List ℕ) (r : Option (List ℕ)) (rest : List ℕ) : Type 0 where
  size : length bytes + 1 ≡ ring_size r + length rest
  stays : (more : List ℕ) → first (bytes ++ more) ≡ entry r (rest ++ more)

abbrev sent : FirstRecord (List ℕ) → FirstRecord (Option (List ℕ))
sent f = map_entry (λ payload. Some payload) f

sent_is : (bytes : List ℕ) (f : FirstRecord (List ℕ)) (r : Option (List ℕ)) (rest : List ℕ) → first_sized bytes ≡ f → sent f ≡ entry r rest → IsRing (λ x. sent (first_sized x)) bytes r rest
sent_is bytes (entry p t) r rest e h =
    let same : Some p ≡ r = cc in
    let left : t ≡ rest = cc in
    let size = sized_size bytes p t e in
    rw (← same, ← left) (record { size = omega (arith, size); stays = λ more. ap sent (sized_more bytes more p t e) })
sent_is bytes (closing t) r rest e h = cc h
sent_is bytes broken r rest e h = cc h

ring_is : (tag : ℕ) (bytes : List ℕ) (r : Option (List ℕ)) (rest : List ℕ) → first_after tag bytes ≡ entry r rest → IsRing (first_after tag) bytes r rest
unfolding first_after
ring_is tag bytes r rest h = by_tests (nat_eq tag 66) (nat_eq tag 80) h where
  by_tests : (x y : Bool) → cond x (entry None bytes) (cond y (sent (first_sized bytes)) broken) ≡ entry r rest → IsRing (λ l. cond x (entry None l) (cond y (sent (first_sized l)) broken)) bytes r rest
  by_tests true y e =
      let same : None ≡ r = cc in
      let left : bytes ≡ rest = cc in
      rw (← same, ← left) (record { size = omega arith; stays = λ more. refl })
  by_tests false true e =
      let is = sent_is bytes (first_sized bytes) r rest refl e in
      record { size = is.size; stays = is.stays }
  by_tests false false e = cc e

pub ring_none : (m : Bool) → first_ring m [] ≡ broken
unfolding first_ring
ring_none m = refl

ring_allowed : (bytes : List ℕ) (r : Option (List ℕ)) (rest : List ℕ) → first_ring false bytes ≡ entry r rest → ⊥
unfolding first_ring
ring_allowed [] r rest h = cc h
ring_allowed (x ∷ bytes) r rest h = by_test (nat_eq x 90) h where
  by_test : (z : Bool) → cond z (closing bytes) (cond false (first_after x bytes) broken) ≡ entry r rest → ⊥
  by_test true e = cc e
  by_test false e = cc e

first_is : (m : Bool) (bytes : List ℕ) (r : Option (List ℕ)) (rest : List ℕ) → first_ring m bytes ≡ entry r rest
    → (length bytes ≡ ring_size r + length rest) × ((more : List ℕ) → first_ring m (bytes ++ more) ≡ entry r (rest ++ more))
unfolding first_ring
first_is m [] r rest h = cc h
first_is m (x ∷ bytes) r rest h = by_tests (nat_eq x 90) m h where
  by_tests : (z w : Bool) → cond z (closing bytes) (cond w (first_after x bytes) broken) ≡ entry r rest
      → (length (x ∷ bytes) ≡ ring_size r + length rest) × ((more : List ℕ) → cond z (closing (bytes ++ more)) (cond w (first_after x (bytes ++ more)) broken) ≡ entry r (rest ++ more))
  by_tests true w e = cc e
  by_tests false true e =
      let is = ring_is x bytes r rest e in
      (omega (arith, is.size), is.stays)
  by_tests false false e = cc e

ring_some : (r : Option (List ℕ)) → 0 < ring_size r
ring_some None = omega arith
ring_some (Some p) = omega arith

pub bells_form : IsInputForm bells
bells_form = record {
  opens_four = λ four tail len. magic_is four tail len ∙ sym (bells_four four len);
  opens_short = magic_short;
  none = ring_none;
  allowed = ring_allowed;
  whole = λ m bytes r rest e. (first_is m bytes r rest e).0;
  some = λ m bytes r rest e. ring_some r;
  stays = λ m bytes more r rest e. (first_is m bytes r rest e).1 more;
}

-- ---- the tags

pub after_bell : (bytes : List ℕ) → first_after 66 bytes ≡ entry None bytes
unfolding first_after
after_bell bytes = refl

pub after_sent : (bytes : List ℕ) → first_after 80 bytes ≡ map_entry (λ payload. Some payload) (first_sized bytes)
unfolding first_after
after_sent bytes = refl

pub after_other : (tag : ℕ) (bytes : List ℕ) → (tag ≡ 66 → ⊥) → (tag ≡ 80 → ⊥) → first_after tag bytes ≡ broken
unfolding first_after
after_other tag bytes b p =
    let x : nat_eq tag 66 ≡ false = grind (arith, nat_tests) in
    let y : nat_eq tag 80 ≡ false = grind (arith, nat_tests) in
    rw (x, y) refl

pub ring_tag : (m : Bool) (x : ℕ) (t tail : List ℕ) → t ≡ x ∷ [] → (x ≡ 90 → ⊥) → m ≡ true → first_ring m (t ++ tail) ≡ first_after x tail
unfolding first_ring
ring_tag m x t tail e not_z is =
    let n : nat_eq x 90 ≡ false = grind (arith, nat_tests) in
    ap (λ l. first_ring m (l ++ tail)) e ∙ rw (n, is) refl

pub ring_close : (m : Bool) (t tail : List ℕ) → t ≡ 90 ∷ [] → first_ring m (t ++ tail) ≡ closing tail
unfolding first_ring
ring_close m t tail e = ap (λ l. first_ring m (l ++ tail)) e

pub ring_other : (m : Bool) (x : ℕ) (t tail : List ℕ) → t ≡ x ∷ [] → (x ≡ 90 → ⊥) → m ≡ false → first_ring m (t ++ tail) ≡ broken
unfolding first_ring
ring_other m x t tail e not_z is =
    let n : nat_eq x 90 ≡ false = grind (arith, nat_tests) in
    ap (λ l. first_ring m (l ++ tail)) e ∙ rw (n, is) refl
