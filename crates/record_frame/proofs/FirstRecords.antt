-- The form of a file of transactions.
use Rattle.std.proofs.Common.{◌≡◌, ℕ, ◌+◌, ◌<◌, ◌≤◌, List, [], ◌∷◌, ◌++◌, Bool, true, false, ◌&&◌, ◌||◌, cond, length, take, drop, nat_lt, nat_eq, refl, sym, ap, ap₂, ◌∙◌, arith, append_assoc, append-nil, length-append, length-drop, length-take-le, take-append-drop}
use Rattle.std.proofs.lemmas.List.{take-append-le, drop-append-le, take_at}
use Rattle.std.specs.Cmp.Lexicographic.{pointwise}
use Rattle.std.proofs.lemmas.Bool.Decides.{nat_tests}
use Rattle.std.specs.Int.{w32, from_le_bytes}
use Rattle.record_frame.specs.Framing.{FirstRecord, entry, closing, broken, IsInputForm}
use Rattle.record_frame.specs.Transactions.{first_transaction, has_magic, first_sized, first_payload, transactions, input_magic}
use Rattle.record_frame.proofs.Takings.{payload_whole}

-- ---- the first transaction of some bytes

abbrev payload_in : FirstRecord (List ℕ) → List ℕ
payload_in (entry p t) = p
payload_in (closing t) = []
payload_in broken = []

abbrev rest_in : FirstRecord (List ℕ) → List ℕ
rest_in (entry p t) = t
rest_in (closing t) = []
rest_in broken = []

-- a payload, and the bytes after it
record IsPayload (n : ℕ) (bytes p t : List ℕ) : Type 0 where
  limit : n ≤ 67108864
  size : length p ≡ n
  parts : bytes ≡ p ++ t

payload_is : (n : ℕ) (bytes p t : List ℕ) → first_payload n bytes ≡ entry p t → IsPayload n bytes p t
payload_is n bytes p t h = by_tests (nat_lt 67108864 n) (nat_lt (length bytes) n) refl refl h
  where
    by_tests : (z w : Bool) → nat_lt 67108864 n ≡ z → nat_lt (length bytes) n ≡ w → cond (z || w) broken (entry (take n bytes) (drop n bytes)) ≡ entry p t → IsPayload n bytes p t
    by_tests true w lz lw e = cc e
    by_tests false true lz lw e = cc e
    by_tests false false lz lw e =
        let le : n ≤ length bytes = grind (arith, nat_tests) in
        let is_p : take n bytes ≡ p = ap payload_in e in
        let is_t : drop n bytes ≡ t = ap rest_in e in
        record {
          limit = grind (arith, nat_tests);
          size = ap length (sym is_p) ∙ length-take-le n bytes le;
          parts = sym (take-append-drop n bytes) ∙ ap₂ (λ (x y : List ℕ). x ++ y) is_p is_t;
        }

payload_more : (n : ℕ) (a b p t : List ℕ) → first_payload n a ≡ entry p t → first_payload n (a ++ b) ≡ entry p (t ++ b)
payload_more n a b p t h =
    let is = payload_is n a p t h in
    ap (λ l. first_payload n (l ++ b)) is.parts ∙ ap (first_payload n) (append_assoc p t b) ∙ payload_whole n p (t ++ b) is.limit is.size

-- four bytes of length, and a payload
record IsSized (bytes p t : List ℕ) : Type 0 where
  some : 4 ≤ length bytes
  payload : first_payload (from_le_bytes w32 (take 4 bytes)) (drop 4 bytes) ≡ entry p t

sized_is : (bytes p t : List ℕ) → first_sized bytes ≡ entry p t → IsSized bytes p t
sized_is bytes p t h = by_test (nat_lt (length bytes) 4) refl h
  where
    by_test : (z : Bool) → nat_lt (length bytes) 4 ≡ z → cond z broken (first_payload (from_le_bytes w32 (take 4 bytes)) (drop 4 bytes)) ≡ entry p t → IsSized bytes p t
    by_test true l e = cc e
    by_test false l e = record { some = grind (arith, nat_tests); payload = e }

pub sized_size : (bytes p t : List ℕ) → first_sized bytes ≡ entry p t → length bytes ≡ 4 + (length p + length t)
sized_size bytes p t h =
    let is = sized_is bytes p t h in
    let parts = ap length (payload_is (from_le_bytes w32 (take 4 bytes)) (drop 4 bytes) p t is.payload).parts in
    omega (arith, is.some, parts, length-append p t, length-drop 4 bytes)

sized_long : (bytes : List ℕ) → 4 ≤ length bytes → first_sized bytes ≡ first_payload (from_le_bytes w32 (take 4 bytes)) (drop 4 bytes)
sized_long bytes le =
    let test : nat_lt (length bytes) 4 ≡ false = grind (arith, nat_tests) in
    rw test refl

pub sized_more : (a b p t : List ℕ) → first_sized a ≡ entry p t → first_sized (a ++ b) ≡ entry p (t ++ b)
sized_more a b p t h =
    let is = sized_is a p t h in
    let long : 4 ≤ length (a ++ b) = omega (arith, is.some, length-append a b) in
    sized_long (a ++ b) long ∙ ap₂ (λ (x y : List ℕ). first_payload (from_le_bytes w32 x) y) (take-append-le 4 a b is.some) (drop-append-le 4 a b is.some)
    ∙ payload_more (from_le_bytes w32 (take 4 a)) (drop 4 a) b p t is.payload

-- how long it is
pub transaction_size : (m : Bool) (bytes p t : List ℕ) → first_transaction m bytes ≡ entry p t → length bytes ≡ 5 + (length p + length t)
unfolding first_transaction
transaction_size m [] p t h = cc h
transaction_size m (x ∷ bytes) p t h = by_tests (nat_eq x 90) (nat_eq x 84 && m) h where
  by_tests : (z w : Bool) → cond z (closing bytes) (cond w (first_sized bytes) broken) ≡ entry p t → length (x ∷ bytes) ≡ 5 + (length p + length t)
  by_tests true w e = cc e
  by_tests false true e = omega (arith, sized_size bytes p t e)
  by_tests false false e = cc e

-- It stays with more bytes.
pub transaction_more : (m : Bool) (a b p t : List ℕ) → first_transaction m a ≡ entry p t → first_transaction m (a ++ b) ≡ entry p (t ++ b)
unfolding first_transaction
transaction_more m [] b p t h = cc h
transaction_more m (x ∷ a) b p t h = by_tests (nat_eq x 90) (nat_eq x 84 && m) h where
  by_tests : (z w : Bool) → cond z (closing a) (cond w (first_sized a) broken) ≡ entry p t → cond z (closing (a ++ b)) (cond w (first_sized (a ++ b)) broken) ≡ entry p (t ++ b)
  by_tests true w e = cc e
  by_tests false true e = sized_more a b p t e
  by_tests false false e = cc e

-- where no transaction is allowed, there is none
no_transaction : (bytes p t : List ℕ) → first_transaction false bytes ≡ entry p t → ⊥
unfolding first_transaction
no_transaction [] p t h = cc h
no_transaction (b ∷ bytes) p t h = by_tests (nat_eq b 90) (nat_eq b 84) h where
  by_tests : (z w : Bool) → cond z (closing bytes) (cond (w && false) (first_sized bytes) broken) ≡ entry p t → ⊥
  by_tests true w e = cc e
  by_tests false true e = cc e
  by_tests false false e = cc e

-- ---- the magic

-- four bytes tell whether they are the magic, whatever follows
magic_is : (t tail : List ℕ) → length t ≡ 4 → has_magic (t ++ tail) ≡ pointwise nat_eq input_magic t
unfolding has_magic
magic_is t tail len = ap (pointwise nat_eq input_magic) (take_at t tail 4 len)

pub magic_four : (t : List ℕ) → length t ≡ 4 → has_magic t ≡ pointwise nat_eq input_magic t
magic_four t len = ap has_magic (sym (append-nil t)) ∙ magic_is t [] len

and_false : (b : Bool) → b && false ≡ false
and_false true = refl
and_false false = refl

-- fewer bytes aren't
magic_short : (t : List ℕ) → length t < 4 → has_magic t ≡ false
unfolding has_magic
magic_short [] few = refl
magic_short (a ∷ []) few = and_false (nat_eq 87 a)
magic_short (a ∷ b ∷ []) few = ap (λ x. nat_eq 87 a && x) (and_false (nat_eq 82 b)) ∙ and_false (nat_eq 87 a)
magic_short (a ∷ b ∷ c ∷ []) few =
    ap (λ x. nat_eq 87 a && (nat_eq 82 b && x)) (and_false (nat_eq 84 c)) ∙ ap (λ x. nat_eq 87 a && x) (and_false (nat_eq 82 b)) ∙ and_false (nat_eq 87 a)
magic_short (a ∷ b ∷ c ∷ d ∷ t) few = absurd (omega (arith, few))

nothing_first : (is_allowed : Bool) → first_transaction is_allowed [] ≡ broken
unfolding first_transaction
nothing_first is_allowed = refl

-- Files of transactions are a form.
pub transactions_form : IsInputForm transactions
transactions_form = record {
  opens_four = λ four tail len. magic_is four tail len ∙ sym (magic_four four len);
  opens_short = magic_short;
  none = nothing_first;
  allowed = no_transaction;
  whole = λ m bytes p t e. let size = transaction_size m bytes p t e in omega (arith, size);
  some = λ m bytes p t e. omega arith;
  stays = transaction_more;
}
