-- The payloads of a generated file are its transactions.
use Rattle.std.proofs.Common.{◌≡◌, ℕ, zero, suc, ◌+◌, ◌≤◌, ◌<◌, ◌^◌, Bool, true, false, cond, List, [], ◌∷◌, ◌++◌, length, nat_lt, All, Some, None, refl, ap, ap₂, ◌∙◌, arith, append_assoc}
use Rattle.std.specs.Int.{w32, from_le_bytes}
use Rattle.std.specs.List.{flat_map}
use Rattle.std.proofs.lemmas.List.Elements.{All-nil, All-cons}
use Rattle.std.proofs.lemmas.Bool.Decides.{nat_tests}
use Rattle.std.proofs.lemmas.List.{length-append, take_at, drop_at}
use Rattle.std.proofs.lemmas.Nat.{from_le_bytes-to_le_bytes_4}
use Rattle.field_forms.specs.Spelling.{u32_bytes}
use Rattle.record_frame.specs.Framing.{FirstRecord, entry, closing, Framing, framing, framing_from, max_entries, body_framing}
use Rattle.record_frame.specs.Transactions.{first_payload, first_sized, first_transaction, has_magic, transactions}
use Rattle.record_frame.proofs.Takings.{payload_whole}
use Rattle.file_generator.specs.Files.{framed, ops, payload_bytes, payloads_from, payloads, file}
use Rattle.file_generator.specs.Laws.{IsShort, IsFileOf}
use Rattle.file_generator.proofs.Payloads.{payload_short}

four_bytes : (n : ℕ) → length (u32_bytes n) ≡ 4
unfolding u32_bytes
four_bytes n = refl

read_back : (n : ℕ) → n < 2 ^ 32 → from_le_bytes w32 (u32_bytes n) ≡ n
unfolding u32_bytes
read_back n lt = from_le_bytes-to_le_bytes_4 n lt

sized : (head tail : List ℕ) → length head ≡ 4 → first_sized (head ++ tail) ≡ first_payload (from_le_bytes w32 head) tail
sized head tail four =
    let test : nat_lt (length (head ++ tail)) 4 ≡ false = let le : 4 ≤ length (head ++ tail) = omega (arith, length-append head tail, four) in grind (arith, nat_tests) in
    let same = ap₂ (λ (x y : List ℕ). first_payload (from_le_bytes w32 x) y) (take_at head tail 4 four) (drop_at head tail 4 four) in
    rw test same

-- a framed payload is a first transaction, whatever follows
first_framed : (payload rest : List ℕ) → IsShort payload → first_transaction true (framed payload ++ rest) ≡ entry payload rest
unfolding first_transaction
first_framed payload rest short =
    let head = u32_bytes (length payload) in
    let small : length payload < 2 ^ 32 = omega (arith, short) in
    ap first_sized (append_assoc head payload rest) ∙ sized head (payload ++ rest) (four_bytes (length payload))
    ∙ ap (λ (n : ℕ). first_payload n (payload ++ rest)) (read_back (length payload) small) ∙ payload_whole (length payload) payload rest (omega (arith, short)) refl

-- nothing is left after a closing byte
closed : (is_allowed : Bool) → first_transaction is_allowed (90 ∷ []) ≡ closing []
unfolding first_transaction
closed is_allowed = refl

-- what some payloads and the closing byte hold
abbrev held : List (List ℕ) → Framing (List ℕ)
held ps = record { entries = ps; after = Some [] }

all_framed : (k count n x : ℕ) → count ≤ n → framing transactions n (flat_map framed (payloads_from k count x) ++ 90 ∷ []) ≡ held (payloads_from k count x)
unfolding framing
all_framed k zero zero x le = ap (λ (r : FirstRecord (List ℕ)). framing_from r (λ _. record { entries = []; after = None })) (closed false)
all_framed k zero (suc n) x le = ap (λ (r : FirstRecord (List ℕ)). framing_from r (framing transactions n)) (closed true)
all_framed k (suc count) zero x le = absurd (omega (arith, le))
all_framed k (suc count) (suc n) x le =
    let payload = payload_bytes (ops k x).value in
    let others = flat_map framed (payloads_from (k + 1) count (ops k x).state) in
    ap (λ (b : List ℕ). framing_from (first_transaction true b) (framing transactions n)) (append_assoc (framed payload) others (90 ∷ []))
    ∙ ap (λ (r : FirstRecord (List ℕ)). framing_from r (framing transactions n)) (first_framed payload (others ++ 90 ∷ []) (payload_short k x))
    ∙ ap (λ (f : Framing (List ℕ)). record { entries = payload ∷ f.entries; after = f.after }) (all_framed (k + 1) count n (ops k x).state (omega (arith, le)))

file_opens : (number count : ℕ) → has_magic (file number count) ≡ true
unfolding file has_magic
file_opens number count = refl

file_body : (number count : ℕ) → count ≤ max_entries → body_framing transactions (file number count) ≡ held (payloads number count)
unfolding file body_framing
file_body number count le = all_framed 0 count max_entries number le

pub file_framed : (number count : ℕ) → count ≤ max_entries → IsFileOf number count
file_framed number count le = record {
  entries = ap (λ (b : Bool). cond b (body_framing transactions (file number count)).entries []) (file_opens number count) ∙ ap (λ (f : Framing (List ℕ)). f.entries) (file_body number count le);
  closed = ap (λ (b : Bool). cond b (body_framing transactions (file number count)).after None) (file_opens number count) ∙ ap (λ (f : Framing (List ℕ)). f.after) (file_body number count le);
}

pub all_short : (k count x : ℕ) → All IsShort (payloads_from k count x)
all_short k zero x = All-nil IsShort
all_short k (suc count) x = All-cons IsShort (payload_bytes (ops k x).value) (payloads_from (k + 1) count (ops k x).state) (payload_short k x) (all_short (k + 1) count (ops k x).state)
