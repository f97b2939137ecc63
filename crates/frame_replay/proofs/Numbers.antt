-- Numbers in words.
use Rattle.std.proofs.Common.{◌≡◌, ℕ, ◌≤◌, ◌<◌, ◌^◌, true, List, length, nat_le, Some, Result, Ok, refl, arith}
use Rattle.std.specs.Str.{all_ascii_digits}
use Rattle.std.specs.Str.Parse.{ParsesUnsigned, digits_value}
use Rattle.std.proofs.lemmas.Bool.Decides.{nat_tests}
use Rattle.std.proofs.lemmas.Str.Parse.{IsNumeralModel, numerals_by_value, tells_all_ascii_digits, digits_value_short, parse_gives}
use Rattle.frame_replay.specs.Commands.{number_in}

-- decimal digits, and their value
own : IsNumeralModel (λ ds. all_ascii_digits ds ≡ true) (digits_value 10)
own = numerals_by_value (λ ds. all_ascii_digits ds ≡ true) tells_all_ascii_digits

pub number_parsed : {E : Type 0} (word : List ℕ) (r : Result ℕ E) → all_ascii_digits word ≡ true → 0 < length word → length word ≤ 10 → ParsesUnsigned 64 10 word r → r ≡ Ok (digits_value 10 word)
number_parsed word r digits some few parsed =
    let short : digits_value 10 word < 10 ^ 10 = digits_value_short own word 10 digits few in
    parse_gives own 64 word r parsed digits some (omega (arith, short))

pub number_some : (word : List ℕ) → all_ascii_digits word ≡ true → 0 < length word → length word ≤ 10 → number_in word ≡ Some (digits_value 10 word)
number_some word digits some few =
    let least : nat_le 1 (length word) ≡ true = grind (arith, nat_tests) in
    let most : nat_le (length word) 10 ≡ true = grind (arith, nat_tests) in
    rw (least, most, digits) refl
