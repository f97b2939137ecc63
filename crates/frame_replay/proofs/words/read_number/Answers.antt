use Rattle.std.proofs.Common.{◌≡◌, ◌<◌, ◌≤◌, ◌==◌, length, true, false, sym, ap, ◌∙◌, arith}
use Rattle.std.specs.Result.{result_ok}
use Rattle.std.specs.Str.{all_ascii_digits}
use Rattle.std.proofs.lemmas.Bool.Decides.{nat_tests}
use Rattle.frame_replay.proofs.Numbers.{number_parsed, number_some}
use Rattle.frame_replay.proofs.words.read_number.Goals as goal

pub returns : goal.returns
returns c =
    let word = c.args.word.now in
    let digits : all_ascii_digits word ≡ true = sym c.are_digits.ensures ∙ c.if-not-are_digits.false in
    let empty : (length word == 0) ≡ false = sym c.is_empty.ensures ∙ c.if-is_empty.false in
    let some : 0 < length word = grind (arith, nat_tests) in
    let few : length word ≤ 10 = omega arith in
    c.ok.ensures.value ∙ ap result_ok (number_parsed word c.parse.result digits some few c.parse.ensures.value.0) ∙ sym (number_some word digits some few)
