-- Capped totals pass the same tests.
use Rattle.std.proofs.Common.{◌≡◌, ℕ, List, length, Bool, ◌||◌, nat_lt, ap₂, arith}
use Rattle.std.proofs.lemmas.Bool.{ltb-true, lt-ltb}
use Rattle.list_summary.specs.Shown.{Shown}
use Rattle.list_summary.specs.Totals.{capped, totals_of_shown, total, greatest}
use Rattle.scene_limits.specs.Limits.{goes_deep, is_large}
use Rattle.scene_limits.proofs.Spans.{same_tests}

capped_64 : (n : ℕ) → nat_lt 64 (capped n) ≡ nat_lt 64 n
unfolding capped
capped_64 n = same_tests _ _ (λ e. let k = ltb-true 64 (capped n) e in lt-ltb 64 n (omega arith)) (λ e. let k = ltb-true 64 n e in lt-ltb 64 (capped n) (omega arith))

capped_255 : (n : ℕ) → nat_lt 255 (capped n) ≡ nat_lt 255 n
unfolding capped
capped_255 n = same_tests _ _ (λ e. let k = ltb-true 255 (capped n) e in lt-ltb 255 n (omega arith)) (λ e. let k = ltb-true 255 n e in lt-ltb 255 (capped n) (omega arith))

capped_65536 : (n : ℕ) → nat_lt 65536 (capped n) ≡ nat_lt 65536 n
unfolding capped
capped_65536 n = same_tests _ _ (λ e. let k = ltb-true 65536 (capped n) e in lt-ltb 65536 n (omega arith)) (λ e. let k = ltb-true 65536 n e in lt-ltb 65536 (capped n) (omega arith))

capped_1048576 : (n : ℕ) → nat_lt 1048576 (capped n) ≡ nat_lt 1048576 n
unfolding capped
capped_1048576 n = same_tests _ _ (λ e. let k = ltb-true 1048576 (capped n) e in lt-ltb 1048576 n (omega arith)) (λ e. let k = ltb-true 1048576 n e in lt-ltb 1048576 (capped n) (omega arith))

pub same_deep : (xs : List Shown) → (nat_lt 64 (totals_of_shown xs).nesting || nat_lt 255 (totals_of_shown xs).most_clips) ≡ goes_deep xs
same_deep xs = ap₂ (λ (s t : Bool). s || t) (capped_64 (greatest (λ s. s.nesting) xs)) (capped_255 (greatest (λ s. s.clips) xs))

pub same_large : (xs : List Shown) → (nat_lt 65536 (totals_of_shown xs).items || nat_lt 1048576 (totals_of_shown xs).glyphs || nat_lt 1048576 (totals_of_shown xs).clips) ≡ is_large xs
same_large xs =
    ap₂ (λ (s t : Bool). s || t)
    (ap₂ (λ (s t : Bool). s || t) (capped_65536 (length xs)) (capped_1048576 (total (λ s. s.glyphs) xs)))
    (capped_1048576 (total (λ s. s.clips) xs))

pub ruleset limits = (same_deep, same_large)
