-- Premultiplied colours: the test and what it means.
use Rattle.std.proofs.Common.{◌≡◌, ℕ, ◌≤◌, true, ◌&&◌, arith}
use Rattle.std.specs.Prelude.{nat_le}
use Rattle.std.proofs.lemmas.Bool.{and_parts, and_from}
use Rattle.blend_rules.specs.declared.colour.Px.{Px}
use Rattle.blend_rules.specs.Colour.{IsPremultiplied, is_premultiplied, clear}

at_most : (m n : ℕ) → nat_le m n ≡ true → m ≤ n
at_most m n h = grind (arith)

test_of : (m n : ℕ) → m ≤ n → nat_le m n ≡ true
test_of m n h = grind (arith)

pub premultiplied-true : (p : Px) → is_premultiplied p ≡ true → IsPremultiplied p
unfolding is_premultiplied
premultiplied-true p h =
    let k = and_parts (nat_le p.b p.a && nat_le p.g p.a) (nat_le p.r p.a) h in
    let j = and_parts (nat_le p.b p.a) (nat_le p.g p.a) k.0 in
    record { blue = at_most _ _ j.0; green = at_most _ _ j.1; red = at_most _ _ k.1 }

pub premultiplied-of : (p : Px) → IsPremultiplied p → is_premultiplied p ≡ true
unfolding is_premultiplied
premultiplied-of p h = and_from _ _ (and_from _ _ (test_of _ _ h.blue) (test_of _ _ h.green)) (test_of _ _ h.red)

pub clear_is_premultiplied : IsPremultiplied clear
clear_is_premultiplied = record { blue = omega arith; green = omega arith; red = omega arith }

-- the two laws of the test, by one name
pub ruleset premultiplied_tests = (premultiplied-true, premultiplied-of)
