-- Equal keys are one key.
use Rattle.std.proofs.Common.{◌≡◌, ℕ, Bool, true, false, ◌&&◌, eqb, int_eq, Option, Some, None, refl, ap, sym, ◌∙◌, true≢false}
use Rattle.std.specs.Option.{option_eq}
use Rattle.std.specs.Cmp.{IsEquivalence}
use Rattle.std.proofs.lemmas.Bool.{and_parts, and_from, eqb-true}
use Rattle.std.proofs.lemmas.Bool.Decides.{Decides-int_eq, Decides-eqb}
use Rattle.wr_geom.specs.declared.keys.TileKey.{TileKey}
use Rattle.tile_store.specs.Keys.{same_key}

abbrev pair_test : ℕ × ℕ → ℕ × ℕ → Bool
pair_test p q = eqb p.0 q.0 && eqb p.1 q.1

same_pair : (m n : Option (ℕ × ℕ)) → option_eq pair_test m n ≡ true → m ≡ n
same_pair None None h = refl
same_pair None (Some n) h = absurd cc
same_pair (Some m) None h = absurd cc
same_pair (Some m) (Some n) h =
    let k = and_parts (eqb m.0 n.0) (eqb m.1 n.1) h in
    let p = eqb-true m.0 n.0 k.0 in let q = eqb-true m.1 n.1 k.1 in
    λ i. Some (p i, q i)

pair_same : (m : Option (ℕ × ℕ)) → option_eq pair_test m m ≡ true
pair_same None = refl
pair_same (Some m) = and_from (eqb m.0 m.0) (eqb m.1 m.1) ((Decides-eqb m.0 m.0).1 refl) ((Decides-eqb m.1 m.1).1 refl)

pub key_same : (a b : TileKey) → same_key a b ≡ true → a ≡ b
key_same a b h =
    let i = and_parts (option_eq pair_test a.slice.scroll b.slice.scroll && eqb a.slice.nth b.slice.nth) (int_eq a.col b.col && int_eq a.row b.row) h in
    let j = and_parts (option_eq pair_test a.slice.scroll b.slice.scroll) (eqb a.slice.nth b.slice.nth) i.0 in
    let k = and_parts (int_eq a.col b.col) (int_eq a.row b.row) i.1 in
    let scroll = same_pair a.slice.scroll b.slice.scroll j.0 in
    let nth = eqb-true a.slice.nth b.slice.nth j.1 in
    let col = (Decides-int_eq a.col b.col).0 k.0 in
    let row = (Decides-int_eq a.row b.row).0 k.1 in
    λ i. record { slice = record { scroll = scroll i; nth = nth i }; col = col i; row = row i }

pub key_is : (a : TileKey) → same_key a a ≡ true
key_is a =
    and_from (option_eq pair_test a.slice.scroll a.slice.scroll && eqb a.slice.nth a.slice.nth) (int_eq a.col a.col && int_eq a.row a.row)
    (and_from (option_eq pair_test a.slice.scroll a.slice.scroll) (eqb a.slice.nth a.slice.nth) (pair_same a.slice.scroll) ((Decides-eqb a.slice.nth a.slice.nth).1 refl))
    (and_from (int_eq a.col a.col) (int_eq a.row a.row) ((Decides-int_eq a.col a.col).1 refl) ((Decides-int_eq a.row a.row).1 refl))

pub key_from : (a b : TileKey) → a ≡ b → same_key a b ≡ true
key_from a b h = ap (same_key a) (sym h) ∙ key_is a

-- the test is the same whichever of the two is asked for
pub key_turned : (a b : TileKey) → same_key a b ≡ false → same_key b a ≡ false
key_turned a b h = elim (same_key b a) as (λ t. same_key b a ≡ t → same_key b a ≡ false) [
  | true ↦ λ e. absurd (true≢false (sym (key_from a b (sym (key_same b a e))) ∙ h))
  | false ↦ λ e. e
] refl

same_either : (b c : Bool) → (b ≡ true → c ≡ true) → (c ≡ true → b ≡ true) → b ≡ c
same_either true c f g = sym (f refl)
same_either false true f g = g refl
same_either false false f g = refl

pub keys_equivalence : IsEquivalence same_key
keys_equivalence = record {
  refl = key_is;
  symm = λ x y. same_either (same_key x y) (same_key y x) (λ h. key_from y x (sym (key_same x y h))) (λ h. key_from x y (sym (key_same y x h)));
  congr = λ x y z h. ap (λ (k : TileKey). same_key k z) (key_same x y h);
}

pub key_test : (k : TileKey) (x y : TileKey) → same_key k x ≡ true → same_key k y ≡ same_key x y
key_test k x y h = ap (λ (q : TileKey). same_key q y) (key_same k x h)
