-- What look-ups answer and lend.
use Rattle.std.proofs.Common.{◌≡◌, Bool, true, false, eqb, Option, Some, None, Bor, Result, Ok, Err, OnErr, is_some, if◌then◌else◌, sym, ap, refl}
use Rattle.std.proofs.lemmas.Bool.{eqb-true}
use Rattle.std.specs.Option.{option_copied, OnSome}
use Rattle.std.specs.declared.cmp.Ordering.{Ordering}
use Rattle.std.specs.Ordering.{nat_cmp}
use Rattle.std.specs.FinMap as map
use Rattle.image_store.specs.StoreModel.{put_group}

-- where nothing was found
pub none_found : {A : Type 0} (r : Option (Bor A)) (f : Option A) → option_copied r ≡ f → is_some r ≡ false → f ≡ None
none_found None f e s = sym e
none_found (Some x) f e s = absurd (cc)

-- where something was found
pub some_found : {A : Type 0} (r : Option (Bor A)) (f : Option A) → option_copied r ≡ f → is_some r ≡ true → (x : A) × (f ≡ Some x)
some_found None f e s = absurd (cc)
some_found (Some x) f e s = (x.now, sym e)

pub at_some : {A : Type 0} (r : Option A) (x : A) {P : Type 0} → r ≡ Some x → OnSome r P → P
at_some None x e p = absurd (cc)
at_some (Some y) x e p = p

pub on_err : {X E P : Type 0} (r : Result X E) → P → OnErr r P
on_err (Ok x) p = tt
on_err (Err e) p = p

-- a map of maps where one of them is empty, or isn't
module _ {K X : Type 0} {R : K → K → Ordering} (groups : map.FinMap R (map.FinMap nat_cmp X)) (k : K) (group : map.FinMap nat_cmp X) where
  pub empty_group : map.len group ≡ 0 → put_group groups k group ≡ map.remove groups k
  empty_group e = ap (λ n. if eqb n 0 then map.remove groups k else map.insert groups k group) e

  by_test : (b : Bool) → eqb (map.len group) 0 ≡ b → ¬ (map.len group ≡ 0) → (if b then map.remove groups k else map.insert groups k group) ≡ map.insert groups k group
  by_test true e n = absurd (n (search (eqb-true (map.len group) 0)))
  by_test false e n = refl

  pub some_group : ¬ (map.len group ≡ 0) → put_group groups k group ≡ map.insert groups k group
  some_group n = by_test (eqb (map.len group) 0) refl n
