-- Laws of the containers' values, which the public functions of laws.rt carry.
use Rattle.std.specs.Prelude.{◌≡◌, ◌≢◌, ◌↔◌, Bool, true, Some, None}
use Rattle.std.specs.declared.cmp.Ordering.{Ordering}
use Rattle.std.specs.declared.cmp.Ordering.TheVariants.{Equal}
use Rattle.std.specs.Cmp.Lexicographic.{pointwise, slice_cmp}
use Rattle.std.specs.FinMap as map

-- what a map has after an insertion or a removal, and when two maps are equal
pub record MapLaws {K : Type 0} (R : K → K → Ordering) (V : Type 0) : Type 0 where
  pub nothing : (k : K) → map.get (map.empty {X = V} {R = R}) k ≡ None
  pub inserted : (m : map.FinMap R V) (k : K) (v : V) → map.get (map.insert m k v) k ≡ Some v
  pub beside_inserted : (m : map.FinMap R V) (k : K) (v : V) (q : K) → q ≢ k → map.get (map.insert m k v) q ≡ map.get m q
  pub removed : (m : map.FinMap R V) (k : K) → map.get (map.remove m k) k ≡ None
  pub beside_removed : (m : map.FinMap R V) (k q : K) → q ≢ k → map.get (map.remove m k) q ≡ map.get m q
  pub put_back : (m : map.FinMap R V) (k : K) (v : V) → map.insert (map.remove m k) k v ≡ map.insert m k v
  pub replaced : (m : map.FinMap R V) (k : K) (v w : V) → map.insert (map.insert m k v) k w ≡ map.insert m k w
  pub taken_out : (m : map.FinMap R V) (k : K) (v : V) → map.remove (map.insert m k v) k ≡ map.remove m k
  pub inserted_again : (m : map.FinMap R V) (k : K) (v : V) → map.get m k ≡ Some v → map.insert m k v ≡ m
  pub removed_again : (m : map.FinMap R V) (k : K) → map.get m k ≡ None → map.remove m k ≡ m
  pub same : (m n : map.FinMap R V) → ((k : K) → map.get m k ≡ map.get n k) → m ≡ n

-- a test that answers whether two values are equal
abbrev pub TellsEqual : {A : Type 0} → (A → A → Bool) → Type 0
TellsEqual {A} eq = (x y : A) → (eq x y ≡ true) ↔ (x ≡ y)

-- an order in which equal values alone tie
abbrev pub TiesEqual : {A : Type 0} → (A → A → Ordering) → Type 0
TiesEqual {A} cmp = (x y : A) → (cmp x y ≡ Equal) ↔ (x ≡ y)

-- where the members' tests tell them apart, those of lists do too
pub record SequenceLaws {A : Type 0} (eq : A → A → Bool) (cmp : A → A → Ordering) : Type 0 where
  pub equality : TellsEqual eq → TellsEqual (pointwise eq)
  pub order : TiesEqual cmp → TiesEqual (slice_cmp cmp)
