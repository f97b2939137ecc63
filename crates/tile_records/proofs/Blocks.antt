-- Rows of tiles that get a primitive.
use Rattle.std.proofs.Common.{◌≡◌, ◌⊎◌, inl, inr, ℕ, ◌+◌, ◌*◌, ◌-◌, ◌<◌, ◌≤◌, List, refl, ap, ◌∙◌, subst, arith}
use Rattle.tile_records.specs.Passing.{State, IsSoundPass, HasDrawn, HasDrawnBlock, drawn, tile_of}
use Rattle.tile_records.proofs.Enters.{below_or, low_or}

-- a row ends before the next begins
apart_by : (k r n : ℕ) → r * n + n ≤ (r + 1 + k) * n
apart_by k r n = grind arith

pub apart : (r s n : ℕ) → r < s → r * n + n ≤ s * n
apart r s n h = let e : r + 1 + (s - (r + 1)) ≡ s = omega (arith, h) in subst (λ (m : ℕ). r * n + n ≤ m * n) e (apart_by (s - (r + 1)) r n)

pub block_none : (columns left right top n : ℕ) (s : State) → IsSoundPass s → HasDrawnBlock columns left right top top n s s
block_none columns left right top n s h = record {
  hit = λ c r a b x y. let bad : ⊥ = omega (arith, x, y) in absurd bad;
  beside_left = λ c r a. refl;
  beside_right = λ c r a b. refl;
  above = λ c r a b. refl;
  below = λ c r a b. refl;
  groups = refl;
  sides = refl;
  sound = h;
}

-- a tile in another row, or beside the columns
other_row : (columns left right row n : ℕ) (mid new : State) → left ≤ right → right ≤ columns → HasDrawn (row * columns + left) (row * columns + right) n mid new
    → (c r : ℕ) → c < columns → (r < row) ⊎ (row < r) → tile_of new (r * columns + c) ≡ tile_of mid (r * columns + c)
other_row columns left right row n mid new o p d c r h (inl x) = let a = apart r row columns x in d.below (r * columns + c) (omega (arith, a, h))
other_row columns left right row n mid new o p d c r h (inr x) = let a = apart row r columns x in d.above (r * columns + c) (omega (arith, a, p))

beside : (columns left right row n : ℕ) (mid new : State) → left ≤ right → right ≤ columns → HasDrawn (row * columns + left) (row * columns + right) n mid new
    → (c r : ℕ) → c < columns → (c < left) ⊎ (right ≤ c) → tile_of new (r * columns + c) ≡ tile_of mid (r * columns + c)
beside columns left right row n mid new o p d c r h side = elim (low_or r row) [
  | inl x ↦ other_row columns left right row n mid new o p d c r h (inl x)
  | inr x ↦ elim (low_or row r) [
    | inl y ↦ other_row columns left right row n mid new o p d c r h (inr y)
    | inr y ↦
        let same : r ≡ row = omega (arith, x, y) in
        let m : r * columns ≡ row * columns = ap (λ (i : ℕ). i * columns) same in
        elim side [
          | inl z ↦ d.below (r * columns + c) (omega (arith, m, z))
          | inr z ↦ d.above (r * columns + c) (omega (arith, m, z))
        ]
  ]
]

pub block_more : (columns left right top row n : ℕ) (old mid new : State) → left ≤ right → right ≤ columns → top ≤ row
    → HasDrawnBlock columns left right top row n old mid → HasDrawn (row * columns + left) (row * columns + right) n mid new → HasDrawnBlock columns left right top (row + 1) n old new
block_more columns left right top row n old mid new o p q b d = record {
  hit = λ c r u v x y. elim (below_or r row y) [
    | inl z ↦ other_row columns left right row n mid new o p d c r (omega (arith, v, p)) (inl z) ∙ b.hit c r u v x z
    | inr z ↦
        let m : r * columns ≡ row * columns = ap (λ (i : ℕ). i * columns) z in
        d.hit (r * columns + c) (omega (arith, m, u)) (omega (arith, m, v))
        ∙ ap (λ (g : List ℕ). drawn g n (tile_of mid (r * columns + c))) b.groups
        ∙ ap (drawn old.groups n) (b.below c r (omega (arith, v, p)) (omega (arith, z)))
  ];
  beside_left = λ c r u. beside columns left right row n mid new o p d c r (omega (arith, u, o, p)) (inl u) ∙ b.beside_left c r u;
  beside_right = λ c r u v. beside columns left right row n mid new o p d c r v (inr u) ∙ b.beside_right c r u v;
  above = λ c r u v. other_row columns left right row n mid new o p d c r u (inl (omega (arith, v, q))) ∙ b.above c r u v;
  below = λ c r u v. other_row columns left right row n mid new o p d c r u (inr (omega (arith, v))) ∙ b.below c r u (omega (arith, v));
  groups = d.groups ∙ b.groups;
  sides = d.sides ∙ b.sides;
  sound = d.sound;
}
