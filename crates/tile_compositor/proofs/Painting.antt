-- Parts of planes, painted row by row.
use Rattle.std.proofs.Common.{Bool, ◌≡◌, ◌≢◌, ℕ, ◌+◌, ◌<◌, ◌≤◌, ◌⊎◌, inl, inr, pos, IsTrue, IsFalse, subst, sym, refl, ◌∙◌, true≢false, arith}
use Rattle.std.proofs.lemmas.Int.{ints}
use Rattle.std.proofs.lemmas.Bool.{cases_lt, cases_order}
use Rattle.wr_geom.proofs.Points.{inside, holds_it, misses_it}
use Rattle.blend_rules.specs.declared.colour.Px.{Px}
use Rattle.span_kernels.specs.PlanesModel.{PlanesModel, pixel_at}
use Rattle.tile_compositor.specs.Laid.{IsLaid, IsSpanLaid, bounds_of, lies_in}
use Rattle.tile_compositor.specs.declared.part.Part.{Part}

-- a pixel that lies in a part
pub record IsIn (part : Part) (x y : ℕ) : Type 0 where
  pub left : part.left ≤ x
  pub right : x < part.right
  pub top : part.top ≤ y
  pub bottom : y < part.bottom

pub in_part : (part : Part) (x y : ℕ) → IsTrue (lies_in (bounds_of part) x y) → IsIn part x y
in_part part x y h =
    let i = inside (bounds_of part) (pos x) (pos y) h in
    let a = i.left in let b = i.right in let c = i.top in let d = i.bottom in
    record { left = omega (arith, ints); right = omega (arith, ints); top = omega (arith, ints); bottom = omega (arith, ints) }

pub lies : (part : Part) (x y : ℕ) → IsIn part x y → IsTrue (lies_in (bounds_of part) x y)
lies part x y h =
    let a = h.left in let b = h.right in let c = h.top in let d = h.bottom in
    holds_it (bounds_of part) (pos x) (pos y) (record { left = omega (arith, ints); right = omega (arith, ints); top = omega (arith, ints); bottom = omega (arith, ints) })

pub lies_not : (part : Part) (x y : ℕ) → ¬ IsIn part x y → IsFalse (lies_in (bounds_of part) x y)
lies_not part x y far = misses_it (bounds_of part) (pos x) (pos y) (λ i. far (in_part part x y (holds_it (bounds_of part) (pos x) (pos y) i)))

pub not_in : (part : Part) (x y : ℕ) → IsFalse (lies_in (bounds_of part) x y) → ¬ IsIn part x y
not_in part x y f i = true≢false (sym (lies part x y i) ∙ f)

-- a part without rows
pub none_painted : (f : ℕ → ℕ → Px) (left top right : ℕ) (old : PlanesModel) → IsLaid f (lies_in (bounds_of (record { left = left; top = top; right = right; bottom = top }))) old old
none_painted f left top right old = record {
  sides = record { width = refl; height = refl };
  inside = λ x y hx hy h. absurd (let i = in_part (record { left = left; top = top; right = right; bottom = top }) x y h in let a = i.top in let b = i.bottom in omega arith);
  outside = λ x y hx hy far. refl;
}

module _ (f : ℕ → ℕ → Px) (g : ℕ → Px) (left top right y : ℕ) (old mid new : PlanesModel) (order : top ≤ y) (fits : right ≤ old.width)
    (before : IsLaid f (lies_in (bounds_of (record { left = left; top = top; right = right; bottom = y }))) old mid) (row : IsSpanLaid g (record { y = y; from = left; to = right }) mid new)
    (same : (x : ℕ) → left ≤ x → x < right → g x ≡ f x y) where
  abbrev so_far : Part
  so_far = record { left = left; top = top; right = right; bottom = y }

  abbrev one_more : Part
  one_more = record { left = left; top = top; right = right; bottom = y + 1 }

  in_mid : (x : ℕ) → x < old.width → x < mid.width
  in_mid x h = omega (arith, h, before.sides.width)

  -- where the new row isn't, or beside it
  beside : (x v : ℕ) → ¬ IsIn one_more x v → (v ≢ y) ⊎ (x < left) ⊎ (right ≤ x)
  beside x v far = elim (cases_order v y) [
    | inl is ↦ elim (cases_lt x left) [
      | inl below ↦ inr (inl below)
      | inr low ↦ elim (cases_lt x right) [
        | inl high ↦ absurd (far (record { left = low; right = high; top = omega (arith, is, order); bottom = omega (arith, is) }))
        | inr above ↦ inr (inr above)
      ]
    ]
    | inr (inl less) ↦ inl (λ e. absurd (omega (arith, e, less)))
    | inr (inr more) ↦ inl (λ e. absurd (omega (arith, e, more)))
  ]

  in_more : (x v : ℕ) → IsIn so_far x v → IsIn one_more x v
  in_more x v h = record { left = h.left; right = h.right; top = h.top; bottom = let b = h.bottom in omega arith }

  inside_more : (x v : ℕ) → x < old.width → v < old.height → IsIn one_more x v → pixel_at new x v ≡ f x v
  inside_more x v hx hv h = elim (cases_lt v y) [
    | inl less ↦ row.outside x v (in_mid x hx) (inl (λ e. absurd (omega (arith, e, less)))) ∙ before.inside x v hx hv (lies so_far x v (record { left = h.left; right = h.right; top = h.top; bottom = less }))
    | inr high ↦
        let is : y ≡ v = let b = h.bottom in omega arith in
        subst (λ (n : ℕ). pixel_at new x n ≡ f x n) is (row.inside x h.left h.right ∙ same x h.left h.right)
  ]

  -- one row more
  pub more_painted : IsLaid f (lies_in (bounds_of one_more)) old new
  more_painted = record {
    sides = record { width = row.sides.width ∙ before.sides.width; height = row.sides.height ∙ before.sides.height };
    inside = λ x v hx hv h. inside_more x v hx hv (in_part one_more x v h);
    outside = λ x v hx hv far.
        let not_here = not_in one_more x v far in
        row.outside x v (in_mid x hx) (beside x v not_here) ∙ before.outside x v hx hv (lies_not so_far x v (λ h. not_here (in_more x v h)));
  }

-- it may be named by another test that passes as often
pub painted_where : (f : ℕ → ℕ → Px) (s t : ℕ → ℕ → Bool) (old new : PlanesModel) → ((x y : ℕ) → s x y ≡ t x y) → IsLaid f s old new → IsLaid f t old new
painted_where f s t old new same r = record {
  sides = r.sides;
  inside = λ x y hx hy h. r.inside x y hx hy (same x y ∙ h);
  outside = λ x y hx hy h. r.outside x y hx hy (same x y ∙ h);
}

-- or by another function that gives the same where the test passes
pub painted_as : (f g : ℕ → ℕ → Px) (s : ℕ → ℕ → Bool) (old new : PlanesModel) → ((x y : ℕ) → IsTrue (s x y) → f x y ≡ g x y) → IsLaid f s old new → IsLaid g s old new
painted_as f g s old new same r = record {
  sides = r.sides;
  inside = λ x y hx hy h. r.inside x y hx hy h ∙ same x y h;
  outside = r.outside;
}
