-- Groups that open and end.
use Rattle.std.proofs.Common.{◌≡◌, inl, inr, ℕ, ◌+◌, ◌-◌, ◌<◌, ◌≤◌, List, [], ◌∷◌, ◌++◌, Option, Some, length, get_or, Contains, refl, sym, ap, ◌∙◌, subst, arith}
use Rattle.std.specs.Prelude.{option_to_list}
use Rattle.std.specs.Global.{Vec}
use Rattle.std.proofs.lemmas.List.{get_or_append_left, get_or_push, length_push, map_push}
use Rattle.tile_records.specs.Passing.{views}
use Rattle.tile_records.specs.Passing.{TileState, State, IsSoundPass, AllLeave, HasOpened, HasClosed, tile_of, closed}
use Rattle.tile_records.proofs.Enters.{at_or}
use Rattle.tile_records.proofs.Leavings.{close_there, close_not}

pub views_push : (xs ws : List (Vec ℕ)) (v : Vec ℕ) (l : List ℕ) → ws ≡ xs ++ (v ∷ []) → v.items ≡ l → views ws ≡ views xs ++ (l ∷ [])
views_push xs ws v l e f = ap views e ∙ map_push (λ (w : Vec ℕ). w.items) xs v ∙ ap (λ (i : List ℕ). views xs ++ (i ∷ [])) f

pub popped : {A : Type 0} (xs ys : List A) (r : Option A) (x : A) → xs ≡ ys ++ option_to_list r → r ≡ Some x → xs ≡ ys ++ (x ∷ [])
popped xs ys r x e f = e ∙ ap (λ (o : Option _). ys ++ option_to_list o) f

pub open_law : (old : State) (n : ℕ) (os : List ℕ) (rs : List (List ℕ)) → IsSoundPass old → os ≡ old.groups ++ (n ∷ []) → rs ≡ old.reached ++ ([] ∷ [])
    → HasOpened n old (record { lists = old.lists; entered = old.entered; groups = os; reached = rs })
open_law old n os rs s e f =
    let more : length os ≡ length old.groups + 1 = ap length e ∙ length_push old.groups n in
    record {
      tiles = λ k. refl;
      groups = e;
      sides = refl;
      sound = record {
        sides = s.sides;
        depths = ap length f ∙ length_push old.reached [] ∙ ap (λ (m : ℕ). m + 1) s.depths ∙ sym more;
        below = λ k. let b = s.below k in omega (arith, b, more);
        known = λ k i h.
            let b = s.below k in
            let d = s.depths in
            subst (λ (ys : List ℕ). Contains ys k) (sym (ap (λ (r : List (List ℕ)). get_or r i []) f ∙ get_or_append_left old.reached ([] ∷ []) [] i (omega (arith, b, d, h)))) (s.known k i h);
      };
    }

-- the tiles that have the innermost group are known to it
pub inner_known : (old : State) (d : ℕ) (rs : List (List ℕ)) (group : List ℕ) → IsSoundPass old → d ≡ length old.groups → 0 < length old.groups → old.reached ≡ rs ++ (group ∷ [])
    → (k : ℕ) → get_or old.entered k 0 ≡ d → Contains group k
inner_known old d rs group s e p f k h =
    let depths = s.depths in
    let long : length old.reached ≡ length rs + 1 = ap length f ∙ length_push rs group in
    let last : length rs ≡ d - 1 = omega (arith, depths, long, e) in
    subst (λ (ys : List ℕ). Contains ys k) (ap (λ (r : List (List ℕ)). get_or r (d - 1) []) f ∙ get_or_push rs group [] (d - 1) last) (s.known k (d - 1) (omega (arith, h, e, p)))

-- how many groups a tile has afterwards
closed_depth : (d n : ℕ) (t : TileState) → 0 < d → t.depth ≤ d → ((closed d n t).depth ≤ d - 1) × ((closed d n t).depth ≤ t.depth)
closed_depth d n t p h = elim (at_or t.depth d) [
  | inl e ↦ let x = ap (λ (u : TileState). u.depth) (close_there d n t e) in (omega (arith, x, e), omega (arith, x, e))
  | inr e ↦ let x = ap (λ (u : TileState). u.depth) (close_not d n t e) in (omega (arith, x, e, h), omega (arith, x))
]

pub close_law : (old : State) (n d o : ℕ) (os : List ℕ) (group : List ℕ) (rs ls : List (List ℕ)) (es : List ℕ) → IsSoundPass old → d ≡ length old.groups → 0 < length old.groups
    → old.groups ≡ os ++ (o ∷ []) → old.reached ≡ rs ++ (group ∷ []) → AllLeave d n old.lists old.entered ls es
    → HasClosed n old (record { lists = ls; entered = es; groups = os; reached = rs })
close_law old n d o os group rs ls es s e p f g l =
    let more : length old.groups ≡ length os + 1 = ap length f ∙ length_push os o in
    let long : length old.reached ≡ length rs + 1 = ap length g ∙ length_push rs group in
    let depths = s.depths in
    let positive : 0 < d = omega (arith, e, p) in
    let fewer : (k : ℕ) → (get_or es k 0 ≤ d - 1) × (get_or es k 0 ≤ get_or old.entered k 0) =
    (λ k. let b = s.below k in
    let c = closed_depth d n (tile_of old k) positive (omega (arith, b, e)) in
    let x : get_or es k 0 ≡ (closed d n (tile_of old k)).depth = ap (λ (u : TileState). u.depth) (l.each k) in
    let y = c.0 in let z = c.1 in
    (omega (arith, x, y), omega (arith, x, z))) in
    record {
      tiles = λ k. l.each k ∙ ap (λ (m : ℕ). closed m n (tile_of old k)) e;
      groups = (o, f);
      sides = l.lists_sides;
      sound = record {
        sides = l.sides ∙ s.sides ∙ sym l.lists_sides;
        depths = omega (arith, depths, long, more);
        below = λ k. let y = (fewer k).0 in omega (arith, y, more, e);
        known = λ k i h.
            let y = (fewer k).0 in
            let z = (fewer k).1 in
            subst (λ (ys : List ℕ). Contains ys k) (ap (λ (r : List (List ℕ)). get_or r i []) g ∙ get_or_append_left rs (group ∷ []) [] i (omega (arith, depths, long, e, y, h))) (s.known k i (omega (arith, h, z)));
      };
    }
