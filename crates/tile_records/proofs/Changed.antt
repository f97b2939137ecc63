-- What a step of the pass leaves of what the pass promises.
use Rattle.std.proofs.Common.{◌≡◌, ℕ, ◌+◌, ◌-◌, ◌≤◌, Bool, true, false, List, [], ◌∷◌, ◌++◌, length, drop, reverse, if◌then◌else◌, refl, sym, ap, ◌∙◌, append_assoc, arith}
use Rattle.std.proofs.lemmas.List.{reverse-append, reverse-reverse, drop-append-le, drop_all, length_push}
use Rattle.primitives.specs.PrimitiveModel.{PrimitiveModel}
use Rattle.primitives.specs.declared.entry.Entry.{Entry}
use Rattle.primitives.specs.declared.entry.Entry.TheVariants as entry
use Rattle.tile_records.specs.Picks.{picked_after}
use Rattle.tile_records.specs.Passing.{TileState, drawn, promised}

-- a group more waits, as the innermost
waits : (os : List ℕ) (e o : ℕ) → e ≤ length os → reverse (drop e (os ++ (o ∷ []))) ≡ o ∷ reverse (drop e os)
waits os e o h = ap reverse (drop-append-le e os (o ∷ []) h) ∙ reverse-append (drop e os) (o ∷ [])

-- none waits where all are there
none_waits : (os : List ℕ) (e : ℕ) → length os ≤ e → reverse (drop e os) ≡ []
none_waits os e h = ap reverse (drop_all e os h)

draw_hit : (list waiting rest : List ℕ) (n : ℕ) → list ++ (reverse (reverse waiting) ++ (n ∷ rest)) ≡ (list ++ (waiting ++ (n ∷ []))) ++ rest
draw_hit list waiting rest n =
    ap (λ (w : List ℕ). list ++ (w ++ (n ∷ rest))) (reverse-reverse waiting)
    ∙ sym (append_assoc list (waiting ++ (n ∷ [])) rest ∙ ap (λ (l : List ℕ). list ++ l) (append_assoc waiting (n ∷ []) rest))

module _ (hits : PrimitiveModel → Bool) (os : List ℕ) (es : List Entry) (x : ℕ) (xs : List ℕ) where
  pub push_step : (t : TileState) (o : ℕ) (m : _) (c : _) → t.depth ≤ length os
      → promised hits os t (entry.Push o m c ∷ es) (x ∷ xs) ≡ promised hits (os ++ (x ∷ [])) t es xs
  push_step t o m c h = sym (ap (λ (w : List ℕ). t.list ++ picked_after hits w es xs) (waits os t.depth x h))

  draw_by : (t : TileState) (b : Bool)
      → t.list ++ (if b then reverse (reverse (drop t.depth os)) ++ (x ∷ picked_after hits [] es xs) else picked_after hits (reverse (drop t.depth os)) es xs)
      ≡ promised hits os (if b then drawn os x t else t) es xs
  draw_by t true =
      draw_hit t.list (drop t.depth os) (picked_after hits [] es xs) x
      ∙ sym (ap (λ (w : List ℕ). (t.list ++ (drop t.depth os ++ (x ∷ []))) ++ picked_after hits w es xs) (none_waits os (length os) (omega arith)))
  draw_by t false = refl

  pub draw_step : (t : TileState) (p : PrimitiveModel)
      → promised hits os t (entry.Primitive p ∷ es) (x ∷ xs) ≡ promised hits os (if hits p then drawn os x t else t) es xs
  draw_step t p = draw_by t (hits p)

  -- the tile has the group that ends
  pub pop_there : (o : ℕ) (list : List ℕ) (e : ℕ) → e ≡ length os + 1
      → list ++ picked_after hits (reverse (drop e (os ++ (o ∷ [])))) (entry.Pop ∷ es) (x ∷ xs) ≡ (list ++ (x ∷ [])) ++ picked_after hits (reverse (drop (e - 1) os)) es xs
  pop_there o list e h =
      ap (λ (w : List ℕ). list ++ picked_after hits w (entry.Pop ∷ es) (x ∷ xs)) (none_waits (os ++ (o ∷ [])) e (let l = length_push os o in omega (arith, l, h)))
      ∙ sym (ap (λ (w : List ℕ). (list ++ (x ∷ [])) ++ picked_after hits w es xs) (none_waits os (e - 1) (omega (arith, h))) ∙ append_assoc list (x ∷ []) _)

  -- the group still waits for the tile
  pub pop_waiting : (o : ℕ) (list : List ℕ) (e : ℕ) → e ≤ length os
      → list ++ picked_after hits (reverse (drop e (os ++ (o ∷ [])))) (entry.Pop ∷ es) (x ∷ xs) ≡ list ++ picked_after hits (reverse (drop e os)) es xs
  pop_waiting o list e h = ap (λ (w : List ℕ). list ++ picked_after hits w (entry.Pop ∷ es) (x ∷ xs)) (waits os e o h)
