-- What is picked of primitives and whole groups.
use Rattle.std.proofs.Common.{◌≡◌, ℕ, Bool, true, false, List, [], ◌∷◌, ◌++◌, reverse, if◌then◌else◌, refl, sym, ap, ◌∙◌, append_assoc}
use Rattle.blend_rules.specs.declared.mode.Mode.{Mode}
use Rattle.clip_masks.specs.declared.clip.Clip.{Clip}
use Rattle.primitives.specs.PrimitiveModel.{PrimitiveModel}
use Rattle.primitives.specs.Stacks.{IsRow}
use Rattle.primitives.specs.Stacks as row
use Rattle.primitives.specs.declared.entry.Entry.{Entry}
use Rattle.primitives.specs.declared.entry.Entry.TheVariants as entry
use Rattle.tile_records.specs.Picks.{shows_in}
use Rattle.tile_records.specs.Laws.{PickedOfGroup, group_round}
use Rattle.tile_records.proofs.Picking.{pick, reverse_cons}

module _ (hits : PrimitiveModel → Bool) where
  -- what is picked of a row, and then of the rest, after groups that wait
  abbrev onward : List Entry → List Entry → List Entry → List Entry
  onward ws [] fs = pick hits ws fs
  onward ws (x ∷ xs) fs = reverse ws ++ ((x ∷ xs) ++ pick hits [] fs)

  onward_none : (xs fs : List Entry) → onward [] xs fs ≡ xs ++ pick hits [] fs
  onward_none [] fs = refl
  onward_none (x ∷ xs) fs = refl

  primitive_by : (p : PrimitiveModel) (ws inner fs l r : List Entry) (t : Bool) → l ≡ onward [] inner fs → r ≡ onward ws inner fs
      → (if t then reverse ws ++ (entry.Primitive p ∷ l) else r) ≡ onward ws (if t then entry.Primitive p ∷ inner else inner) fs
  primitive_by p ws inner fs l r true e f = ap (λ (k : List Entry). reverse ws ++ (entry.Primitive p ∷ k)) (e ∙ onward_none inner fs)
  primitive_by p ws inner fs l r false e f = f

  -- a group alone
  round_by : (o : ℕ) (m : Mode) (c : List Clip) (inner gs : List Entry) → onward (entry.Push o m c ∷ []) inner (entry.Pop ∷ gs) ≡ group_round o m c inner ++ pick hits [] gs
  round_by o m c [] gs = refl
  round_by o m c (x ∷ xs) gs = ap (λ (l : List Entry). entry.Push o m c ∷ x ∷ l) (sym (append_assoc xs (entry.Pop ∷ []) (pick hits [] gs)))

  -- after others that wait
  group_by : (o : ℕ) (m : Mode) (c : List Clip) (ws inner rest fs gs : List Entry) → pick hits ws gs ≡ onward ws rest fs → pick hits [] gs ≡ onward [] rest fs
      → onward (entry.Push o m c ∷ ws) inner (entry.Pop ∷ gs) ≡ onward ws (group_round o m c inner ++ rest) fs
  group_by o m c ws [] rest fs gs e f = e
  group_by o m c ws (x ∷ xs) rest fs gs e f =
      ap (λ (l : List Entry). reverse (entry.Push o m c ∷ ws) ++ (x ∷ (xs ++ (entry.Pop ∷ l)))) (f ∙ onward_none rest fs)
      ∙ reverse_cons (entry.Push o m c) ws (x ∷ (xs ++ (entry.Pop ∷ (rest ++ pick hits [] fs))))
      ∙ sym (ap (λ (l : List Entry). reverse ws ++ (entry.Push o m c ∷ x ∷ l)) (append_assoc (xs ++ (entry.Pop ∷ [])) rest (pick hits [] fs) ∙ append_assoc xs (entry.Pop ∷ []) (rest ++ pick hits [] fs)))

  row_onward : (es ws fs : List Entry) → IsRow es → pick hits ws (es ++ fs) ≡ onward ws (pick hits [] es) fs
  row_onward _ ws fs row.none = refl
  row_onward _ ws fs (row.primitive p es h) =
      primitive_by p ws (pick hits [] es) fs (pick hits [] (es ++ fs)) (pick hits ws (es ++ fs)) (hits p) (row_onward es [] fs h) (row_onward es ws fs h)
  row_onward _ ws fs (row.group o m c es gs h i) =
      ap (λ (l : List Entry). pick hits (entry.Push o m c ∷ ws) l) (append_assoc es (entry.Pop ∷ gs) fs)
      ∙ row_onward es (entry.Push o m c ∷ ws) (entry.Pop ∷ (gs ++ fs)) h
      ∙ group_by o m c ws (pick hits [] es) (pick hits [] gs) fs (gs ++ fs) (row_onward gs ws fs i) (row_onward gs [] fs i)
      ∙ sym (ap (λ (l : List Entry). onward ws l fs) (row_onward es (entry.Push o m c ∷ []) (entry.Pop ∷ gs) h ∙ round_by o m c (pick hits [] es) gs))

pub picked_of_group : PickedOfGroup
picked_of_group rect o m c es fs h i =
    row_onward (shows_in rect) es (entry.Push o m c ∷ []) (entry.Pop ∷ fs) h ∙ round_by (shows_in rect) o m c (pick (shows_in rect) [] es) fs
