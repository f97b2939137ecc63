-- What is picked has the value of all, and is in order as all is.
use Rattle.std.proofs.Common.{◌≡◌, ℕ, zero, suc, ◌<◌, ◌^◌, Bool, true, false, List, [], ◌∷◌, ◌++◌, reverse, map, All, Contains, if◌then◌else◌, refl, sym, ap, ◌∙◌, subst, true≢false, append_assoc}
use Rattle.std.specs.Prelude.{ℤ}
use Rattle.std.proofs.lemmas.List.{reverse-append}
use Rattle.std.proofs.lemmas.List.Elements.{All-head, All-tail, All-cons, All-nil, All-contains_itself}
use Rattle.wr_geom.specs.Bounds.{Bounds, holds}
use Rattle.blend_rules.specs.Colour.{IsPixel}
use Rattle.blend_rules.proofs.Blends.{clear_is_pixel}
use Rattle.image_store.specs.StoreModel.{StoreModel, IsStore}
use Rattle.primitives.specs.Colours.{visible_rect}
use Rattle.primitives.specs.Facts.{IsEntry, IsGroup, IsHidden, IsStack}
use Rattle.primitives.specs.PrimitiveModel.{PrimitiveModel, IsPrimitive}
use Rattle.primitives.specs.Stacks.{Stack, empty_stack, step, run, balanced, is_shallow}
use Rattle.primitives.specs.declared.entry.Entry.{Entry}
use Rattle.primitives.specs.declared.entry.Entry.TheVariants as entry
use Rattle.primitives.proofs.Runs.{run_keeps_pixels, hidden_leaves_stack, hidden_list_leaves_stack}
use Rattle.tile_grid.specs.Tiles.{meets}
use Rattle.tile_grid.proofs.Meetings.{meets_points}
use Rattle.tile_records.specs.Picks.{shows_in, picked_after}
use Rattle.tile_records.specs.Laws.{PickedHasValues, PickedIsBalanced, PickedIsShallow, PickedAreEntries}

-- of the entries themselves
abbrev pub pick : (PrimitiveModel → Bool) → List Entry → List Entry → List Entry
pick hits ws es = picked_after hits ws es es

-- one that waits comes last before the rest
pub reverse_cons : {A : Type 0} (w : A) (ws xs : List A) → reverse (w ∷ ws) ++ xs ≡ reverse ws ++ (w ∷ xs)
reverse_cons {A = A} w ws xs = ap (λ (l : List A). l ++ xs) (reverse-append (w ∷ []) ws) ∙ append_assoc (reverse ws) (w ∷ []) xs

-- ---- the groups that wait

-- n groups below those that wait
abbrev behind : List Entry → ℕ → ℕ
behind [] n = n
behind (w ∷ ws) n = suc (behind ws n)

abbrev ArePushes : List Entry → Type 0
ArePushes [] = Unit {0}
ArePushes (entry.Primitive p ∷ ws) = ⊥
ArePushes (entry.Push o m clips ∷ ws) = ArePushes ws
ArePushes (entry.Pop ∷ ws) = ⊥

-- of bytes
abbrev AreWaiting : List Entry → Type 0
AreWaiting [] = Unit {0}
AreWaiting (entry.Primitive p ∷ ws) = ⊥
AreWaiting (entry.Push o m clips ∷ ws) = (o < 2 ^ 8) × AreWaiting ws
AreWaiting (entry.Pop ∷ ws) = ⊥

-- ---- values

module _ (store : StoreModel) (x y : ℤ) (h : IsStore store) where
  -- the stack after those that wait
  abbrev opened : List Entry → Stack → Stack
  opened [] s = s
  opened (w ∷ ws) s = step store x y w (opened ws s)

  waiting_run : (ws es : List Entry) (s : Stack) → run store x y (reverse ws ++ es) s ≡ run store x y es (opened ws s)
  waiting_run [] es s = refl
  waiting_run (w ∷ ws) es s = ap (λ (l : List Entry). run store x y l s) (reverse_cons w ws es) ∙ waiting_run ws (w ∷ es) s

  step_stack : (e : Entry) (s : Stack) → IsEntry e → IsStack s → IsStack (step store x y e s)
  step_stack e s i k = run_keeps_pixels store x y (e ∷ []) s h (All-cons IsEntry e [] i (All-nil IsEntry)) k

  opened_stack : (ws : List Entry) (s : Stack) → AreWaiting ws → IsStack s → IsStack (opened ws s)
  opened_stack [] s w k = k
  opened_stack (entry.Primitive p ∷ ws) s w k = absurd w
  opened_stack (entry.Push o m clips ∷ ws) s w k = step_stack (entry.Push o m clips) (opened ws s) w.0 (opened_stack ws s w.1 k)
  opened_stack (entry.Pop ∷ ws) s w k = absurd w

  -- a group in which nothing stands leaves the stack
  empty_group : (o : ℕ) (m : _) (clips : _) (s : Stack) → o < 2 ^ 8 → IsPixel s.top → step store x y entry.Pop (step store x y (entry.Push o m clips) s) ≡ s
  empty_group o m clips s i k =
      hidden_list_leaves_stack store x y (entry.Push o m clips ∷ entry.Pop ∷ []) s h
      (All-cons IsEntry (entry.Push o m clips) (entry.Pop ∷ []) i (All-cons IsEntry entry.Pop [] tt (All-nil IsEntry))) k refl
      (All-cons (IsHidden x y) (entry.Push o m clips) (entry.Pop ∷ []) tt (All-cons (IsHidden x y) entry.Pop [] tt (All-nil (IsHidden x y))))

  module _ (hits : PrimitiveModel → Bool) (beside : (p : PrimitiveModel) → hits p ≡ false → holds (visible_rect p) x y ≡ false) where
    primitive_picked : (p : PrimitiveModel) (es ws : List Entry) (s : Stack) (t : Bool) → hits p ≡ t → IsPrimitive p → IsStack (opened ws s)
        → run store x y (pick hits [] es) (step store x y (entry.Primitive p) (opened ws s)) ≡ run store x y es (step store x y (entry.Primitive p) (opened ws s))
        → run store x y (pick hits ws es) s ≡ run store x y es (opened ws s)
        → run store x y (if t then reverse ws ++ (entry.Primitive p ∷ pick hits [] es) else pick hits ws es) s ≡ run store x y es (step store x y (entry.Primitive p) (opened ws s))
    primitive_picked p es ws s true e i k left out = waiting_run ws (entry.Primitive p ∷ pick hits [] es) s ∙ left
    primitive_picked p es ws s false e i k left out =
        out ∙ ap (run store x y es) (sym (hidden_leaves_stack store x y p (opened ws s) h i k.top (beside p e)))

    pick_run : (es ws : List Entry) (n : ℕ) (s : Stack) → balanced (behind ws n) es ≡ true → All IsEntry es → AreWaiting ws → IsStack s
        → run store x y (pick hits ws es) s ≡ run store x y es (opened ws s)
    pick_run [] [] n s b a w k = refl
    pick_run [] (v ∷ ws) n s b a w k = absurd (true≢false (sym b))
    pick_run (entry.Primitive p ∷ es) ws n s b a w k =
        let i = All-head IsEntry (entry.Primitive p) es a in
        let j = opened_stack ws s w k in
        primitive_picked p es ws s (hits p) refl i j
        (pick_run es [] (behind ws n) (step store x y (entry.Primitive p) (opened ws s)) b (All-tail IsEntry (entry.Primitive p) es a) tt (step_stack (entry.Primitive p) (opened ws s) i j))
        (pick_run es ws n s b (All-tail IsEntry (entry.Primitive p) es a) w k)
    pick_run (entry.Push o m clips ∷ es) ws n s b a w k =
        pick_run es (entry.Push o m clips ∷ ws) n s b (All-tail IsEntry (entry.Push o m clips) es a) (All-head IsEntry (entry.Push o m clips) es a, w) k
    pick_run (entry.Pop ∷ es) [] zero s b a w k = absurd (true≢false (sym b))
    pick_run (entry.Pop ∷ es) [] (suc n) s b a w k =
        pick_run es [] n (step store x y entry.Pop s) b (All-tail IsEntry entry.Pop es a) tt (step_stack entry.Pop s tt k)
    pick_run (entry.Pop ∷ es) (entry.Primitive p ∷ ws) n s b a w k = absurd w
    pick_run (entry.Pop ∷ es) (entry.Push o m clips ∷ ws) n s b a w k =
        pick_run es ws n s b (All-tail IsEntry entry.Pop es a) w.1 k
        ∙ ap (run store x y es) (sym (empty_group o m clips (opened ws s) w.0 (opened_stack ws s w.1 k).top))
    pick_run (entry.Pop ∷ es) (entry.Pop ∷ ws) n s b a w k = absurd w

empty_is_stack : IsStack empty_stack
empty_is_stack = record { top = clear_is_pixel; groups = All-nil IsGroup }

-- what a rectangle doesn't meet isn't visible at its points
missed : (rect b : Bounds) (x y : ℤ) → holds rect x y ≡ true → meets rect b ≡ false → holds b x y ≡ false
missed rect b x y k m = by_test (holds b x y) refl
  where
    by_test : (t : Bool) → holds b x y ≡ t → t ≡ false
    by_test true e = absurd (true≢false (sym ((meets_points rect b).1 (x, y, k, e)) ∙ m))
    by_test false e = refl

pub picked_has_values : PickedHasValues
picked_has_values store es rect x y h a b k =
    ap (λ (s : Stack). s.top) (pick_run store x y h (shows_in rect) (λ p m. missed rect (visible_rect p) x y k m) es [] 0 empty_stack b a tt empty_is_stack)

-- ---- balance and depth

module _ (hits : PrimitiveModel → Bool) where
  waiting_balanced : (ws xs : List Entry) (n : ℕ) → ArePushes ws → balanced n (reverse ws ++ xs) ≡ balanced (behind ws n) xs
  waiting_balanced [] xs n w = refl
  waiting_balanced (entry.Primitive p ∷ ws) xs n w = absurd w
  waiting_balanced (entry.Push o m clips ∷ ws) xs n w = ap (balanced n) (reverse_cons (entry.Push o m clips) ws xs) ∙ waiting_balanced ws (entry.Push o m clips ∷ xs) n w
  waiting_balanced (entry.Pop ∷ ws) xs n w = absurd w

  primitive_balanced : (p : PrimitiveModel) (es ws : List Entry) (n : ℕ) (t : Bool) → ArePushes ws
      → balanced (behind ws n) (pick hits [] es) ≡ true → balanced n (pick hits ws es) ≡ true
      → balanced n (if t then reverse ws ++ (entry.Primitive p ∷ pick hits [] es) else pick hits ws es) ≡ true
  primitive_balanced p es ws n true w left out = waiting_balanced ws (entry.Primitive p ∷ pick hits [] es) n w ∙ left
  primitive_balanced p es ws n false w left out = out

  pick_balanced : (es ws : List Entry) (n : ℕ) → ArePushes ws → balanced (behind ws n) es ≡ true → balanced n (pick hits ws es) ≡ true
  pick_balanced [] [] n w b = b
  pick_balanced [] (v ∷ ws) n w b = absurd (true≢false (sym b))
  pick_balanced (entry.Primitive p ∷ es) ws n w b = primitive_balanced p es ws n (hits p) w (pick_balanced es [] (behind ws n) tt b) (pick_balanced es ws n w b)
  pick_balanced (entry.Push o m clips ∷ es) ws n w b = pick_balanced es (entry.Push o m clips ∷ ws) n w b
  pick_balanced (entry.Pop ∷ es) [] zero w b = absurd (true≢false (sym b))
  pick_balanced (entry.Pop ∷ es) [] (suc n) w b = pick_balanced es [] n tt b
  pick_balanced (entry.Pop ∷ es) (entry.Primitive p ∷ ws) n w b = absurd w
  pick_balanced (entry.Pop ∷ es) (entry.Push o m clips ∷ ws) n w b = pick_balanced es ws n w b
  pick_balanced (entry.Pop ∷ es) (entry.Pop ∷ ws) n w b = absurd w

  behind_more : (ws : List Entry) (n : ℕ) → behind ws (suc n) ≡ suc (behind ws n)
  behind_more [] n = refl
  behind_more (w ∷ ws) n = ap suc (behind_more ws n)

  waiting_shallow : (ws xs : List Entry) (room : ℕ) → ArePushes ws → is_shallow (behind ws room) (reverse ws ++ xs) ≡ is_shallow room xs
  waiting_shallow [] xs room w = refl
  waiting_shallow (entry.Primitive p ∷ ws) xs room w = absurd w
  waiting_shallow (entry.Push o m clips ∷ ws) xs room w =
      ap (is_shallow (suc (behind ws room))) (reverse_cons (entry.Push o m clips) ws xs)
      ∙ ap (λ (n : ℕ). is_shallow n (reverse ws ++ (entry.Push o m clips ∷ xs))) (sym (behind_more ws room))
      ∙ waiting_shallow ws (entry.Push o m clips ∷ xs) (suc room) w
  waiting_shallow (entry.Pop ∷ ws) xs room w = absurd w

  primitive_shallow : (p : PrimitiveModel) (es ws : List Entry) (room : ℕ) (t : Bool) → ArePushes ws
      → is_shallow room (pick hits [] es) ≡ true → is_shallow (behind ws room) (pick hits ws es) ≡ true
      → is_shallow (behind ws room) (if t then reverse ws ++ (entry.Primitive p ∷ pick hits [] es) else pick hits ws es) ≡ true
  primitive_shallow p es ws room true w left out = waiting_shallow ws (entry.Primitive p ∷ pick hits [] es) room w ∙ left
  primitive_shallow p es ws room false w left out = out

  pick_shallow : (es ws : List Entry) (room : ℕ) → ArePushes ws → is_shallow room es ≡ true → is_shallow (behind ws room) (pick hits ws es) ≡ true
  pick_shallow [] ws room w b = refl
  pick_shallow (entry.Primitive p ∷ es) ws room w b = primitive_shallow p es ws room (hits p) w (pick_shallow es [] room tt b) (pick_shallow es ws room w b)
  pick_shallow (entry.Push o m clips ∷ es) ws zero w b = absurd (true≢false (sym b))
  pick_shallow (entry.Push o m clips ∷ es) ws (suc room) w b =
      ap (λ (n : ℕ). is_shallow n (pick hits (entry.Push o m clips ∷ ws) es)) (behind_more ws room) ∙ pick_shallow es (entry.Push o m clips ∷ ws) room w b
  pick_shallow (entry.Pop ∷ es) [] room w b = pick_shallow es [] (suc room) tt b
  pick_shallow (entry.Pop ∷ es) (entry.Primitive p ∷ ws) room w b = absurd w
  pick_shallow (entry.Pop ∷ es) (entry.Push o m clips ∷ ws) room w b =
      ap (λ (n : ℕ). is_shallow n (pick hits ws es)) (sym (behind_more ws room)) ∙ pick_shallow es ws (suc room) w b
  pick_shallow (entry.Pop ∷ es) (entry.Pop ∷ ws) room w b = absurd w

pub picked_is_balanced : PickedIsBalanced
picked_is_balanced rect es b = pick_balanced (shows_in rect) es [] 0 tt b

pub picked_is_shallow : PickedIsShallow
picked_is_shallow rect room es b = pick_shallow (shows_in rect) es [] room tt b

-- ---- members

module _ {A : Type 0} (P : A → Type 0) (hits : PrimitiveModel → Bool) where
  all_reversed : (ws xs : List A) → All P ws → All P xs → All P (reverse ws ++ xs)
  all_reversed [] xs h k = k
  all_reversed (w ∷ ws) xs h k =
      subst (All P) (sym (reverse_cons w ws xs)) (all_reversed ws (w ∷ xs) (All-tail P w ws h) (All-cons P w xs (All-head P w ws h) k))

  all_by : (x : A) (ws l r : List A) (t : Bool) → P x → All P ws → All P l → All P r → All P (if t then reverse ws ++ (x ∷ l) else r)
  all_by x ws l r true p h j k = all_reversed ws (x ∷ l) h (All-cons P x l p j)
  all_by x ws l r false p h j k = k

  pub pick_all : (ws : List A) (es : List Entry) (xs : List A) → All P ws → All P xs → All P (picked_after hits ws es xs)
  pick_all ws [] xs h k = All-nil P
  pick_all ws (e ∷ es) [] h k = All-nil P
  pick_all ws (entry.Primitive p ∷ es) (x ∷ xs) h k =
      let tail = All-tail P x xs k in
      all_by x ws (picked_after hits [] es xs) (picked_after hits ws es xs) (hits p) (All-head P x xs k) h (pick_all [] es xs (All-nil P) tail) (pick_all ws es xs h tail)
  pick_all ws (entry.Push o m clips ∷ es) (x ∷ xs) h k = pick_all (x ∷ ws) es xs (All-cons P x ws (All-head P x xs k) h) (All-tail P x xs k)
  pick_all [] (entry.Pop ∷ es) (x ∷ xs) h k = All-cons P x (picked_after hits [] es xs) (All-head P x xs k) (pick_all [] es xs h (All-tail P x xs k))
  pick_all (w ∷ ws) (entry.Pop ∷ es) (x ∷ xs) h k = pick_all ws es xs (All-tail P w ws h) (All-tail P x xs k)

pub picked_are_entries : PickedAreEntries
picked_are_entries rect es = pick_all (Contains es) (shows_in rect) [] es es (All-nil (Contains es)) (All-contains_itself es)

-- ---- what is picked of things is picked of what they stand for

module _ {A B : Type 0} (f : A → B) (hits : PrimitiveModel → Bool) where
  map_reversed : (ws xs : List A) → map f (reverse ws ++ xs) ≡ reverse (map f ws) ++ map f xs
  map_reversed [] xs = refl
  map_reversed (w ∷ ws) xs = ap (map f) (reverse_cons w ws xs) ∙ map_reversed ws (w ∷ xs) ∙ sym (reverse_cons (f w) (map f ws) (map f xs))

  map_by : (x : A) (ws l r : List A) (m n : List B) (t : Bool) → map f l ≡ m → map f r ≡ n → map f (if t then reverse ws ++ (x ∷ l) else r) ≡ (if t then reverse (map f ws) ++ (f x ∷ m) else n)
  map_by x ws l r m n true e g = map_reversed ws (x ∷ l) ∙ ap (λ (k : List B). reverse (map f ws) ++ (f x ∷ k)) e
  map_by x ws l r m n false e g = g

  pub pick_mapped : (ws : List A) (es : List Entry) (xs : List A) → map f (picked_after hits ws es xs) ≡ picked_after hits (map f ws) es (map f xs)
  pick_mapped ws [] xs = refl
  pick_mapped ws (e ∷ es) [] = refl
  pick_mapped ws (entry.Primitive p ∷ es) (x ∷ xs) = map_by x ws (picked_after hits [] es xs) (picked_after hits ws es xs) _ _ (hits p) (pick_mapped [] es xs) (pick_mapped ws es xs)
  pick_mapped ws (entry.Push o m clips ∷ es) (x ∷ xs) = pick_mapped (x ∷ ws) es xs
  pick_mapped [] (entry.Pop ∷ es) (x ∷ xs) = ap (λ (l : List B). f x ∷ l) (pick_mapped [] es xs)
  pick_mapped (w ∷ ws) (entry.Pop ∷ es) (x ∷ xs) = pick_mapped ws es xs
