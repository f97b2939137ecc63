-- Levels of entries: positions, their neighbours, and where groups end.
use Rattle.std.proofs.Common.{◌≡◌, ℕ, zero, suc, ◌+◌, ◌-◌, ◌<◌, ◌≤◌, true, List, [], ◌∷◌, length, drop, get_or, inl, inr, refl, sym, ap, subst, ◌∙◌, arith, true≢false}
use Rattle.std.proofs.Math.Seq.{drop-cons}
use Rattle.std.proofs.lemmas.Bool.{cases_lt}
use Rattle.std.proofs.lemmas.List.{drop-drop}
use Rattle.blend_rules.specs.declared.mode.Mode.{Mode}
use Rattle.clip_masks.specs.declared.clip.Clip.{Clip}
use Rattle.primitives.specs.PrimitiveModel.{PrimitiveModel}
use Rattle.primitives.specs.Stacks.{balanced, is_shallow}
use Rattle.primitives.specs.declared.entry.Entry.{Entry}
use Rattle.primitives.specs.declared.entry.Entry.TheVariants as entry
use Rattle.tile_raster.specs.Levels.{IsAt, StaysWithin, IsBelow, IsGroupEnd}

-- a list ends so many groups and no other number
pub balanced_once : (es : List Entry) (n m : ℕ) → balanced n es ≡ true → balanced m es ≡ true → n ≡ m
balanced_once [] zero zero h k = refl
balanced_once [] zero (suc m) h k = absurd (true≢false (sym k))
balanced_once [] (suc n) m h k = absurd (true≢false (sym h))
balanced_once (entry.Primitive q ∷ es) n m h k = balanced_once es n m h k
balanced_once (entry.Push o b c ∷ es) n m h k = omega (arith, balanced_once es (suc n) (suc m) h k)
balanced_once (entry.Pop ∷ es) zero m h k = absurd (true≢false (sym h))
balanced_once (entry.Pop ∷ es) (suc n) zero h k = absurd (true≢false (sym k))
balanced_once (entry.Pop ∷ es) (suc n) (suc m) h k = ap suc (balanced_once es n m h k)

-- each position has a level
pub level_of : (i : ℕ) (es : List Entry) (n : ℕ) → balanced n es ≡ true → (m : ℕ) × IsAt es m i
level_of zero es n h = (n, h)
level_of (suc i) [] n h = (n, h)
level_of (suc i) (entry.Primitive q ∷ es) n h = level_of i es n h
level_of (suc i) (entry.Push o b c ∷ es) n h = level_of i es (suc n) h
level_of (suc i) (entry.Pop ∷ es) zero h = absurd (true≢false (sym h))
level_of (suc i) (entry.Pop ∷ es) (suc n) h = level_of i es n h

-- where no Push opens one group too many, at no position are more open than that
shallow_from : (es : List Entry) (n room i m : ℕ) → balanced n es ≡ true → is_shallow room es ≡ true → IsAt es m i → m ≤ n + room
shallow_from es n room zero m b s at = omega (arith, balanced_once es n m b at)
shallow_from [] n room (suc i) m b s at = omega (arith, balanced_once [] n m b at)
shallow_from (entry.Primitive q ∷ es) n room (suc i) m b s at = shallow_from es n room i m b s at
shallow_from (entry.Push o d c ∷ es) n zero (suc i) m b s at = absurd (true≢false (sym s))
shallow_from (entry.Push o d c ∷ es) n (suc room) (suc i) m b s at = omega (arith, shallow_from es (suc n) room i m b s at)
shallow_from (entry.Pop ∷ es) zero room (suc i) m b s at = absurd (true≢false (sym b))
shallow_from (entry.Pop ∷ es) (suc n) room (suc i) m b s at = omega (arith, shallow_from es n (suc room) i m b s at)

pub shallow_below : (es : List Entry) (room : ℕ) → balanced 0 es ≡ true → is_shallow room es ≡ true → IsBelow es (room + 1)
shallow_below es room b s i n at = omega (arith, shallow_from es 0 room i n b s at)

-- ---- what stands at a position

pub plus_one : (i : ℕ) → suc i ≡ i + 1
plus_one i = omega arith

-- the list from a position on, by what stands there
dropped : (es : List Entry) (i : ℕ) (e : Entry) → i < length es → e ≡ get_or es i e → drop i es ≡ e ∷ drop (i + 1) es
dropped es i e h is =
    drop-cons es i e h ∙ ap (λ (z : Entry). z ∷ drop (suc i) es) (sym is) ∙ ap (λ (n : ℕ). e ∷ drop n es) (plus_one i)

pub dropped_as : (es : List Entry) (i : ℕ) (r e : Entry) → i < length es → r ≡ get_or es i r → r ≡ e → drop i es ≡ e ∷ drop (i + 1) es
dropped_as es i r e h is same = dropped es i r h is ∙ ap (λ (z : Entry). z ∷ drop (i + 1) es) same

-- a level by another number
pub same_level : (es : List Entry) (n m i : ℕ) → n ≡ m → IsAt es n i → IsAt es m i
same_level es n m i e h = subst (λ (k : ℕ). IsAt es k i) e h

-- a position's level and another have one number
pub one_level : (es : List Entry) (n m i : ℕ) → IsAt es n i → IsAt es m i → n ≡ m
one_level es n m i h k = balanced_once (drop i es) n m h k

-- a primitive's position and the next have one level
pub after_primitive : (es : List Entry) (n i : ℕ) (q : PrimitiveModel) → drop i es ≡ entry.Primitive q ∷ drop (i + 1) es → IsAt es n i → IsAt es n (i + 1)
after_primitive es n i q d h = sym (ap (balanced n) d) ∙ h

pub before_primitive : (es : List Entry) (n i : ℕ) (q : PrimitiveModel) → drop i es ≡ entry.Primitive q ∷ drop (i + 1) es → IsAt es n (i + 1) → IsAt es n i
before_primitive es n i q d h = ap (balanced n) d ∙ h

pub after_push : (es : List Entry) (n i o : ℕ) (b : Mode) (c : List Clip) → drop i es ≡ entry.Push o b c ∷ drop (i + 1) es → IsAt es n i → IsAt es (suc n) (i + 1)
after_push es n i o b c d h = sym (ap (balanced n) d) ∙ h

pub before_push : (es : List Entry) (n i o : ℕ) (b : Mode) (c : List Clip) → drop i es ≡ entry.Push o b c ∷ drop (i + 1) es → IsAt es (suc n) (i + 1) → IsAt es n i
before_push es n i o b c d h = ap (balanced n) d ∙ h

pub after_pop : (es : List Entry) (n i : ℕ) → drop i es ≡ entry.Pop ∷ drop (i + 1) es → IsAt es (suc n) i → IsAt es n (i + 1)
after_pop es n i d h = sym (ap (balanced (suc n)) d) ∙ h

pub before_pop : (es : List Entry) (n i : ℕ) → drop i es ≡ entry.Pop ∷ drop (i + 1) es → IsAt es n (i + 1) → IsAt es (suc n) i
before_pop es n i d h = ap (balanced (suc n)) d ∙ h

-- before a Pop some group is open
pub no_pop : (es : List Entry) (i : ℕ) → drop i es ≡ entry.Pop ∷ drop (i + 1) es → IsAt es 0 i → ⊥
no_pop es i d h = true≢false (sym h ∙ ap (balanced 0) d)

pub level_by_push : (es : List Entry) (n m i o : ℕ) (b : Mode) (c : List Clip) → drop i es ≡ entry.Push o b c ∷ drop (i + 1) es → IsAt es m i → IsAt es n (i + 1) → suc m ≡ n
level_by_push es n m i o b c d h k = balanced_once (drop (i + 1) es) (suc m) n (after_push es m i o b c d h) k

-- a level's positions and one more
pub stays_more : (es : List Entry) (depth from i n : ℕ) → StaysWithin es depth from i → IsAt es n (i + 1) → depth ≤ n → StaysWithin es depth from (i + 1)
stays_more es depth from i n h k l j m a b at = elim (cases_lt j (i + 1)) [
  | inl less ↦ h j m a (omega arith) at
  | inr more ↦ omega (arith, l, balanced_once (drop (i + 1) es) n m k (subst (λ (u : ℕ). IsAt es m u) (omega arith) at))
]

pub stays_here : (es : List Entry) (depth from : ℕ) → IsAt es depth from → StaysWithin es depth from from
stays_here es depth from h j m a b at = omega (arith, balanced_once (drop from es) depth m h (subst (λ (u : ℕ). IsAt es m u) (omega arith) at))

-- and one more before them
pub stays_less : (es : List Entry) (depth i to n : ℕ) → StaysWithin es depth (i + 1) to → IsAt es n i → depth ≤ n → StaysWithin es depth i to
stays_less es depth i to n h k l j m a b at = elim (cases_lt i j) [
  | inl more ↦ h j m (omega (arith, more)) b at
  | inr same ↦ omega (arith, l, one_level es n m i k (subst (λ (u : ℕ). IsAt es m u) (omega (arith, same, a)) at))
]

-- ---- positions between

pub drop_between : (es : List Entry) (from i : ℕ) → from ≤ i → drop (i - from) (drop from es) ≡ drop i es
drop_between es from i h = drop-drop (i - from) from es ∙ ap (λ (n : ℕ). drop n es) (omega (arith, h))

-- each position from one of a level on has a level
pub level_between : (es : List Entry) (depth from i : ℕ) → from ≤ i → IsAt es depth from → (m : ℕ) × IsAt es m i
level_between es depth from i h a =
    let r = level_of (i - from) (drop from es) depth a in
    (r.0, ap (balanced r.0) (sym (drop_between es from i h)) ∙ r.1)

-- after a group its level goes on
pub after_group : (es : List Entry) (depth i j : ℕ) → IsGroupEnd es depth i j → IsAt es depth (j + 1)
after_group es depth i j h = after_pop es depth j h.pop (same_level es (depth + 1) (suc depth) j (omega arith) h.place)
