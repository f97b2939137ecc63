-- One entry more, and all of them.
use Rattle.std.proofs.Common.{◌≡◌, inl, inr, ℕ, zero, suc, ◌+◌, ◌*◌, ◌<◌, ◌≤◌, Bool, List, [], ◌∷◌, ◌++◌, length, get_or, replicate, drop, reverse, IsTrue, true≢false, refl, sym, ap, ◌∙◌, subst, arith, append-nil}
use Rattle.std.proofs.lemmas.List.{length_push, length-replicate}
use Rattle.primitives.specs.PrimitiveModel.{PrimitiveModel}
use Rattle.primitives.specs.Stacks.{balanced}
use Rattle.primitives.specs.declared.entry.Entry.{Entry}
use Rattle.primitives.specs.declared.entry.Entry.TheVariants as entry
use Rattle.tile_records.specs.declared.tiles.Tiles.{Tiles}
use Rattle.tile_records.specs.Picks.{picked_after, shows_in}
use Rattle.tile_records.specs.Tiles.{columns_of, rows_of, rect_at}
use Rattle.tile_records.specs.Passing.{TileState, State, Takes, IsFresh, HasPassed, promised, closed, tile_of}
use Rattle.tile_records.proofs.Changed.{push_step, draw_step, pop_there, pop_waiting}
use Rattle.tile_records.proofs.Enters.{at_or}
use Rattle.tile_records.proofs.Leavings.{close_there, close_not}

pub pop_open : (m : ℕ) (es : List Entry) → IsTrue (balanced m (entry.Pop ∷ es)) → 0 < m
pop_open zero es h = absurd (true≢false (sym h))
pop_open (suc m) es h = omega arith

pop_step : (hits : PrimitiveModel → Bool) (os : List ℕ) (o : ℕ) (t : TileState) (es : List Entry) (x : ℕ) (xs : List ℕ) (d : ℕ) → d ≡ length os + 1 → t.depth ≤ d
    → promised hits (os ++ (o ∷ [])) t (entry.Pop ∷ es) (x ∷ xs) ≡ promised hits os (closed d x t) es xs
pop_step hits os o t es x xs d e h = elim (at_or t.depth d) [
  | inl i ↦ pop_there hits os es x xs o t.list t.depth (i ∙ e) ∙ sym (ap (λ (u : TileState). promised hits os u es xs) (close_there d x t i))
  | inr i ↦ pop_waiting hits os es x xs o t.list t.depth (omega (arith, i, h, e)) ∙ sym (ap (λ (u : TileState). promised hits os u es xs) (close_not d x t i))
]

-- the same groups and the same tile
same_promise : (hits : PrimitiveModel → Bool) (os ps : List ℕ) (t u : TileState) (es : List Entry) (xs : List ℕ) → os ≡ ps → t ≡ u → promised hits os t es xs ≡ promised hits ps u es xs
same_promise hits os ps t u es xs e f = ap (λ (g : List ℕ). promised hits g t es xs) e ∙ ap (λ (v : TileState). promised hits ps v es xs) f

module _ (over : Tiles) (all : List Entry) (ids : List ℕ) where
  abbrev hits : ℕ → ℕ → PrimitiveModel → Bool
  hits c r = shows_in (rect_at over c r)

  pub pass_step : (e : Entry) (es : List Entry) (x : ℕ) (xs : List ℕ) (old new : State) → HasPassed over (e ∷ es) all (x ∷ xs) ids old → Takes over e x old new → HasPassed over es all xs ids new
  pass_step (entry.Primitive p) es x xs old new q t = record {
    sound = t.sound;
    sides = t.sides ∙ q.sides;
    rest = subst (λ (g : List ℕ). IsTrue (balanced (length g) es)) (sym t.groups) q.rest;
    told = λ c r h k.
        same_promise (hits c r) new.groups old.groups _ _ es xs t.groups (t.tiles c r h k)
        ∙ sym (draw_step (hits c r) old.groups es x xs (tile_of old (r * columns_of over + c)) p) ∙ q.told c r h k;
  }
  pass_step (entry.Push o m clips) es x xs old new q t = record {
    sound = t.sound;
    sides = t.sides ∙ q.sides;
    rest =
        let l : length new.groups ≡ suc (length old.groups) = (let i = ap length t.groups ∙ length_push old.groups x in omega (arith, i)) in
        subst (λ (n : ℕ). IsTrue (balanced n es)) (sym l) q.rest;
    told = λ c r h k.
        same_promise (hits c r) new.groups (old.groups ++ (x ∷ [])) _ _ es xs t.groups (t.tiles (r * columns_of over + c))
        ∙ sym (push_step (hits c r) old.groups es x xs (tile_of old (r * columns_of over + c)) o m clips (q.sound.below (r * columns_of over + c))) ∙ q.told c r h k;
  }
  pass_step entry.Pop es x xs old new q t =
      let o = t.groups.0 in
      let f = t.groups.1 in
      let i : length old.groups ≡ length new.groups + 1 = ap length f ∙ length_push new.groups o in
      record {
        sound = t.sound;
        sides = t.sides ∙ q.sides;
        rest =
            let l : length old.groups ≡ suc (length new.groups) = omega (arith, i) in
            subst (λ (n : ℕ). IsTrue (balanced n (entry.Pop ∷ es))) l q.rest;
        told = λ c r h k.
            same_promise (hits c r) new.groups new.groups _ _ es xs refl (t.tiles (r * columns_of over + c))
            ∙ sym (pop_step (hits c r) new.groups o (tile_of old (r * columns_of over + c)) es x xs (length old.groups) i (q.sound.below (r * columns_of over + c)))
            ∙ sym (ap (λ (g : List ℕ). promised (hits c r) g (tile_of old (r * columns_of over + c)) (entry.Pop ∷ es) (x ∷ xs)) f)
            ∙ q.told c r h k;
      }

  abbrev none : ℕ
  none = 0

  zero_at : (n k : ℕ) → get_or (replicate n none) k none ≡ none
  zero_at zero k = refl
  zero_at (suc n) zero = refl
  zero_at (suc n) (suc k) = zero_at n k

  abbrev nothing : List ℕ
  nothing = []

  none_at : (n k : ℕ) → get_or (replicate n nothing) k nothing ≡ nothing
  none_at zero k = refl
  none_at (suc n) zero = refl
  none_at (suc n) (suc k) = none_at n k

  pub pass_start : (s : State) → IsTrue (balanced 0 all) → IsFresh (rows_of over * columns_of over) s → HasPassed over all all ids ids s
  pass_start s b f =
      let n = rows_of over * columns_of over in
      let entered : (k : ℕ) → get_or s.entered k 0 ≡ 0 = (λ k. ap (λ (l : List ℕ). get_or l k 0) f.entered ∙ zero_at n k) in
      record {
        sound = record {
          sides = ap length f.entered ∙ length-replicate n 0 ∙ sym (ap length f.lists ∙ length-replicate n []);
          depths = ap length f.reached ∙ sym (ap length f.groups);
          below = λ k. let e = entered k in omega (arith, e);
          known = λ k i h. let e = entered k in let bad : ⊥ = omega (arith, e, h) in absurd bad;
        };
        sides = ap length f.lists ∙ length-replicate n [];
        rest = subst (λ (g : List ℕ). IsTrue (balanced (length g) all)) (sym f.groups) b;
        told = λ c r h k.
            ap (λ (g : List ℕ). promised (hits c r) g (tile_of s (r * columns_of over + c)) all ids) f.groups
            ∙ ap (λ (l : List ℕ). l ++ picked_after (hits c r) (reverse (drop (get_or s.entered (r * columns_of over + c) 0) [])) all ids) (ap (λ (ls : List (List ℕ)). get_or ls (r * columns_of over + c) []) f.lists ∙ none_at n (r * columns_of over + c))
            ∙ ap (λ (m : ℕ). picked_after (hits c r) (reverse (drop m [])) all ids) (entered (r * columns_of over + c));
      }

  pub pass_end : (xs : List ℕ) (s : State) → HasPassed over [] all xs ids s
      → (c r : ℕ) → c < columns_of over → r < rows_of over → get_or s.lists (r * columns_of over + c) [] ≡ picked_after (hits c r) [] all ids
  pass_end xs s p c r h k = sym (append-nil (get_or s.lists (r * columns_of over + c) [])) ∙ p.told c r h k
