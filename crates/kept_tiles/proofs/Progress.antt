-- Work in parts.
use Rattle.std.proofs.Common.{◌≡◌, ◌<◌, ◌≤◌, ◌+◌, ◌^◌, ℕ, Bool, true, false, List, [], ◌∷◌, ◌++◌, length, refl, sym, ap, subst, ◌∙◌, arith}
use Rattle.std.proofs.lemmas.List.{length-append}
use Rattle.tile_store.specs.StoreModel.{opened_after}
use Rattle.image_store.specs.StoreModel.{StoreModel}
use Rattle.tile_grid.specs.declared.tile.TileSides.{TileSides}
use Rattle.kept_tiles.specs.Tiles.{KeptModel, kept_of}
use Rattle.kept_tiles.specs.Work.{Records, Shown, records_of, tile_work, tiles_work, work_at, work_on, IsWorkDone}
use Rattle.kept_tiles.specs.Progress.{IsWithin, KeepsSound}
use Rattle.kept_tiles.specs.Sound.{AreSound}

-- what is left does, from here, what all does from the start
pub record IsUnderway (old now : KeptModel) (all left : List Shown) : Type 0 where
  pub kept : (work_on now left).kept ≡ (work_on old all).kept
  pub opened : opened_after now.store.opened (work_on now left).cost ≡ opened_after old.store.opened (work_on old all).cost
  pub most : now.store.opened + (work_on now left).cost ≤ old.store.opened + (work_on old all).cost
  pub least : old.store.opened ≤ now.store.opened
  pub fits : now.store.opened < 2 ^ 64
  pub room : length now.store.tiles + length left ≤ length old.store.tiles + length all

kept_append : (k : Records) (xs ys : List Shown) → (tiles_work k (xs ++ ys)).kept ≡ (tiles_work (tiles_work k xs).kept ys).kept
kept_append k [] ys = refl
kept_append k (x ∷ xs) ys = kept_append (tile_work k x).kept xs ys

pub cost_append : (k : Records) (xs ys : List Shown) → (tiles_work k (xs ++ ys)).cost ≡ (tiles_work k xs).cost + (tiles_work (tiles_work k xs).kept ys).cost
cost_append k [] ys = omega arith
cost_append k (x ∷ xs) ys = let h = cost_append (tile_work k x).kept xs ys in omega (arith, h)

opened_twice : (n a b : ℕ) → opened_after (opened_after n a) b ≡ opened_after n (a + b)
opened_twice n a b = omega arith

opened_fits : (n a : ℕ) → opened_after n a < 2 ^ 64
opened_fits n a = omega arith

pub opened_most : (n a : ℕ) → opened_after n a ≤ n + a
opened_most n a = omega arith

pub opened_least : (n a : ℕ) → n < 2 ^ 64 → n ≤ opened_after n a
opened_least n a h = omega (arith, h)

opened_none : (n : ℕ) → n < 2 ^ 64 → opened_after n 0 ≡ n
opened_none n h = omega (arith, h)

pub underway_start : (s : KeptModel) (all : List Shown) → s.store.opened < 2 ^ 64 → IsUnderway s s all all
underway_start s all fits = record { kept = refl; opened = refl; most = omega arith; least = omega arith; fits = fits; room = omega arith }

cost_here : (now next : KeptModel) (xs left : List Shown) → IsWorkDone now next (work_on now xs) → (work_on now (xs ++ left)).cost ≡ (work_on now xs).cost + (work_on next left).cost
cost_here now next xs left d = cost_append (records_of (kept_of now)) xs left ∙ ap (λ (k : Records). (work_on now xs).cost + (tiles_work k left).cost) (sym d.kept)

sum_most : (a b n m p q : ℕ) → n ≤ m + a → p ≡ a + b → m + p ≤ q → n + b ≤ q
sum_most a b n m p q h e k = omega (arith, h, e, k)

pub underway_step : (old now next : KeptModel) (all xs left : List Shown) → IsUnderway old now all (xs ++ left) → IsWorkDone now next (work_on now xs) → length next.store.tiles ≤ length now.store.tiles + length xs → IsUnderway old next all left
underway_step old now next all xs left u d l =
    let c = cost_here now next xs left d in
    record {
      kept = ap (λ (k : Records). (tiles_work k left).kept) d.kept ∙ sym (kept_append (records_of (kept_of now)) xs left) ∙ u.kept;
      opened = ap (λ (n : ℕ). opened_after n (work_on next left).cost) d.opened ∙ opened_twice now.store.opened (work_on now xs).cost (work_on next left).cost ∙ ap (opened_after now.store.opened) (sym c) ∙ u.opened;
      most = sum_most (work_on now xs).cost (work_on next left).cost next.store.opened now.store.opened (work_on now (xs ++ left)).cost (old.store.opened + (work_on old all).cost)
          (subst (λ (n : ℕ). n ≤ now.store.opened + (work_on now xs).cost) (sym d.opened) (opened_most now.store.opened (work_on now xs).cost)) c u.most;
      least = let a = u.least in let b = subst (λ (n : ℕ). now.store.opened ≤ n) (sym d.opened) (opened_least now.store.opened (work_on now xs).cost u.fits) in omega (arith, a, b);
      fits = subst (λ (n : ℕ). n < 2 ^ 64) (sym d.opened) (opened_fits now.store.opened (work_on now xs).cost);
      room = let e = length-append xs left in let r = u.room in omega (arith, e, r, l);
    }

pub underway_done : (old now : KeptModel) (all : List Shown) → IsUnderway old now all [] → IsWorkDone old now (work_on old all)
underway_done old now all u = record { kept = u.kept; opened = sym (opened_none now.store.opened u.fits) ∙ u.opened }

-- what was drawn so far, with the cost of what is left, is the cost of all
pub record IsCounting (old now : KeptModel) (all left : List Shown) (drawn : ℕ) : Type 0 where
  pub sum : drawn + (work_on now left).cost ≡ (work_on old all).cost

pub counting_start : (s : KeptModel) (all : List Shown) → IsCounting s s all all 0
counting_start s all = record { sum = omega arith }

pub counting_step : (old now next : KeptModel) (all xs left : List Shown) (drawn more : ℕ) → IsCounting old now all (xs ++ left) drawn → IsWorkDone now next (work_on now xs) → more ≡ drawn + (work_on now xs).cost
    → IsCounting old next all left more
counting_step old now next all xs left drawn more c d e =
    let a = cost_here now next xs left d in
    let b = c.sum in
    record { sum = omega (arith, a, b, e) }

pub counting_done : (old now : KeptModel) (all : List Shown) (drawn : ℕ) → IsCounting old now all [] drawn → drawn ≡ (work_on old all).cost
counting_done old now all drawn c = let a = c.sum in omega (arith, a)

-- where it has come so far, it is within the whole
pub underway_within : (old now : KeptModel) (all left : List Shown) → IsUnderway old now all left → IsWithin old now all
underway_within old now all left u = record {
  least = u.least;
  most = let a = u.most in omega (arith, a);
  more = let a = u.room in omega (arith, a);
}

-- and where a part ended within its own bounds
pub within_step : (old now next : KeptModel) (all xs left : List Shown) → IsUnderway old now all (xs ++ left) → IsWithin now next xs → IsWithin old next all
within_step old now next all xs left u w = record {
  least = let a = u.least in let b = w.least in omega (arith, a, b);
  most = let a = u.most in let b = w.most in let c = cost_append (records_of (kept_of now)) xs left in omega (arith, a, b, c);
  more = let a = u.room in let b = w.more in let c = length-append xs left in omega (arith, a, b, c);
}

-- the work on one tile, as work on a list
pub one_work : (s new : KeptModel) (v : Shown) → IsWorkDone s new (work_at (records_of (kept_of s)) v.key v.rect v.entries) → IsWorkDone s new (work_on s (v ∷ []))
one_work s new v d = record { kept = d.kept; opened = d.opened ∙ ap (opened_after s.store.opened) (omega arith) }

pub one_within : (r : Bool) (s new : KeptModel) (v : Shown) → s.store.opened < 2 ^ 64 → (r ≡ true → IsWorkDone s new (work_on s (v ∷ []))) → (r ≡ false → new.store.opened ≡ s.store.opened)
    → length new.store.tiles ≤ length s.store.tiles + 1 → IsWithin s new (v ∷ [])
one_within true s new v fits done same more =
    let d = done refl in
    record {
      least = subst (λ (n : ℕ). s.store.opened ≤ n) (sym d.opened) (opened_least s.store.opened (work_on s (v ∷ [])).cost fits);
      most = subst (λ (n : ℕ). n ≤ s.store.opened + (work_on s (v ∷ [])).cost) (sym d.opened) (opened_most s.store.opened (work_on s (v ∷ [])).cost);
      more = omega (arith, more);
    }
one_within false s new v fits done same more =
    let e = same refl in
    record { least = omega (arith, e); most = omega (arith, e); more = omega (arith, more) }

pub keeps_itself : (sides : TileSides) (store : StoreModel) (s : KeptModel) → KeepsSound sides store s s
keeps_itself sides store s = record { sound = λ n other is_store is up agrees h k. k }

pub keeps_then : (sides : TileSides) (store : StoreModel) (a b c : KeptModel) → KeepsSound sides store a b → KeepsSound sides store b c → KeepsSound sides store a c
keeps_then sides store a b c f g = record {
  sound = λ n other is_store is up agrees h k.
      g.sound n other is_store is up agrees (f.sound n store is_store is_store up (record { images = λ p q z x y. refl; masks = λ p q r z x y. refl }) h h) (f.sound n other is_store is up agrees h k);
}

-- ---- work that began over the same tiles

module _ (a b : KeptModel) (same : kept_of b ≡ kept_of a) (stored : b.store ≡ a.store) where
  pub started_work : (new : KeptModel) (xs ys : List Shown) → xs ≡ ys → IsWorkDone b new (work_on b xs) → IsWorkDone a new (work_on a ys)
  started_work new xs ys e d = record {
    kept = d.kept ∙ ap (λ k. (tiles_work (records_of k) xs).kept) same ∙ ap (λ (l : List Shown). (work_on a l).kept) e;
    opened = d.opened ∙ ap (λ s. opened_after s.opened (work_on b xs).cost) stored ∙ ap (λ k. opened_after a.store.opened (tiles_work (records_of k) xs).cost) same
        ∙ ap (λ (l : List Shown). opened_after a.store.opened (work_on a l).cost) e;
  }

  pub started_cost : (xs ys : List Shown) → xs ≡ ys → (work_on b xs).cost ≡ (work_on a ys).cost
  started_cost xs ys e = ap (λ k. (tiles_work (records_of k) xs).cost) same ∙ ap (λ (l : List Shown). (work_on a l).cost) e

  pub started_within : (new : KeptModel) (xs ys : List Shown) → xs ≡ ys → IsWithin b new xs → IsWithin a new ys
  started_within new xs ys e w =
      let cost = started_cost xs ys e in
      let opened = ap (λ s. s.opened) stored in
      let count = ap (λ s. length s.tiles) stored in
      let long = ap (λ (l : List Shown). length l) e in
      let least = w.least in
      let most = w.most in
      let more = w.more in
      record { least = omega (arith, least, opened); most = omega (arith, most, opened, cost); more = omega (arith, more, count, long) }

  pub started_keeps : (sides : TileSides) (store : StoreModel) (new : KeptModel) → KeepsSound sides store b new → KeepsSound sides store a new
  started_keeps sides store new f = record {
    sound = λ n other is_store is up agrees h k. f.sound n other is_store is up agrees (subst (AreSound sides n store) (sym same) h) (subst (AreSound sides n other) (sym same) k);
  }
