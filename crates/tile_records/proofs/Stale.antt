-- Outside of the dirt, nothing is stale.
use Rattle.std.proofs.Common.{◌≡◌, true, false, ◌&&◌, List, ◌++◌, All, sym, subst, ◌∙◌, true≢false}
use Rattle.std.specs.Prelude.{ℤ}
use Rattle.std.proofs.lemmas.List.Elements.{All-weaker, All-append}
use Rattle.wr_geom.specs.Bounds.{Bounds, holds}
use Rattle.image_store.specs.StoreModel.{StoreModel}
use Rattle.primitives.specs.Facts.{IsHidden}
use Rattle.primitives.specs.Stacks.{balanced}
use Rattle.primitives.specs.declared.entry.Entry.{Entry}
use Rattle.primitives.specs.declared.entry.Entry.TheVariants as entry
use Rattle.tile_records.specs.Dirt.{same_entry, middles, dirt}
use Rattle.tile_records.specs.Right.{IsCurrentAt}
use Rattle.tile_records.specs.Laws.{NothingIsStale}
use Rattle.tile_records.proofs.Middles.{all_front, all_back, middles_split, old_hidden, dirt_is_enough}

-- what isn't visible at a point is current there
hidden_current : (store : StoreModel) (x y : ℤ) (e : Entry) → IsHidden x y e → IsCurrentAt store x y e
hidden_current store x y (entry.Primitive p) h = λ k. absurd (true≢false (sym k ∙ h))
hidden_current store x y (entry.Push o m clips) h = tt
hidden_current store x y entry.Pop h = tt

module _ (exact : (a b : Entry) → same_entry a b ≡ true → a ≡ b) where
  old_current : (store : StoreModel) (old new : List Entry) (rect : Bounds) (x y : ℤ) → All (IsCurrentAt store x y) new → holds rect x y ≡ true → holds (dirt old new rect) x y ≡ false
      → All (IsCurrentAt store x y) old
  old_current store old new rect x y h k n =
      let m = middles same_entry old new in
      let s = middles_split same_entry exact old new in
      let all = subst (All (IsCurrentAt store x y)) s.new_is h in
      let hidden = old_hidden m.old m.new rect x y (balanced 0 m.old && balanced 0 m.new) k n in
      subst (All (IsCurrentAt store x y)) (sym s.old_is)
      (All-append (IsCurrentAt store x y) s.front (m.old ++ s.back) (all_front (IsCurrentAt store x y) s.front (m.new ++ s.back) all)
      (All-append (IsCurrentAt store x y) m.old s.back (All-weaker (IsHidden x y) (IsCurrentAt store x y) (hidden_current store x y) m.old hidden)
      (all_back (IsCurrentAt store x y) m.new s.back (all_back (IsCurrentAt store x y) s.front (m.new ++ s.back) all))))

  pub nothing_is_stale : NothingIsStale
  nothing_is_stale store pixel old new rect x y h a c r now k n =
      r x y k (old_current store old new rect x y now k n) ∙ dirt_is_enough exact store old new rect x y h a c k n
