use Rattle.std.proofs.Common.{arith, ◌≡◌, ◌<◌, ◌≤◌, ◌+◌, ◌-◌, ℕ, zero, suc, List, [], ◌∷◌, length, drop, get_or, IsTrue, true, subst, sym, ap, ◌∙◌, refl}
use Rattle.std.proofs.lemmas.List.{drop_more, drop_all}
use Rattle.clip_masks.specs.declared.clip.Clip.{Clip}
use Rattle.blend_rules.specs.declared.mode.Mode.{Mode}
use Rattle.primitives.specs.PrimitiveModel.{PrimitiveModel}
use Rattle.primitives.specs.Stacks.{balanced, is_shallow}
use Rattle.primitives.specs.declared.entry.Entry.{Entry}
use Rattle.primitives.specs.declared.entry.Entry.TheVariants as entry
use Rattle.tile_raster_tests.proofs.fits.can_draw.Goals as goal
use Rattle.tile_raster_tests.proofs.fits.can_draw.Goals.{in-Primitive, in-Push+else-opened-eq64, in-Pop+else-opened-eq0}

-- what is left begins with the entry that was read
left_as : (es : List Entry) (i : ℕ) (r e : Entry) → i < length es → r ≡ get_or es i r → r ≡ e → drop i es ≡ e ∷ drop (i + 1) es
left_as es i r e h is same = drop_more es i r h ∙ ap (λ x. x ∷ drop (i + 1) es) (sym is ∙ same)

-- what is asked of the rest is what was asked of all
record Kept (before after room left : ℕ) (es rest : List Entry) : Type 0 where
  balanced : balanced before es ≡ balanced after rest
  shallow : is_shallow room es ≡ is_shallow left rest

primitive_kept : (n room : ℕ) (p : PrimitiveModel) (es : List Entry) → Kept n n room room (entry.Primitive p ∷ es) es
primitive_kept zero zero p es = record { balanced = refl; shallow = refl }
primitive_kept zero (suc room) p es = record { balanced = refl; shallow = refl }
primitive_kept (suc n) zero p es = record { balanced = refl; shallow = refl }
primitive_kept (suc n) (suc room) p es = record { balanced = refl; shallow = refl }

push_kept : (n room : ℕ) (o : ℕ) (m : Mode) (clips : List Clip) (es : List Entry) → Kept n (suc n) (suc room) room (entry.Push o m clips ∷ es) es
push_kept zero room o m clips es = record { balanced = refl; shallow = refl }
push_kept (suc n) room o m clips es = record { balanced = refl; shallow = refl }

pop_kept : (n room : ℕ) (es : List Entry) → Kept (suc n) n room (suc room) (entry.Pop ∷ es) es
pop_kept n zero es = record { balanced = refl; shallow = refl }
pop_kept n (suc room) es = record { balanced = refl; shallow = refl }

through : (n m room left : ℕ) (i : ℕ) (es : List Entry) (e : Entry) → drop i es ≡ e ∷ drop (i + 1) es → Kept n m room left (e ∷ drop (i + 1) es) (drop (i + 1) es)
    → (k : ℕ) (r : ℕ) → k ≡ m → r ≡ left → Kept n k room r (drop i es) (drop (i + 1) es)
through n m room left i es e is kept k r same fits = record {
  balanced = ap (λ l. balanced n l) is ∙ kept.balanced ∙ ap (λ j. balanced j (drop (i + 1) es)) (sym same);
  shallow = ap (λ l. is_shallow room l) is ∙ kept.shallow ∙ ap (λ j. is_shallow j (drop (i + 1) es)) (sym fits);
}

pub entries-preserved : goal.entries-preserved
entries-preserved c =
    let es = c.args.entries.now in
    let i = c.entries.i in
    let before = c.entries.opened in
    let after = c.match-entries-i.opened in
    let kept : (after ≤ 64) × Kept before after (64 - before) (64 - after) (drop i es) (drop (i + 1) es) = elim c.match-entries-i.branch [
      | in-Primitive w ↦ (
        omega (arith, w.opened-is, c.entries.invariant.few),
        through before before (64 - before) (64 - before) i es _ (left_as es i _ _ c.entries-test.true c.index-entries-i.is w.in-Primitive.is) (primitive_kept before (64 - before) _ (drop (i + 1) es)) after (64 - after) (omega (arith, w.opened-is)) (omega (arith, w.opened-is)),
      )
      | in-Push+else-opened-eq64 w ↦ (
        omega (arith, w.opened-is, w.if-opened-eq64.false, c.entries.invariant.few),
        subst (λ (k : ℕ). Kept before after k (64 - after) (drop i es) (drop (i + 1) es)) (let f : suc (64 - after) ≡ 64 - before = omega (arith, w.opened-is, w.if-opened-eq64.false, c.entries.invariant.few) in f)
            (through before (suc before) (suc (64 - after)) (64 - after) i es _ (left_as es i _ _ c.entries-test.true c.index-entries-i.is w.in-Push.is) (push_kept before (64 - after) _ _ _ (drop (i + 1) es)) after (64 - after) (omega (arith, w.opened-is)) (omega arith)),
      )
      | in-Pop+else-opened-eq0 w ↦ (
        omega (arith, w.opened-is, c.entries.invariant.few),
        subst (λ (k : ℕ). Kept k after (64 - before) (64 - after) (drop i es) (drop (i + 1) es)) (let f : suc after ≡ before = omega (arith, w.opened-is, w.if-opened-eq0.false) in f)
            (through (suc after) after (64 - before) (suc (64 - before)) i es _ (left_as es i _ _ c.entries-test.true c.index-entries-i.is w.in-Pop.is) (pop_kept after (64 - before) (drop (i + 1) es)) after (64 - after) (omega arith) (omega (arith, w.opened-is, w.if-opened-eq0.false, c.entries.invariant.few))),
      )
    ] in
    record {
      right = omega (arith, c.entries-test.true);
      few = kept.0;
      balanced = λ t. c.entries.invariant.balanced (subst IsTrue (sym kept.1.balanced) t);
      shallow = λ t. c.entries.invariant.shallow (subst IsTrue (sym kept.1.shallow) t);
    }
