use Rattle.std.proofs.Common.{◌≡◌, Some, None, sym, ap, ◌∙◌}
use Rattle.std.specs.Option.{option_copied_mut}
use Rattle.std.specs.Cmp.{nat_cmp_total}
use Rattle.std.specs.Ordering.{nat_cmp}
use Rattle.std.specs.FinMap as map
use Rattle.image_store.specs.Models.{ImageModel}
use Rattle.image_store.specs.StoreModel.{or_empty, put_group}
use Rattle.image_store.proofs.Lookups.{at_some, empty_group, some_group}
use Rattle.image_store.proofs.Maps.{remove_inserted, remove_none}
use Rattle.image_store.proofs.groups.remove_image.Goals.{in-Some, in-None}
use Rattle.image_store.proofs.groups.remove_image.Goals as goal

pub returns-then-left-eq0 : goal.returns-then-left-eq0
returns-then-left-eq0 c =
    let all = c.args.pipelines.now in
    let p = c.args.pipeline in
    c.remove-then-left-eq0.ensures.removed ∙ elim c.match-get_mut.branch [
      | in-Some w ↦
          let lent : c.get_mut.follows.lender w.remove.new.self ≡ map.insert all p w.remove.new.self = at_some _ _ w.in-Some.is (c.get_mut.follows.holds w.remove.new.self) in
          let there : Some w.in-Some.images.now ≡ map.get all p = ap option_copied_mut (sym w.in-Some.is) ∙ c.get_mut.ensures.value in
          let left : map.len w.remove.new.self ≡ 0 = sym w.len-left.ensures ∙ sym w.left-is ∙ c.if-left-eq0.true in
          ap (λ m. map.remove m p) (w.pipelines-is ∙ lent) ∙ remove_inserted nat_cmp_total map.nat_cmp-IsAntisymmetric all p w.remove.new.self
          ∙ sym (empty_group all p w.remove.new.self left)
          ∙ ap (put_group all p) (w.remove.ensures ∙ ap (λ o. map.remove (or_empty o) c.args.key) there)
      | in-None w ↦
          let gone : map.get all p ≡ None = sym (ap option_copied_mut (sym w.in-None.is) ∙ c.get_mut.ensures.value) in
          let none : map.len (map.remove (map.empty {X = ImageModel} {R = nat_cmp}) c.args.key) ≡ 0 = ap map.len (remove_none nat_cmp_total map.nat_cmp-IsAntisymmetric map.empty c.args.key (map.get-empty nat_cmp c.args.key)) ∙ map.len-empty nat_cmp ImageModel in
          ap (λ m. map.remove m p) (w.pipelines-is ∙ c.get_mut.follows.holds-at-none)
          ∙ sym (empty_group all p (map.remove map.empty c.args.key) none)
          ∙ ap (λ o. put_group all p (map.remove (or_empty o) c.args.key)) (sym gone)
    ]

pub returns-else-left-eq0 : goal.returns-else-left-eq0
returns-else-left-eq0 c =
    let all = c.args.pipelines.now in
    let p = c.args.pipeline in
    elim c.match-get_mut.branch [
      | in-Some w ↦
          let lent : c.get_mut.follows.lender w.remove.new.self ≡ map.insert all p w.remove.new.self = at_some _ _ w.in-Some.is (c.get_mut.follows.holds w.remove.new.self) in
          let there : Some w.in-Some.images.now ≡ map.get all p = ap option_copied_mut (sym w.in-Some.is) ∙ c.get_mut.ensures.value in
          w.pipelines-is ∙ lent
          ∙ sym (some_group all p w.remove.new.self (λ e. c.if-left-eq0.false (w.left-is ∙ w.len-left.ensures ∙ e)))
          ∙ ap (put_group all p) (w.remove.ensures ∙ ap (λ o. map.remove (or_empty o) c.args.key) there)
      | in-None w ↦ absurd (c.if-left-eq0.false w.left-is)
    ]
