use Rattle.std.proofs.Common.{◌≡◌, Some, sym, ap, ◌∙◌}
use Rattle.std.specs.Option.{option_copied_mut}
use Rattle.std.specs.FinMap as map
use Rattle.image_store.specs.StoreModel.{or_empty}
use Rattle.image_store.proofs.Lookups.{at_some, on_err}
use Rattle.image_store.proofs.Maps.{insert_same}
use Rattle.image_store.proofs.PairOrderLaws.{pair_cmp_total, pair_cmp-IsAntisymmetric}
use Rattle.image_store.proofs.groups.put_mask.Goals as goal

pub returns-in_err-insert-in-Some-clause-err : goal.returns-in_err-insert-in-Some-clause-err
returns-in_err-insert-in-Some-clause-err c =
    let all = c.args.fonts.now in
    let lent : c.get_mut.follows.lender c.insert.new.self ≡ map.insert all c.args.font c.insert.new.self = at_some _ _ c.in-Some.is (c.get_mut.follows.holds c.insert.new.self) in
    let there : map.get all c.args.font ≡ Some c.in-Some.masks.now = sym (ap option_copied_mut (sym c.in-Some.is) ∙ c.get_mut.ensures.value) in
    on_err c.from_residual.result (lent ∙ ap (map.insert all c.args.font) c.in_err-insert-in-Some.ensures.err ∙ insert_same pair_cmp_total pair_cmp-IsAntisymmetric all c.args.font c.in-Some.masks.now there)

pub returns-in_ok-insert-in-Some-clause-ok : goal.returns-in_ok-insert-in-Some-clause-ok
returns-in_ok-insert-in-Some-clause-ok c =
    let all = c.args.fonts.now in
    let lent : c.get_mut.follows.lender c.insert.new.self ≡ map.insert all c.args.font c.insert.new.self = at_some _ _ c.in-Some.is (c.get_mut.follows.holds c.insert.new.self) in
    let there : Some c.in-Some.masks.now ≡ map.get all c.args.font = ap option_copied_mut (sym c.in-Some.is) ∙ c.get_mut.ensures.value in
    lent ∙ ap (map.insert all c.args.font) (c.in_ok-insert-in-Some.ensures.ok ∙ ap (λ o. map.insert (or_empty o) c.args.glyph c.args.mask) there)
