use Rattle.std.proofs.Common.{◌≡◌, ◌+◌, ◌-◌, ◌^◌, min, rules, sym, ap, ◌∙◌, arith}
use Rattle.std.proofs.lemmas.List.Sums.{sum_by_push}
use Rattle.std.proofs.lemmas.Map.Iter.{iter_end}
use Rattle.std.specs.FinMap as map
use Rattle.std.specs.List.{sum_by}
use Rattle.std.specs.Map.Iter.{deref_pair}
use Rattle.std.proofs.Common as common
use Rattle.image_store.specs.Models.{mask_area}
use Rattle.image_store.specs.StoreModel.{sum_of}
use Rattle.image_store.proofs.Sums.{sum_read, capped}
use Rattle.image_store.proofs.groups.area_of_masks.Goals as goal

pub loop-masks-preserved : goal.loop-masks-preserved
loop-masks-preserved c =
    let p = sum_by_push (λ y. sum_of mask_area y.1.now) c.loop-masks.yielded (c.in-Some.field-0-0, c.in-Some.masks) in
    capped _ _ _ _ _ (c.saturating_add-area.ensures) c.loop-masks.invariant c.area.ensures p

pub returns : goal.returns
returns c =
    let e : common.map deref_pair c.loop-masks.yielded ≡ map.entries c.args.fonts.now = search (rules, iter_end, c.iter-masks-items.ensures.entries) in
    c.loop-masks.invariant ∙ ap (min (2 ^ 64 - 1)) (sum_read (sum_of mask_area) c.loop-masks.yielded ∙ ap (sum_by (λ e. sum_of mask_area e.1)) e)
