use Rattle.std.proofs.Common.{◌≡◌, ◌+◌, ◌-◌, ◌^◌, min, rules, sym, ap, ◌∙◌, arith}
use Rattle.std.proofs.lemmas.List.Sums.{sum_by_push}
use Rattle.std.proofs.lemmas.Map.Iter.{iter_end}
use Rattle.std.specs.FinMap as map
use Rattle.std.specs.List.{sum_by}
use Rattle.std.specs.Map.Iter.{deref_pair}
use Rattle.std.proofs.Common as common
use Rattle.image_store.specs.Models.{image_area}
use Rattle.image_store.specs.StoreModel.{sum_of}
use Rattle.image_store.proofs.Sums.{sum_read, capped}
use Rattle.image_store.proofs.groups.area_of_images.Goals as goal

pub loop-images-preserved : goal.loop-images-preserved
loop-images-preserved c =
    let p = sum_by_push (λ y. sum_of image_area y.1.now) c.loop-images.yielded (c.in-Some.field-0-0, c.in-Some.images) in
    capped _ _ _ _ _ (c.saturating_add-area.ensures) c.loop-images.invariant c.area.ensures p

pub returns : goal.returns
returns c =
    let e : common.map deref_pair c.loop-images.yielded ≡ map.entries c.args.pipelines.now = search (rules, iter_end, c.iter-images-items.ensures.entries) in
    c.loop-images.invariant ∙ ap (min (2 ^ 64 - 1)) (sum_read (sum_of image_area) c.loop-images.yielded ∙ ap (sum_by (λ e. sum_of image_area e.1)) e)
