use Rattle.std.proofs.Common.{◌++◌, [], ◌∷◌, take, sym, ap, ◌∙◌, arith}
use Rattle.std.proofs.lemmas.List.{take_more}
use Rattle.image_store.specs.Bands.{values}
use Rattle.image_store.proofs.Sharing.{length-values, value_read, values_push}
use Rattle.image_store.proofs.image_data.shared_bands.Goals as goal

pub loop-band-preserved : goal.loop-band-preserved
loop-band-preserved c =
    let l = length-values c.args.bands.now in
    let v = value_read c.args.bands.now c.loop-band.band-index c.band-item.result c.loop-band-test.true c.band-item.is in
    let k = c.in_ok-clone.ensures.cases in
    let t = take_more (values c.args.bands.now) c.loop-band.band-index [] (omega arith) in
    ap values c.in_ok-push.ensures.items ∙ values_push c.loop-band.shared.items c.in_ok-clone.field-0 ∙ ap (λ xs. xs ++ c.in_ok-clone.field-0.value ∷ []) c.loop-band.invariant ∙ ap (λ x. take c.loop-band.band-index (values c.args.bands.now) ++ x ∷ []) (k ∙ v) ∙ sym t
