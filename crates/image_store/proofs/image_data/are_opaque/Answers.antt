use Rattle.std.proofs.Common.{◌≡◌, subst, sym, ◌∙◌, arith}
use Rattle.blend_rules.specs.Pixels.{AreOpaque}
use Rattle.image_store.specs.Bands.{band_at, values}
use Rattle.image_store.proofs.Sharing.{length-values, value_read}
use Rattle.image_store.proofs.Whole.{opaque_more, opaque_all, opaque_band}
use Rattle.image_store.proofs.image_data.are_opaque.Goals as goal

pub returns-then-not-opaque : goal.returns-then-not-opaque
returns-then-not-opaque c =
    let l = length-values c.args.bands.now in
    let v : c.deref.result.now ≡ band_at (values c.args.bands.now) c.loop-band.band-index = c.deref.ensures ∙ value_read c.args.bands.now c.loop-band.band-index c.band-item.result c.loop-band-test.true c.band-item.is in (
      (λ t. absurd (cc)),
      (λ f. sym c.if-not-opaque.true ∙ c.opaque.ensures.1 (subst AreOpaque (sym v) (opaque_band (values c.args.bands.now) f c.loop-band.band-index (omega arith)))),
    )

pub loop-band-preserved : goal.loop-band-preserved
loop-band-preserved c =
    let l = length-values c.args.bands.now in
    let v : c.deref.result.now ≡ band_at (values c.args.bands.now) c.loop-band.band-index = c.deref.ensures ∙ value_read c.args.bands.now c.loop-band.band-index c.band-item.result c.loop-band-test.true c.band-item.is in
    opaque_more (values c.args.bands.now) c.loop-band.band-index (omega arith) c.loop-band.invariant (subst AreOpaque v (c.opaque.ensures.0 c.if-not-opaque.false))

pub returns : goal.returns
returns c =
    let l = length-values c.args.bands.now in
    ((λ t. opaque_all (values c.args.bands.now) c.loop-band.band-index (omega arith) c.loop-band.invariant), (λ f. cc))
