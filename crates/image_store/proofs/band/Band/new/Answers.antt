use Rattle.std.proofs.Common.{◌/◌, ℕ, List, replicate, length, subst, sym, ◌∙◌}
use Rattle.image_store.specs.Bands.{IsSplit}
use Rattle.blend_rules.specs.declared.plane.Plane.TheVariants.{G, R, A}
use Rattle.image_store.proofs.NewBands.{woven_new, band_new}
use Rattle.image_store.proofs.band.Band.new.Goals as goal

pub invariant_of-result : goal.invariant_of-result
invariant_of-result c =
    let n = c.split_planes-tested.new in
    let e = c.split_planes-tested.ensures in
    let blank : List ℕ = replicate (length c.args.bytes.now / 4) 0 in
    band_new c.args.bytes.now c.in_ok-blue.blue.items n.b.items n.g.items n.r.items n.a.items c.in_ok-blue.ensures
    e.blue (subst (λ (l : List ℕ). IsSplit G c.args.bytes.now 0 l n.g.items) (c.in_ok-green.ensures ∙ sym c.in_ok-blue.ensures) e.green)
    (subst (λ (l : List ℕ). IsSplit R c.args.bytes.now 0 l n.r.items) (c.in_ok-red.ensures ∙ sym c.in_ok-blue.ensures) e.red)
    (subst (λ (l : List ℕ). IsSplit A c.args.bytes.now 0 l n.a.items) (c.in_ok-alpha.ensures ∙ sym c.in_ok-blue.ensures) e.alpha)
    c.split_planes-tested.result.opaque e.byte e.opaque

pub returns-clause-value : goal.returns-clause-value
returns-clause-value c =
    let n = c.split_planes-tested.new in
    let e = c.split_planes-tested.ensures in
    woven_new c.args.bytes.now c.in_ok-blue.blue.items n.b.items n.g.items n.r.items n.a.items c.in_ok-blue.ensures
    e.blue (subst (λ (l : List ℕ). IsSplit G c.args.bytes.now 0 l n.g.items) (c.in_ok-green.ensures ∙ sym c.in_ok-blue.ensures) e.green)
    (subst (λ (l : List ℕ). IsSplit R c.args.bytes.now 0 l n.r.items) (c.in_ok-red.ensures ∙ sym c.in_ok-blue.ensures) e.red)
    (subst (λ (l : List ℕ). IsSplit A c.args.bytes.now 0 l n.a.items) (c.in_ok-alpha.ensures ∙ sym c.in_ok-blue.ensures) e.alpha)
    (c.first_bad_where.ensures.pixels c.in_default.is)
