use Rattle.std.proofs.Common.{◌≡◌, ◌<◌, ◌+◌, ◌-◌, ℕ, List, length, slice_index, ap, subst, ◌∙◌, arith}
use Rattle.span_kernels.specs.PlanesModel.{byte_at, with_part}
use Rattle.tile_raster.proofs.rows.put_plane.Goals as goal

pub returns-clause-here : goal.returns-clause-here
returns-clause-here c k h =
    let p = c.args.p in
    let y = c.args.y in
    let out = c.args.out.now in
    let bytes = c.copy.new.d in
    let len : length bytes ≡ c.width.result - 0 = omega (arith, c.copy.auto.d, c.row_mut-part.ensures.len) in
    let less : k < length bytes = omega (arith, h, len, c.width.ensures) in
    let written = (c.row_mut-part.ensures.stays bytes len).inside k less in
    let each = c.part_of.ensures.each k (omega (arith, less, len)) in
    let same : 0 + k ≡ k = omega arith in
    subst (λ (i : ℕ). byte_at p (with_part p y 0 bytes out) i y ≡ slice_index bytes k) same written
    ∙ ap (λ (l : List ℕ). slice_index l k) c.copy.ensures ∙ each ∙ ap (λ (i : ℕ). slice_index c.args.bytes.now i) same
