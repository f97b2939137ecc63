use Rattle.std.proofs.Common.{◌≡◌, ◌+◌, ◌-◌, ℕ, List, length, get_or, ap, ◌∙◌, arith, rules}
use Rattle.span_kernels.specs.Bytes.{over_byte}
use Rattle.span_kernels.specs.PlanesModel.{byte_at}
use Rattle.tile_compositor.proofs.Bytes.{part_byte}
use Rattle.tile_compositor.proofs.Spans.{plane_painted}
use Rattle.tile_compositor.proofs.row.over_plane.Goals as goal

pub returns : goal.returns
returns c =
    let span = c.args.span in
    let frame = c.args.planes.now in
    let p = c.args.p in
    let source = c.args.source.now in
    let alphas = c.args.alphas.now in
    let bytes = c.over_row.new.d in
    let same : length bytes ≡ length c.row_mut.result.now = search rules in
    let long : length bytes ≡ span.to - span.from = omega (arith, same, c.row_mut.ensures.len) in
    plane_painted (λ (x : ℕ). over_byte (get_or alphas (x - span.from) 0) (get_or source (x - span.from) 0) (byte_at p frame x span.y)) p span frame _ bytes c.requires.span.order long (c.row_mut.ensures.stays bytes long)
    (λ k h.
    let at : k ≡ span.from + k - span.from = omega arith in
    let backdrop = ap (λ (l : List ℕ). get_or l k 0) c.row_mut.ensures.value ∙ part_byte p frame span.y span.from (span.to - span.from) k h in
    c.over_row.ensures k (omega (arith, h, long)) ∙ ap (λ (d : ℕ). over_byte (get_or alphas k 0) (get_or source k 0) d) backdrop
    ∙ ap (λ (i : ℕ). over_byte (get_or alphas i 0) (get_or source i 0) (byte_at p frame (span.from + k) span.y)) at)
