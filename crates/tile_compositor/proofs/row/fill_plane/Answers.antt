use Rattle.std.proofs.Common.{◌≡◌, ◌-◌, ℕ, List, length, replicate, get_or, ap, ◌∙◌, arith}
use Rattle.std.proofs.lemmas.List.{get_or-replicate, length-replicate}
use Rattle.tile_compositor.proofs.Spans.{plane_painted}
use Rattle.tile_compositor.proofs.row.fill_plane.Goals as goal

pub returns : goal.returns
returns c =
    let span = c.args.span in
    let bytes = c.fill.new.d in
    let is : bytes ≡ replicate (length c.row_mut.result.now) c.args.value = c.fill.ensures in
    let long : length bytes ≡ span.to - span.from = omega (arith, ap length is ∙ length-replicate (length c.row_mut.result.now) c.args.value, c.row_mut.ensures.len) in
    plane_painted (λ (_ : ℕ). c.args.value) c.args.p span c.args.planes.now _ bytes c.requires.order long (c.row_mut.ensures.stays bytes long)
    (λ k h. ap (λ (l : List ℕ). get_or l k 0) is ∙ get_or-replicate (length c.row_mut.result.now) k c.args.value 0 (omega (arith, h, c.row_mut.ensures.len)))
