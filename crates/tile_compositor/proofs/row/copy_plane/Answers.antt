use Rattle.std.proofs.Common.{◌≡◌, ◌+◌, ◌-◌, ℕ, List, length, get_or, ap, ap₂, ◌∙◌, arith}
use Rattle.tile_compositor.proofs.Spans.{plane_painted}
use Rattle.tile_compositor.proofs.row.copy_plane.Goals as goal

pub returns : goal.returns
returns c =
    let span = c.args.span in
    let source = c.args.source.now in
    let bytes = c.copy.new.d in
    let is : bytes ≡ source = c.copy.ensures in
    let long : length bytes ≡ span.to - span.from = ap length is ∙ c.requires.source in
    plane_painted (λ (x : ℕ). get_or source (x - span.from) 0) c.args.p span c.args.planes.now _ bytes c.requires.span.order long (c.row_mut.ensures.stays bytes long)
    (λ k h. let at : k ≡ span.from + k - span.from = omega arith in ap₂ (λ (l : List ℕ) (i : ℕ). get_or l i 0) is at)
