use Rattle.std.proofs.Common.{◌++◌, List, ℕ, ap, ◌∙◌, append_assoc}
use Rattle.std.specs.List.{flat_map}
use Rattle.blend_rules.specs.Colour.{colour_bytes}
use Rattle.blend_rules.specs.declared.colour.Px.{Px}
use Rattle.span_kernels.specs.PlanesModel.{pixel_at}
use Rattle.kept_tiles.proofs.Working.{on_ok}
use Rattle.frame_replay.specs.Frame.{frame_head, row_by_row}
use Rattle.frame_replay.proofs.Shown.{shown_pixels}
use Rattle.frame_replay.proofs.frame.put_frame.Goals as goal

pub returns : goal.returns
returns c =
    let scene = c.args.scene.now in
    let planes = c.args.planes.now in
    let old = c.args.out.now.items in
    let pixels = flat_map colour_bytes (row_by_row planes.width planes.height (pixel_at planes)) in
    on_ok c.put_rows.result c.put_rows.ensures (λ e.
    e ∙ ap (λ (l : List ℕ). l ++ pixels) c.in_ok-put_head.ensures ∙ append_assoc old (frame_head scene) pixels
    ∙ ap (λ (l : List Px). old ++ (frame_head scene ++ flat_map colour_bytes l)) (shown_pixels scene planes c.requires))
