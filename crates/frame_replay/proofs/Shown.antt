-- Planes that show a scene.
use Rattle.std.proofs.Common.{◌≡◌, ℕ, List, [], ◌++◌, Option, Some, sym, ap, ap₂, subst, ◌∙◌, arith}
use Rattle.std.specs.List.{flat_map}
use Rattle.blend_rules.specs.Colour.{colour_bytes}
use Rattle.blend_rules.specs.declared.colour.Px.{Px}
use Rattle.span_kernels.specs.PlanesModel.{PlanesModel}
use Rattle.span_kernels.specs.PlanesModel as planar
use Rattle.tile_compositor.specs.FrameModel.{FrameModel}
use Rattle.scene_state.specs.SceneModel.{SceneModel}
use Rattle.renderer.specs.Frames.{IsThere, ShowScene}
use Rattle.frame_replay.specs.Frame.{FramePixels, pixel_at, plane_pixels, row_by_row, scene_pixels, view_pixels}
use Rattle.frame_replay.proofs.Pixels.{same_rows}

-- their pixels are those of the view
pub shown_pixels : (s : SceneModel) (planes : PlanesModel) → ShowScene s planes → row_by_row planes.width planes.height (planar.pixel_at planes) ≡ view_pixels s
shown_pixels s planes shown =
    let w = shown.sides.width in
    let h = shown.sides.height in
    same_rows (planar.pixel_at planes) (pixel_at s) planes.width planes.height (λ x y hx hy. shown.pixels x y (omega (arith, w, hx)) (omega (arith, h, hy)))
    ∙ ap₂ (λ (w h : ℕ). row_by_row w h (pixel_at s)) w h

-- so they show what the scene does
pub plane_pixels_are : (s : SceneModel) (planes : PlanesModel) → ShowScene s planes → plane_pixels planes ≡ scene_pixels s
plane_pixels_are s planes shown =
    let w = shown.sides.width in
    let h = shown.sides.height in
    ap (λ (l : List Px). let p : FramePixels = record { width = planes.width; height = planes.height; pixels = l } in p) (shown_pixels s planes shown)
    ∙ ap₂ (λ (w h : ℕ). let p : FramePixels = record { width = w; height = h; pixels = view_pixels s } in p) w h

-- the bytes of the last frame, put into what was cleared
pub shown_bytes : (s : SceneModel) (last : Option FrameModel) (frame : FrameModel) (planes : PlanesModel) (cleared put bytes : List ℕ) → IsThere (λ f. ShowScene s f.planes) last → Some frame ≡ last
    → planes ≡ frame.planes → cleared ≡ [] → put ≡ cleared ++ flat_map colour_bytes (row_by_row planes.width planes.height (planar.pixel_at planes)) → bytes ≡ put → bytes ≡ flat_map colour_bytes (view_pixels s)
shown_bytes s last frame planes cleared put bytes shows is same none are all =
    all ∙ are ∙ ap (λ (o : List ℕ). o ++ flat_map colour_bytes (row_by_row planes.width planes.height (planar.pixel_at planes))) none
    ∙ ap (λ (p : PlanesModel). flat_map colour_bytes (row_by_row p.width p.height (planar.pixel_at p))) same
    ∙ ap (λ (l : List Px). flat_map colour_bytes l) (shown_pixels s frame.planes (subst (IsThere (λ f. ShowScene s f.planes)) (sym is) shows))
