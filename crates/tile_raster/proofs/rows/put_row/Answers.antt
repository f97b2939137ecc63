use Rattle.std.proofs.Common.{◌≡◌, ℕ, List, slice_index, ap, ◌∙◌}
use Rattle.blend_rules.specs.declared.plane.Plane.{Plane}
use Rattle.blend_rules.specs.declared.plane.Plane.TheVariants.{B, G, R, A}
use Rattle.blend_rules.proofs.Blends.{same_bytes}
use Rattle.span_kernels.specs.PlanesModel.{byte_at}
use Rattle.tile_raster.proofs.Planes.{b≢g, b≢r, b≢a, g≢r, g≢a, r≢a}
use Rattle.tile_raster.proofs.rows.put_row.Goals as goal

pub returns-clause-here : goal.returns-clause-here
returns-clause-here c k h =
    let y = c.args.y in
    let w1 = c.put_plane.ensures.width in
    let w2 = c.put_plane-2.ensures.width ∙ w1 in
    let w3 = c.put_plane-3.ensures.width ∙ w2 in
    same_bytes _ _
    (c.put_plane-4.ensures.planes B k y b≢a ∙ c.put_plane-3.ensures.planes B k y b≢r ∙ c.put_plane-2.ensures.planes B k y b≢g ∙ c.put_plane.ensures.here k h ∙ ap (λ (l : List ℕ). slice_index l k) c.plane.ensures.value)
    (c.put_plane-4.ensures.planes G k y g≢a ∙ c.put_plane-3.ensures.planes G k y g≢r ∙ c.put_plane-2.ensures.here k (rw w1 h) ∙ ap (λ (l : List ℕ). slice_index l k) c.plane-2.ensures.value)
    (c.put_plane-4.ensures.planes R k y r≢a ∙ c.put_plane-3.ensures.here k (rw w2 h) ∙ ap (λ (l : List ℕ). slice_index l k) c.plane-3.ensures.value)
    (c.put_plane-4.ensures.here k (rw w3 h) ∙ ap (λ (l : List ℕ). slice_index l k) c.plane-4.ensures.value)

pub returns-clause-rows : goal.returns-clause-rows
returns-clause-rows c a b h ne =
    let w1 = c.put_plane.ensures.width in
    let w2 = c.put_plane-2.ensures.width ∙ w1 in
    let w3 = c.put_plane-3.ensures.width ∙ w2 in
    let all : (q : Plane) → byte_at q c.put_plane-4.new.out a b ≡ byte_at q c.args.out.now a b = λ q.
    c.put_plane-4.ensures.rows q a b (rw w3 h) ne ∙ c.put_plane-3.ensures.rows q a b (rw w2 h) ne ∙ c.put_plane-2.ensures.rows q a b (rw w1 h) ne ∙ c.put_plane.ensures.rows q a b h ne in
    same_bytes _ _ (all B) (all G) (all R) (all A)
