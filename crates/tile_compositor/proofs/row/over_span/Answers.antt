use Rattle.std.proofs.Common.{◌≡◌, ◌≢◌, ◌-◌, ℕ, get_or, sym, ap, ◌∙◌, arith}
use Rattle.blend_rules.specs.declared.plane.Plane.{Plane}
use Rattle.blend_rules.specs.declared.plane.Plane.TheVariants.{B, G, R, A}
use Rattle.blend_rules.specs.Colour.{source_over}
use Rattle.blend_rules.proofs.Blends.{normal_needs_no_limit}
use Rattle.span_kernels.specs.Bytes.{over_byte}
use Rattle.span_kernels.specs.PlanesModel.{PlanesModel, byte_at, pixel_at}
use Rattle.span_kernels.specs.declared.planes.Row.{Row}
use Rattle.tile_compositor.specs.Laid.{IsPlaneLaid, bytes_in, row_colour}
use Rattle.tile_compositor.specs.declared.row.Span.{Span}
use Rattle.tile_compositor.proofs.Bytes.{apart, at_most_alpha}
use Rattle.tile_compositor.proofs.Spans.{byte_else, plane_as, span_as, span_painted}
use Rattle.tile_compositor.proofs.row.over_span.Goals as goal

-- what is laid over a plane of a span
abbrev laid : Row → PlanesModel → Span → Plane → ℕ → ℕ
laid row planes span p x = over_byte (get_or (bytes_in A row) (x - span.from) 0) (get_or (bytes_in p row) (x - span.from) 0) (byte_at p planes x span.y)

-- laid over planes that have the same bytes in this plane
laid_as : (row : Row) (planes other : PlanesModel) (span : Span) (p : Plane) (new : PlanesModel) → ((x : ℕ) → byte_at p other x span.y ≡ byte_at p planes x span.y) → IsPlaneLaid (laid row other span p) p span other new → IsPlaneLaid (laid row planes span p) p span other new
laid_as row planes other span p new same painted =
    plane_as (laid row other span p) (laid row planes span p) p span other new (λ x. ap (λ (d : ℕ). over_byte (get_or (bytes_in A row) (x - span.from) 0) (get_or (bytes_in p row) (x - span.from) 0) d) (same x)) painted

pub over_plane-requires-clause-source : goal.over_plane-requires-clause-source
over_plane-requires-clause-source c = c.requires.source.long B

pub over_plane-requires-clause-alphas : goal.over_plane-requires-clause-alphas
over_plane-requires-clause-alphas c = c.requires.source.long A

pub over_plane-requires-clause-premultiplied : goal.over_plane-requires-clause-premultiplied
over_plane-requires-clause-premultiplied c k h = at_most_alpha B (c.args.span.to - c.args.span.from) c.args.source k c.requires.source (omega (arith, h, c.requires.source.long B))

pub over_plane-requires-2-clause-source : goal.over_plane-requires-2-clause-source
over_plane-requires-2-clause-source c = c.requires.source.long G

pub over_plane-requires-2-clause-alphas : goal.over_plane-requires-2-clause-alphas
over_plane-requires-2-clause-alphas c = c.requires.source.long A

pub over_plane-requires-2-clause-premultiplied : goal.over_plane-requires-2-clause-premultiplied
over_plane-requires-2-clause-premultiplied c k h = at_most_alpha G (c.args.span.to - c.args.span.from) c.args.source k c.requires.source (omega (arith, h, c.requires.source.long G))

pub over_plane-requires-3-clause-source : goal.over_plane-requires-3-clause-source
over_plane-requires-3-clause-source c = c.requires.source.long R

pub over_plane-requires-3-clause-alphas : goal.over_plane-requires-3-clause-alphas
over_plane-requires-3-clause-alphas c = c.requires.source.long A

pub over_plane-requires-3-clause-premultiplied : goal.over_plane-requires-3-clause-premultiplied
over_plane-requires-3-clause-premultiplied c k h = at_most_alpha R (c.args.span.to - c.args.span.from) c.args.source k c.requires.source (omega (arith, h, c.requires.source.long R))

pub over_plane-requires-4-clause-source : goal.over_plane-requires-4-clause-source
over_plane-requires-4-clause-source c = c.requires.source.long A

pub over_plane-requires-4-clause-alphas : goal.over_plane-requires-4-clause-alphas
over_plane-requires-4-clause-alphas c = c.requires.source.long A

pub returns : goal.returns
unfolding source_over
returns c =
    let row = c.args.source in
    let span = c.args.span in
    let s = c.args.planes.now in
    let t = c.over_plane.new.planes in
    let u = c.over_plane-2.new.planes in
    let v = c.over_plane-3.new.planes in
    let w = c.over_plane-4.new.planes in
    let y = span.y in
    let f = laid row s span in
    let b : IsPlaneLaid (f B) B span s t = c.over_plane.ensures in
    let t_is : (q : Plane) → q ≢ B → (x : ℕ) → byte_at q t x y ≡ byte_at q s x y = λ q ne x. byte_else (f B) B q span s t b ne x y in
    let g : IsPlaneLaid (f G) G span t u = laid_as row s t span G u (t_is G (apart G B (λ e. absurd (omega (arith, e))))) c.over_plane-2.ensures in
    let u_is : (q : Plane) → q ≢ B → q ≢ G → (x : ℕ) → byte_at q u x y ≡ byte_at q s x y = λ q nb ng x. byte_else (f G) G q span t u g ng x y ∙ t_is q nb x in
    let r : IsPlaneLaid (f R) R span u v = laid_as row s u span R v (u_is R (apart R B (λ e. absurd (omega (arith, e)))) (apart R G (λ e. absurd (omega (arith, e))))) c.over_plane-3.ensures in
    let v_is : (x : ℕ) → byte_at A v x y ≡ byte_at A s x y =
    λ x. byte_else (f R) R A span u v r (apart A R (λ e. absurd (omega (arith, e)))) x y ∙ u_is A (apart A B (λ e. absurd (omega (arith, e)))) (apart A G (λ e. absurd (omega (arith, e)))) x in
    let a : IsPlaneLaid (f A) A span v w = laid_as row s v span A w v_is c.over_plane-4.ensures in
    span_as _ _ span s w
    (λ x low high.
    let source = c.requires.source.pixels (x - span.from) (omega (arith, low, high)) in
    let backdrop = c.requires.frame x (omega (arith, high, c.requires.span.inside)) in
    sym (normal_needs_no_limit (row_colour row (x - span.from)) (pixel_at s x y) source.premultiplied backdrop.premultiplied source.byte backdrop.byte))
    (span_painted f span s t u v w b g r a)
