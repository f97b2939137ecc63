-- Planes are apart, and bytes of parts of them.
use Rattle.std.proofs.Common.{◌≡◌, ◌≢◌, ℕ, ◌+◌, ◌<◌, ◌≤◌, drop, get_or, ap, ◌∙◌, arith}
use Rattle.std.proofs.lemmas.List.{get_or-take, get_or-drop}
use Rattle.blend_rules.specs.declared.plane.Plane.{Plane}
use Rattle.blend_rules.specs.declared.plane.Plane.TheVariants.{B, G, R, A}
use Rattle.span_kernels.specs.PlanesModel.{PlanesModel, byte_at, part_of, plane_of, index_of}
use Rattle.span_kernels.specs.declared.planes.Row.{Row}
use Rattle.tile_compositor.specs.Laid.{IsRowOf, bytes_in}

abbrev number : Plane → ℕ
number B = 0
number G = 1
number R = 2
number A = 3

pub apart : (p q : Plane) → number p ≢ number q → p ≢ q
apart p q other same = other (ap number same)

-- a byte of a part of a row
pub part_byte : (p : Plane) (planes : PlanesModel) (y x n k : ℕ) → k < n → get_or (part_of p planes y x n) k 0 ≡ byte_at p planes (x + k) y
part_byte p planes y x n k h =
    let e : index_of planes x y + k ≡ index_of planes (x + k) y = omega arith in
    get_or-take n (drop (index_of planes x y) (plane_of p planes)) k 0 h ∙ get_or-drop (index_of planes x y) (plane_of p planes) k 0 ∙ ap (λ (i : ℕ). get_or (plane_of p planes) i 0) e

-- no byte of a row of pixels exceeds its alpha
pub at_most_alpha : (p : Plane) (n : ℕ) (row : Row) (k : ℕ) → IsRowOf n row → k < n → get_or (bytes_in p row) k 0 ≤ get_or (bytes_in A row) k 0
at_most_alpha B n row k is h = let i = is.pixels k h in i.premultiplied.blue
at_most_alpha G n row k is h = let i = is.pixels k h in i.premultiplied.green
at_most_alpha R n row k is h = let i = is.pixels k h in i.premultiplied.red
at_most_alpha A n row k is h = omega arith
