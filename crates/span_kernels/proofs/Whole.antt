-- Planes of one length each.
use Rattle.std.proofs.Common.{◌≡◌, ℕ, length}
use Rattle.blend_rules.specs.declared.plane.Plane.{Plane}
use Rattle.blend_rules.specs.declared.plane.Plane.TheVariants.{B, G, R, A}
use Rattle.span_kernels.specs.PlanesModel.{PlanesModel, plane_of}

pub of_one_length : (planes : PlanesModel) (n : ℕ) → length planes.blue ≡ n → length planes.green ≡ n → length planes.red ≡ n → length planes.alpha ≡ n → (p : Plane) → length (plane_of p planes) ≡ n
of_one_length planes n b g r a B = b
of_one_length planes n b g r a G = g
of_one_length planes n b g r a R = r
of_one_length planes n b g r a A = a
