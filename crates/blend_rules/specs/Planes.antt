-- The four planes of a picture.
use Rattle.std.specs.Prelude.{ℕ}
use Rattle.blend_rules.specs.declared.colour.Px.{Px}
use Rattle.blend_rules.specs.declared.plane.Plane.{Plane}
use Rattle.blend_rules.specs.declared.plane.Plane.TheVariants.{B, G, R, A}

-- a colour's byte in a plane
abbrev pub channel : Plane → Px → ℕ
channel B p = p.b
channel G p = p.g
channel R p = p.r
channel A p = p.a
