-- New planes of zeros.
use Rattle.std.proofs.Common.{◌≡◌, ℕ, ◌*◌, length, replicate, Result, Ok, Err, refl, arith}
use Rattle.std.specs.Prelude.{IfOk}
use Rattle.std.proofs.lemmas.List.{length-replicate}
use Rattle.wr_geom.specs.Bounds.{Bounds, IsRect, width_of, height_of}
use Rattle.tile_store.specs.Tiles.{HasTileSides, IsTile, blank_tile}
use Rattle.blend_rules.specs.declared.plane.Plane.{Plane}
use Rattle.blend_rules.specs.declared.plane.Plane.TheVariants.{B, G, R, A}
use Rattle.span_kernels.specs.PlanesModel.{PlanesModel, plane_of, blank_planes}

pub blank_from : (width height : ℕ) (planes : PlanesModel) → planes.width ≡ width → planes.height ≡ height → ((p : Plane) → plane_of p planes ≡ replicate (height * width) 0) → planes ≡ blank_planes width height
blank_from width height planes w h zeros =
    let b = zeros B in let g = zeros G in let r = zeros R in let a = zeros A in
    λ i. record { width = w i; height = h i; blue = b i; green = g i; red = r i; alpha = a i }

pub ok_blank : {E : Type 0} (width height : ℕ) (r : Result PlanesModel E) → IfOk r (λ planes. planes.width ≡ width) → IfOk r (λ planes. planes.height ≡ height)
    → IfOk r (λ planes. (p : Plane) → plane_of p planes ≡ replicate (height * width) 0) → IfOk r (λ planes. planes ≡ blank_planes width height)
ok_blank width height (Ok planes) w h zeros = blank_from width height planes w h zeros
ok_blank width height (Err e) w h zeros = tt

each_length : (width height : ℕ) (p : Plane) → length (plane_of p (blank_planes width height)) ≡ height * width
each_length width height B = length-replicate (height * width) 0
each_length width height G = length-replicate (height * width) 0
each_length width height R = length-replicate (height * width) 0
each_length width height A = length-replicate (height * width) 0

module _ {N : Type 0} where
  -- a new tile is one
  pub blank_is_tile : (rect : Bounds) (note : N) → IsRect rect → HasTileSides rect → IsTile (blank_tile rect note)
  blank_is_tile rect note r s = record {
    rect = r;
    sides = s;
    width = refl;
    height = refl;
    whole = record {
      wide = let a = s.across in omega arith;
      high = let a = s.down in omega arith;
      each = each_length (width_of rect) (height_of rect);
    };
  }
