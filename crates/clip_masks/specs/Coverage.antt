-- How much of a pixel clips cover, of 255.
use Rattle.std.specs.Prelude.{ℕ, ◌-◌, ℤ, List, if◌then◌else◌}
use Rattle.std.specs.List.{fold}
use Rattle.wr_geom.specs.Bounds.{Bounds, intersection}
use Rattle.blend_rules.specs.Colour.{product}
use Rattle.clip_masks.specs.Outline.{samples_inside, share}
use Rattle.clip_masks.specs.declared.clip.Clip.{Clip}

-- how much of the pixel (x, y) a clip covers: its shape's share, or for a clip of mode out the rest
unfoldable pub coverage : Clip → ℤ → ℤ → ℕ
coverage c x y = let covered = share (samples_inside c.shape x y) in if c.out then 255 - covered else covered

-- what a chain's clips, outermost first, leave of the cover around them
unfoldable pub chain_coverage : List Clip → ℕ → ℤ → ℤ → ℕ
chain_coverage clips outer x y = fold (λ c clip. product c (coverage clip x y)) outer clips

-- the rectangle cut by the rectangle of each clip of mode in
unfoldable pub cut_by : Bounds → List Clip → Bounds
cut_by b clips = fold (λ r clip. if clip.out then r else intersection r clip.shape.rect) b clips
