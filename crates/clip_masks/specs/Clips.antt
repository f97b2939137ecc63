-- Rectangle clips, clips that are the same, and clips that are moved.
use Rattle.std.specs.Prelude.{◌≡◌, Bool, false, not, ◌&&◌, List, map, if◌then◌else◌}
use Rattle.wr_geom.specs.Bounds.{Bounds, IsInRange, shifted, same_rect}
use Rattle.wr_geom.specs.Sides.{square, same_radii}
use Rattle.wr_geom.specs.declared.point.Point.{Point}
use Rattle.clip_masks.specs.Outline.{shifted_outline}
use Rattle.clip_masks.specs.declared.clip.Clip.{Clip}

-- the clip of mode in on a rectangle without round corners
abbrev pub rect_clip : Bounds → Clip
rect_clip b = record { shape = record { rect = b; radii = square }; out = false }

-- a clip of mode in without round corners
pub record IsRectClip (c : Clip) : Type 0 where
  pub inwards : c.out ≡ false
  pub corners : c.shape.radii ≡ square

-- whether it is one
unfoldable pub is_rect_clip : Clip → Bool
is_rect_clip c = not c.out && same_radii c.shape.radii square

-- whether two clips have the same rectangle, radii and mode
unfoldable pub same_clip : Clip → Clip → Bool
same_clip a b = same_rect a.shape.rect b.shape.rect && same_radii a.shape.radii b.shape.radii && (if a.out then b.out else not b.out)

-- the clip with its rectangle moved, and all else kept
abbrev pub shifted_clip : Clip → Point → Clip
shifted_clip c by = record { shape = shifted_outline c.shape by; out = c.out }

-- a chain of clips with each moved
abbrev pub shifted_clips : List Clip → Point → List Clip
shifted_clips clips by = map (λ c. shifted_clip c by) clips

-- the moved rectangle of a clip is in range
abbrev pub CanShift : Point → Clip → Type 0
CanShift by c = IsInRange (shifted c.shape.rect by)
