-- What a primitive's clips leave of its colours.
use Rattle.std.proofs.Common.{◌≡◌, ℕ, ℤ, true, false, sym, ap, ◌∙◌}
use Rattle.wr_geom.specs.Bounds.{holds}
use Rattle.blend_rules.specs.Colour.{IsPixel, scaled, blended}
use Rattle.blend_rules.specs.declared.colour.Px.{Px}
use Rattle.blend_rules.specs.declared.mode.Mode.TheVariants.{Normal}
use Rattle.blend_rules.proofs.Blends.{scaled_by_full, clear_source_leaves}
use Rattle.clip_masks.specs.Coverage.{chain_coverage}
use Rattle.image_store.specs.StoreModel.{StoreModel, IsStore}
use Rattle.primitives.specs.declared.kind.Kind.{Kind}
use Rattle.primitives.specs.declared.kind.Kind.TheVariants as kind
use Rattle.primitives.specs.PrimitiveModel.{PrimitiveModel, IsPrimitive}
use Rattle.primitives.specs.Colours.{kind_colour, primitive_colour, covered_colour, visible_rect}
use Rattle.primitives.proofs.Colours.{colour_inside, clear_where_not_visible}
use Rattle.tile_raster.specs.Levels.{over_primitive}

pub solid_colour : (store : StoreModel) (p : PrimitiveModel) (x y : ℤ) (c : Px) → p.kind ≡ kind.Solid c → holds p.rect x y ≡ true → c ≡ primitive_colour store p x y
solid_colour store p x y c e h = sym (colour_inside store p x y h ∙ ap (λ (k : Kind). kind_colour store p.rect k x y) e)

-- under a mask's byte
pub covered_under : (store : StoreModel) (p : PrimitiveModel) (x y : ℤ) (c : Px) (m : ℕ) → c ≡ primitive_colour store p x y → m ≡ chain_coverage p.clips 255 x y → scaled c m ≡ covered_colour store p x y
unfolding covered_colour
covered_under store p x y c m e h = ap (λ (z : Px). scaled z m) e ∙ ap (scaled (primitive_colour store p x y)) h

-- where its clips leave all
pub covered_whole : (store : StoreModel) (p : PrimitiveModel) (x y : ℤ) (c : Px) → c ≡ primitive_colour store p x y → chain_coverage p.clips 255 x y ≡ 255 → c ≡ covered_colour store p x y
covered_whole store p x y c e h = sym (scaled_by_full c) ∙ covered_under store p x y c 255 e (sym h)

pub over_as : (store : StoreModel) (p : PrimitiveModel) (x y : ℤ) (c d : Px) → c ≡ covered_colour store p x y → blended Normal c d ≡ over_primitive store p x y d
over_as store p x y c d e = ap (λ (z : Px). blended Normal z d) e

-- where it isn't visible
pub over_hidden : (store : StoreModel) (p : PrimitiveModel) (x y : ℤ) (d : Px) → IsStore store → IsPrimitive p → IsPixel d → holds (visible_rect p) x y ≡ false → over_primitive store p x y d ≡ d
over_hidden store p x y d h is q n = ap (λ (z : Px). blended Normal z d) (clear_where_not_visible store p x y h is n) ∙ clear_source_leaves Normal d q.premultiplied q.byte
