-- What an item shows at a pixel.
use Rattle.std.proofs.Common.{◌≡◌, ℕ, ℤ, Bool, true, false, List, [], ◌∷◌, ◌++◌, if◌then◌else◌, Option, Some, None, refl, sym, ap, ap₂, ◌∙◌}
use Rattle.std.specs.Option.{option_map}
use Rattle.wr_geom.specs.Bounds.{holds}
use Rattle.blend_rules.specs.declared.colour.Px.{Px}
use Rattle.blend_rules.specs.declared.mode.Mode.TheVariants.{Normal}
use Rattle.blend_rules.specs.Colour.{IsPixel, product, clear, scaled, blended}
use Rattle.blend_rules.proofs.Blends.{clear_source_leaves, scaled_clear}
use Rattle.clip_masks.specs.Clips.{rect_clip}
use Rattle.clip_masks.specs.Coverage.{coverage, chain_coverage}
use Rattle.clip_masks.specs.declared.clip.Clip.{Clip}
use Rattle.clip_masks.proofs.Chains.{chain-append}
use Rattle.display_list.specs.declared.item.Spot.{Spot}
use Rattle.primitives.specs.declared.kind.Kind.{Kind}
use Rattle.primitives.specs.PrimitiveModel.{PrimitiveModel}
use Rattle.primitives.specs.Colours.{resource_of_use, kind_colour, primitive_colour}
use Rattle.painter.specs.PlacedList.{PlacedList, item_rect, chain_clips, iframe_clips}
use Rattle.painter.specs.Painter.{ScenePixel, primitive_of, under, paint_primitive}

-- an item changes nothing outside of its rectangle
pub outside : (s : ScenePixel) (p : PrimitiveModel) (cover : ℕ) (b : Px) → holds p.rect s.x s.y ≡ false → IsPixel b → b ≡ paint_primitive s p cover b
unfolding primitive_colour
outside s p cover b e is =
    let c = under s p.clips cover in
    sym (ap (λ (h : Bool). blended Normal (scaled (if h then kind_colour s.store p.rect p.kind s.x s.y else clear) c) b) e
    ∙ ap (λ (px : Px). blended Normal px b) (scaled_clear c)
    ∙ clear_source_leaves Normal b is.premultiplied is.byte)

-- inside it shows the colour of its kind
pub shown : (s : ScenePixel) (l : PlacedList) (spot : Spot) (kind : Kind) (cover : ℕ) (b colour : Px) → holds (item_rect l spot) s.x s.y ≡ true → colour ≡ kind_colour s.store (item_rect l spot) kind s.x s.y
    → blended Normal (scaled colour (under s (chain_clips l spot.chain) cover)) b ≡ paint_primitive s (primitive_of l spot kind) cover b
unfolding primitive_colour
shown s l spot kind cover b colour e is =
    ap (λ (px : Px). blended Normal (scaled px (under s (chain_clips l spot.chain) cover)) b)
    (is ∙ sym (ap (λ (h : Bool). if h then kind_colour s.store (item_rect l spot) kind s.x s.y else clear) e))

-- what is used with the generation of what is stored is what is stored
pub used_now : {A : Type 0} (generation : A → ℕ) (o : Option A) → resource_of_use (option_map generation o) o ≡ o
used_now generation None = refl
used_now generation (Some x) = refl

-- the cover under an Iframe's chain, and then under its rectangle
pub iframe_under : (s : ScenePixel) (l : PlacedList) (spot : Spot) (cover chain rect : ℕ) → chain ≡ under s (chain_clips l spot.chain) cover → rect ≡ coverage (rect_clip (item_rect l spot)) s.x s.y
    → product chain rect ≡ under s (iframe_clips l spot) cover
unfolding chain_coverage
iframe_under s l spot cover chain rect e f = ap₂ product e f ∙ sym (one_more (chain_clips l spot.chain) (rect_clip (item_rect l spot)) cover s.x s.y)
  where
    one_more : (clips : List Clip) (clip : Clip) (cover : ℕ) (x y : ℤ) → chain_coverage (clips ++ clip ∷ []) cover x y ≡ product (chain_coverage clips cover x y) (coverage clip x y)
    one_more clips clip cover x y = chain-append clips (clip ∷ []) cover x y

-- under clips, and then under those of an Iframe
pub around_under : (s : ScenePixel) (l : PlacedList) (spot : Spot) (clips : List Clip) (cover inside : ℕ) → under s clips 255 ≡ cover → inside ≡ under s (iframe_clips l spot) cover
    → under s (clips ++ iframe_clips l spot) 255 ≡ inside
around_under s l spot clips cover inside e f = chain-append clips (iframe_clips l spot) 255 s.x s.y ∙ ap (under s (iframe_clips l spot)) e ∙ sym f
