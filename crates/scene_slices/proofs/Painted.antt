-- The slices of a scene paint its picture.
use Rattle.std.proofs.Common.{◌≡◌, ℤ, List, [], ◌∷◌, map, IsTrue, refl, sym, ap, ◌∙◌}
use Rattle.std.specs.Prelude.{All}
use Rattle.std.proofs.lemmas.List.Elements.{All-nil, All-cons}
use Rattle.wr_geom.specs.Bounds.{holds}
use Rattle.blend_rules.specs.declared.colour.Px.{Px}
use Rattle.blend_rules.specs.declared.mode.Mode.TheVariants.{Normal}
use Rattle.blend_rules.specs.Colour.{blended}
use Rattle.image_store.specs.StoreModel.{StoreModel}
use Rattle.pipelines.specs.Table.{PipelineMap}
use Rattle.primitives.specs.Stacks.{Stack, empty_stack}
use Rattle.primitives.specs.Tops.{AreTops}
use Rattle.slice_rules.specs.Runs.{Run, slices_of, mapped}
use Rattle.slice_rules.proofs.Mapped.{slices_mapped}
use Rattle.painter.specs.Painter.{ScenePixel}
use Rattle.painter.specs.TopItems.{TopItem, top_items, home_of}
use Rattle.painter.specs.Slices.{slice_colour, paint_slices, picture_over}
use Rattle.scene_state.specs.SceneModel.{SceneModel}
use Rattle.scene_state.specs.Limits.{IsScene}
use Rattle.scene_state.specs.Picture.{picture}
use Rattle.scene_flatten.specs.Tops.{top_of, scene_tops}
use Rattle.scene_flatten.specs.Laws.{scene_pixel}
use Rattle.scene_flatten.proofs.Paints.{tops_paint_items}
use Rattle.picture_slices.specs.Facts.{HaveGoodEntries}
use Rattle.picture_slices.specs.TopClips.{home_of_top}
use Rattle.picture_slices.specs.Values.{run_value, runs_over, slices_over}
use Rattle.picture_slices.proofs.Keyed.{paint_the_tops}
use Rattle.scene_slices.specs.Picture.{view_rect, slices_of_scene}

-- as entries, top items in slices paint what they do as items
mapped_runs : (s : ScenePixel) (rs : List (Run TopItem)) (backdrop : Px) → runs_over s.store s.x s.y (map (mapped (top_of s.pipelines s.store)) rs) backdrop ≡ paint_slices s rs backdrop
mapped_runs s [] backdrop = refl
mapped_runs s (r ∷ rs) backdrop =
    let later = map (mapped (top_of s.pipelines s.store)) rs in
    let one : run_value (mapped (top_of s.pipelines s.store) r) s.store s.x s.y ≡ slice_colour s r = ap (λ (st : Stack). st.top) (tops_paint_items s r.members empty_stack) in
    ap (λ (colour : Px). runs_over s.store s.x s.y later (blended Normal colour backdrop)) one ∙ mapped_runs s rs (blended Normal (slice_colour s r) backdrop)

-- they have the homes of the items
homes_stay : (pipelines : PipelineMap) (store : StoreModel) (ts : List TopItem) → All (λ t. home_of_top (top_of pipelines store t) ≡ home_of t) ts
homes_stay pipelines store [] = All-nil (λ t. home_of_top (top_of pipelines store t) ≡ home_of t)
homes_stay pipelines store (t ∷ ts) = All-cons (λ u. home_of_top (top_of pipelines store u) ≡ home_of u) t ts refl (homes_stay pipelines store ts)

pub painted : (scene : SceneModel) (x y : ℤ) → IsScene scene → AreTops (scene_tops scene) → HaveGoodEntries (scene_tops scene) → IsTrue (holds (view_rect scene) x y)
    → slices_over scene.store x y (slices_of_scene scene) scene.clear ≡ picture scene x y
unfolding picture picture_over
painted scene x y is tops good inside =
    let f = top_of scene.pipelines scene.store in
    let items = top_items scene.pipelines in
    paint_the_tops scene.store (view_rect scene) (scene_tops scene) x y scene.clear is.store tops good inside
    ∙ ap (λ (rs : List (Run _)). runs_over scene.store x y rs scene.clear) (slices_mapped f home_of home_of_top items (homes_stay scene.pipelines scene.store items))
    ∙ mapped_runs (scene_pixel scene x y) (slices_of home_of items) scene.clear
