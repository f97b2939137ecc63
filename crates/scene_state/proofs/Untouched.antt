-- Operations that leave the pipelines as they are.
use Rattle.std.proofs.Common.{◌≡◌, ℕ, Bool, true, false, Option, Some, None, Result, Ok, Err, refl, sym, ap, ◌∙◌}
use Rattle.std.proofs.lemmas.Option.{same_Some, none-some}
use Rattle.wr_io.specs.declared.fault.Code.{Code}
use Rattle.wr_io.specs.declared.fault.Fault.{Fault}
use Rattle.txn_format.specs.Txn.{OpModel, set_list, remove_pipeline, scroll, set_offset, set_opacity, add_image, update_image, delete_image, add_glyph, delete_font, set_view, tile_policy, drop_tiles}
use Rattle.image_store.specs.StoreModel.{StoreModel}
use Rattle.image_store.specs.Changes.{image_added, image_updated, image_deleted, glyph_added}
use Rattle.image_store.specs.declared.error.StoreError.{StoreError}
use Rattle.pipelines.specs.Table.{PipelineMap}
use Rattle.scene_state.specs.SceneModel.{SceneModel}
use Rattle.scene_state.specs.Operations.{Next, after_op, where_changed, where_removed, touches}
use Rattle.scene_state.specs.Limits.{first_limit}

abbrev pipelines_after : Next → Option PipelineMap
pipelines_after (Ok made) = Some made.0.pipelines
pipelines_after (Err f) = None

changed_store : (fault : StoreError → Fault) (r : Result (StoreModel × ℕ) StoreError) (s : SceneModel) (made : SceneModel × ℕ)
    → where_changed fault r s ≡ Ok made → s.pipelines ≡ made.0.pipelines
changed_store fault (Ok m) s made e = same_Some s.pipelines made.0.pipelines (ap pipelines_after e)
changed_store fault (Err x) s made e = absurd (none-some made.0.pipelines (ap pipelines_after e))

removed_store : (fault : StoreError → Fault) (r : Result StoreModel StoreError) (s : SceneModel) (last : ℕ) (made : SceneModel × ℕ)
    → where_removed fault r s last ≡ Ok made → s.pipelines ≡ made.0.pipelines
removed_store fault (Ok m) s last made e = same_Some s.pipelines made.0.pipelines (ap pipelines_after e)
removed_store fault (Err x) s last made e = absurd (none-some made.0.pipelines (ap pipelines_after e))

plain_store : (s t : SceneModel) (last : ℕ) (made : SceneModel × ℕ) → t.pipelines ≡ s.pipelines → (let n : Next = Ok (t, last) in n) ≡ Ok made → s.pipelines ≡ made.0.pipelines
plain_store s t last made same e = sym same ∙ same_Some t.pipelines made.0.pipelines (ap pipelines_after e)

true_false : true ≡ false → ⊥
true_false e = cc

pub op_leaves : (p at : ℕ) (op : OpModel) (s : SceneModel) (last : ℕ) (made : SceneModel × ℕ) → after_op p at op s last ≡ Ok made → touches op ≡ false → s.pipelines ≡ made.0.pipelines
op_leaves p at (set_list epoch bytes) s last made e t = absurd (true_false t)
op_leaves p at remove_pipeline s last made e t = absurd (true_false t)
op_leaves p at (scroll sid x y) s last made e t = absurd (true_false t)
op_leaves p at (set_offset id x y) s last made e t = absurd (true_false t)
op_leaves p at (set_opacity id opacity) s last made e t = absurd (true_false t)
op_leaves p at (add_image key w h pixels) s last made e t = changed_store _ (image_added p key w h pixels s.store last) s made e
op_leaves p at (update_image key x y w h pixels) s last made e t = changed_store _ (image_updated p key (record { x = x; y = y; w = w; h = h }) pixels s.store last) s made e
op_leaves p at (delete_image key) s last made e t = removed_store _ (image_deleted p key s.store) s last made e
op_leaves p at (add_glyph font glyph w h mask) s last made e t = changed_store _ (glyph_added p font glyph w h mask s.store last) s made e
op_leaves p at (delete_font font) s last made e t = plain_store s _ last made refl e
op_leaves p at (set_view w h clear) s last made e t = plain_store s _ last made refl e
op_leaves p at (tile_policy tw th budget) s last made e t = plain_store s _ last made refl e
op_leaves p at drop_tiles s last made e t = plain_store s s last made refl e

-- a scene that breaks no limit breaks none of what is drawn
pub none_of_drawn : (o : Option Code) (full : Bool) → first_limit o full ≡ None → o ≡ None
none_of_drawn None full e = refl
none_of_drawn (Some c) full e = absurd (none-some c (sym e))
