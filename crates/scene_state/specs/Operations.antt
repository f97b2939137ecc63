-- What operations make of a scene and of the counter of generations, or the first fault.
use Rattle.std.specs.Prelude.{ℕ, ◌+◌, Bool, true, false, List, [], ◌∷◌, Result, Ok, Err}
use Rattle.std.specs.FinMap as map
use Rattle.wr_io.specs.declared.fault.Fault.{Fault}
use Rattle.field_forms.specs.Outcome.{moved_fault}
use Rattle.display_list.specs.ListModel.{ListModel}
use Rattle.display_list.specs.Decoding.{list_at}
use Rattle.txn_format.specs.Txn.{OpModel, PlacedModel, set_list, remove_pipeline, scroll, set_offset, set_opacity, add_image, update_image, delete_image, add_glyph, delete_font, set_view, tile_policy, drop_tiles}
use Rattle.image_store.specs.declared.error.StoreError.{StoreError}
use Rattle.image_store.specs.StoreModel.{StoreModel, without_font}
use Rattle.image_store.specs.Changes.{image_added, image_updated, image_deleted, glyph_added}
use Rattle.pipelines.specs.Changes.{with_pipeline, with_list, with_moves, with_scroll, with_offset, with_opacity}
use Rattle.pipelines.specs.declared.pipeline.Pipeline.{Pipeline}
use Rattle.scene_state.specs.SceneModel.{SceneModel}
use Rattle.scene_state.specs.StoreFaults.{fault_at}

-- a scene and the counter, or the first fault
abbrev pub Next : Type 0
Next = Result (SceneModel × ℕ) Fault

-- one pipeline changed
abbrev pub changed_pipeline : ℕ → (Pipeline → Pipeline) → SceneModel → SceneModel
changed_pipeline p change s = record s { pipelines = with_pipeline p change s.pipelines }

-- a pipeline's list replaced, or its first fault, where its bytes stand at a position
abbrev pub where_read : ℕ → ℕ → ℕ → Result ListModel Fault → SceneModel → ℕ → Next
where_read p position epoch (Ok list) s last = Ok (changed_pipeline p (with_list (record { list = list; epoch = epoch })) s, last)
where_read p position epoch (Err f) s last = Err (moved_fault position f)

-- the store changed, with the counter, or the fault
abbrev pub where_changed : (StoreError → Fault) → Result (StoreModel × ℕ) StoreError → SceneModel → Next
where_changed fault (Ok made) s = Ok (record s { store = made.0 }, made.1)
where_changed fault (Err e) s = Err (fault e)

-- the store with less in it, or the fault
abbrev pub where_removed : (StoreError → Fault) → Result StoreModel StoreError → SceneModel → ℕ → Next
where_removed fault (Ok store) s last = Ok (record s { store = store }, last)
where_removed fault (Err e) s last = Err (fault e)

-- after an operation of the pipeline p whose tag stands at a position
abbrev pub after_op : ℕ → ℕ → OpModel → SceneModel → ℕ → Next
after_op p at (set_list epoch bytes) s last = where_read p (at + 9) epoch (list_at p bytes) s last
after_op p at remove_pipeline s last = Ok (record s { pipelines = map.remove s.pipelines p }, last)
after_op p at (scroll sid x y) s last = Ok (changed_pipeline p (with_moves (with_scroll sid (x, y))) s, last)
after_op p at (set_offset id x y) s last = Ok (changed_pipeline p (with_moves (with_offset id (x, y))) s, last)
after_op p at (set_opacity id opacity) s last = Ok (changed_pipeline p (with_moves (with_opacity id opacity)) s, last)
after_op p at (add_image key w h pixels) s last = where_changed (fault_at at (at + 9)) (image_added p key w h pixels s.store last) s
after_op p at (update_image key x y w h pixels) s last =
    where_changed (fault_at at (at + 13)) (image_updated p key (record { x = x; y = y; w = w; h = h }) pixels s.store last) s
after_op p at (delete_image key) s last = where_removed (fault_at at at) (image_deleted p key s.store) s last
after_op p at (add_glyph font glyph w h mask) s last = where_changed (fault_at at at) (glyph_added p font glyph w h mask s.store last) s
after_op p at (delete_font font) s last = Ok (record s { store = without_font p font s.store }, last)
after_op p at (set_view w h clear) s last = Ok (record s { view = (w, h); clear = clear }, last)
after_op p at (tile_policy tw th budget) s last = Ok (record s { policy = record { tw = tw; th = th; budget = budget } }, last)
after_op p at drop_tiles s last = Ok (s, last)

-- what follows, unless there was a fault
abbrev pub then_next : Next → (SceneModel → ℕ → Next) → Next
then_next (Ok made) follows = follows made.0 made.1
then_next (Err f) follows = Err f

-- after operations in order, or the first fault
abbrev pub after_ops : ℕ → List PlacedModel → SceneModel → ℕ → Next
after_ops p [] s last = Ok (s, last)
after_ops p (o ∷ os) s last = then_next (after_op p o.at o.op s last) (after_ops p os)

-- ---- which operations can break a limit of what is drawn

-- an operation changes what a pipeline has
abbrev pub touches : OpModel → Bool
touches (set_list epoch bytes) = true
touches remove_pipeline = true
touches (scroll sid x y) = true
touches (set_offset id x y) = true
touches (set_opacity id opacity) = true
touches (add_image key w h pixels) = false
touches (update_image key x y w h pixels) = false
touches (delete_image key) = false
touches (add_glyph font glyph w h mask) = false
touches (delete_font font) = false
touches (set_view w h clear) = false
touches (tile_policy tw th budget) = false
touches drop_tiles = false
