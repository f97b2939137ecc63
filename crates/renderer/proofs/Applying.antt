-- What a transaction makes of a renderer, from its steps.
use Rattle.std.proofs.Common.{◌≡◌, ◌≤◌, ◌+◌, ℕ, true, List, [], Option, Some, None, Ok, Err, refl, sym, ap, subst, ◌∙◌, arith}
use Rattle.wr_io.specs.declared.fault.Code.{Code}
use Rattle.txn_format.specs.Txn.{PlacedModel, TxnModel}
use Rattle.tile_store.specs.StoreModel.{opened_after}
use Rattle.kept_tiles.specs.Tiles.{KeptModel, kept_of}
use Rattle.kept_tiles.specs.Work.{Records, Work, records_of}
use Rattle.scene_state.specs.SceneModel.{SceneModel}
use Rattle.scene_state.specs.Limits.{limit_of, next_scene, where_none}
use Rattle.scene_state.specs.Operations.{Next, after_ops, then_next}
use Rattle.tile_compositor.specs.FrameModel.{FrameModel}
use Rattle.scene_resources.specs.Additions.{additions}
use Rattle.renderer.specs.declared.answer.Report.{Report}
use Rattle.renderer.specs.Drops.{tiles_left}
use Rattle.renderer.specs.Frames.{IsFrameOf, IsThere, ShowScene, work_of_frame}
use Rattle.renderer.specs.Outcome.{IsFramed, IsUnfinished, cost_after, cost_of, frame_after}
use Rattle.renderer.specs.RendererModel.{RendererModel}
use Rattle.renderer.specs.Showing.{IsShown, IsUnshown}
use Rattle.renderer.proofs.Readying.{records_left}

-- the scene that was made, or another
abbrev scene_in : SceneModel → Next → SceneModel
scene_in s (Ok made) = made.0
scene_in s (Err fault) = s

-- the work over what a transaction leaves, told by the tiles that were left
left_work : (t : TxnModel) (old : RendererModel) (left : KeptModel) (next : SceneModel) → kept_of left ≡ tiles_left t old.scene.policy (kept_of old.kept)
    → work_of_frame next (records_of (kept_of left)) ≡ frame_after t old next
left_work t old left next h = ap (λ (l : Records). work_of_frame next l) (ap records_of h ∙ records_left t old.scene (kept_of old.kept))

-- a transaction without an operation leaves the scene
same_next : (o : Option Code) (position : ℕ) (s next : SceneModel) (last counter : ℕ) → where_none o position s last ≡ Ok (next, counter) → next ≡ s
same_next None position s next last counter e = sym (ap (λ (r : Next). scene_in s r) e)
same_next (Some code) position s next last counter e = cc e

pub same_scene : (t : TxnModel) (s next : SceneModel) (last counter : ℕ) → t.ops ≡ [] → next_scene t s last ≡ Ok (next, counter) → next ≡ s
same_scene t s next last counter none is =
    same_next (limit_of s) t.len s next last counter (sym (ap (λ (ops : List PlacedModel). then_next (after_ops t.pipeline ops s last) (λ made c. where_none (limit_of made) t.len made c)) none) ∙ is)

-- so what shows the scene shows the next one
pub same_shown : (t : TxnModel) (s next : SceneModel) (last counter : ℕ) (frame : Option FrameModel) → t.ops ≡ [] → next_scene t s last ≡ Ok (next, counter) → IsThere (λ f. ShowScene s f.planes) frame → IsThere (λ f. ShowScene next f.planes) frame
same_shown t s next last counter frame none is shows = subst (λ (n : SceneModel). IsThere (λ f. ShowScene n f.planes) frame) (sym (same_scene t s next last counter none is)) shows

module _ (t : TxnModel) (old mid new : RendererModel) (next : SceneModel) (is : next_scene t old.scene old.last ≡ Ok (next, mid.last)) (framed : t.frame ≡ true) (left : kept_of mid.kept ≡ tiles_left t old.scene.policy (kept_of old.kept)) (opened : mid.kept.store.opened ≡ old.kept.store.opened) where
  pub framed_by : (report : Report) → IsShown next mid new report → IsFramed t old new report
  framed_by report s =
      let w = left_work t old mid.kept next left in
      let same : frame_after t old new.scene ≡ frame_after t old next = ap (frame_after t old) s.scene in
      record {
        framed = framed;
        next = is ∙ ap (λ (m : SceneModel × ℕ). Ok m) (λ i. (sym s.scene i, sym s.last i));
        kept = s.kept ∙ ap (λ (w : Work). w.kept) (w ∙ sym same);
        opened = s.opened ∙ ap (λ (n : ℕ). opened_after n (work_of_frame next (records_of (kept_of mid.kept))).cost) opened ∙ ap (λ (w : Work). opened_after old.kept.store.opened w.cost) (w ∙ sym same);
        frame = subst (λ (s : SceneModel). IsThere (IsFrameOf s new.kept.store.opened) new.frame) (sym s.scene) s.frame;
        tiles = s.tiles;
        drawn = s.drawn ∙ ap (λ (w : Work). w.cost) (w ∙ sym same);
        most = s.most;
      }

  cost_is : cost_after t old ≡ (frame_after t old next).cost
  cost_is = ap (cost_of t old) is ∙ (rw framed refl)

  pub unfinished_by : old.last ≤ mid.last → mid.last ≤ old.last + additions t.ops → mid.scene ≡ old.scene → mid.frame ≡ old.frame → IsUnshown next mid new → IsUnfinished t old new
  unfinished_by least most scene frame u =
      let cost = ap (λ (w : Work). w.cost) (left_work t old mid.kept next left) ∙ sym cost_is in
      let same = u.rest.last in
      let lower = u.least in
      let upper = u.most in
      record {
        scene = u.rest.scene ∙ scene;
        frame = u.rest.frame ∙ frame;
        given_least = omega (arith, least, same);
        given_most = omega (arith, most, same);
        opened_least = omega (arith, lower, opened);
        opened_most = omega (arith, upper, opened, cost);
      }
