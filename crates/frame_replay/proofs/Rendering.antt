-- What a transaction makes of a renderer is what the model makes of its state.
use Rattle.std.proofs.Common.{◌≡◌, ℕ, Bool, List, length, Option, Some, None, Result, Ok, Err, sym, ap, ◌∙◌}
use Rattle.std.proofs.lemmas.List.{length-map}
use Rattle.wr_geom.specs.declared.keys.TileKey.{TileKey}
use Rattle.wr_io.specs.declared.fault.Fault.{Fault}
use Rattle.field_forms.specs.Form.{next}
use Rattle.txn_format.specs.Grammar.{txn_at}
use Rattle.txn_format.specs.Txn.{TxnModel}
use Rattle.kept_tiles.specs.Tiles.{KeptModel, KeptTile, kept_of}
use Rattle.kept_tiles.specs.Work.{Records, records_of}
use Rattle.scene_state.specs.Operations.{Next}
use Rattle.scene_state.specs.Limits.{next_scene}
use Rattle.scene_state.specs.declared.error.ApplyError.{ApplyError}
use Rattle.scene_state.specs.declared.error.ApplyError.TheVariants as errors
use Rattle.tile_compositor.specs.FrameModel.{FrameModel}
use Rattle.renderer.specs.declared.answer.Answer.{Answer}
use Rattle.renderer.specs.declared.answer.Answer.TheVariants as answers
use Rattle.renderer.specs.Drops.{tiles_left}
use Rattle.renderer.specs.Frames.{IsThere}
use Rattle.renderer.specs.Outcome.{Applies}
use Rattle.renderer.specs.RendererModel.{RendererModel}
use Rattle.renderer.proofs.Readying.{records_left}
use Rattle.renderer.proofs.Trimming.{count_kept}
use Rattle.scene_state.specs.SceneModel.{SceneModel}
use Rattle.renderer.specs.Frames.{ShowScene}
use Rattle.frame_replay.specs.Frame.{FramePixels, scene_pixels}
use Rattle.frame_replay.specs.Answer.{Accepted, ReplayState, accepted, accepted_by, applied, pixels_of, state_of, state_with, work_after}
use Rattle.frame_replay.proofs.Shown.{plane_pixels_are}
use Rattle.frame_replay.specs.Replaying.{Replays}

there : (P Q : FrameModel → Type 0) → ((f : FrameModel) → P f → Q f) → (o : Option FrameModel) → IsThere P o → IsThere Q o
there P Q f None h = h
there P Q f (Some frame) h = f frame h

-- the last frame shows the scene's pixels
shown_is : (s : SceneModel) (o : Option FrameModel) → IsThere (λ f. ShowScene s f.planes) o → Some (scene_pixels s) ≡ pixels_of o
shown_is s None h = absurd h
shown_is s (Some f) h = ap (λ (p : FramePixels). Some p) (sym (plane_pixels_are s f.planes h))

-- as many records as tiles
count_records : (k : KeptModel) → length (records_of (kept_of k)) ≡ length k.store.tiles
count_records k = length-map (kept_of k) (λ (e : TileKey × KeptTile). (e.0, e.1.entries)) ∙ count_kept k

module _ (payload : List ℕ) (txn : TxnModel) (old new : RendererModel) (read : txn_at payload ≡ Ok txn) where
  abbrev left : Records
  left = tiles_left txn old.scene.policy (records_of (kept_of old.kept))

  abbrev made : Accepted
  made = accepted_by txn (state_of old) (new.scene, new.last)

  -- the answer of the model, where there is a next scene
  made_is : next_scene txn old.scene old.last ≡ Ok (new.scene, new.last) → accepted payload (state_of old) ≡ Ok made
  made_is is =
      ap (λ (r : Result TxnModel Fault). next r (applied (state_of old))) read ∙ ap (λ (n : Next). next n (λ m. Ok (accepted_by txn (state_of old) m))) is

  refused_is : (fault : Fault) → next_scene txn old.scene old.last ≡ Err fault → accepted payload (state_of old) ≡ Err fault
  refused_is fault is =
      ap (λ (r : Result TxnModel Fault). next r (applied (state_of old))) read ∙ ap (λ (n : Next). next n (λ m. Ok (accepted_by txn (state_of old) m))) is

  state_is : (work_after txn.frame new.scene left).kept ≡ records_of (kept_of new.kept) → made.state.opened ≡ new.kept.store.opened → made.state.frame ≡ pixels_of new.frame → made.state ≡ state_of new
  state_is kept opened frame =
      ap (λ (l : Records). let s : ReplayState = record { scene = new.scene; last = new.last; kept = l; opened = made.state.opened; frame = made.state.frame } in s) kept
      ∙ ap (λ (n : ℕ). let s : ReplayState = record { scene = new.scene; last = new.last; kept = records_of (kept_of new.kept); opened = n; frame = made.state.frame } in s) opened
      ∙ ap (λ (f : Option FramePixels). let s : ReplayState = record { scene = new.scene; last = new.last; kept = records_of (kept_of new.kept); opened = new.kept.store.opened; frame = f } in s) frame

  -- what was drawn so far, and the last frame, with a frame or without
  abbrev drawn_with : Bool → ℕ
  drawn_with b = (state_with b (new.scene, new.last) (work_after b new.scene left) (state_of old)).opened

  abbrev frame_with : Bool → Option FramePixels
  frame_with b = (state_with b (new.scene, new.last) (work_after b new.scene left) (state_of old)).frame

  pub replays_by : (r : Result Answer ApplyError) → Applies txn old new r → Replays payload old new r
  replays_by (Ok answers.Accepted) h =
      let kept = ap (λ (b : Bool). (work_after b new.scene left).kept) h.unframed ∙ sym (ap records_of h.kept ∙ records_left txn old.scene (kept_of old.kept)) in
      record { made = made; is = made_is h.next; unframed = h.unframed; state = state_is kept (ap drawn_with h.unframed ∙ sym h.opened) (ap frame_with h.unframed ∙ sym (ap pixels_of h.frame)) }
  replays_by (Ok (answers.Framed report)) h =
      let kept = ap (λ (b : Bool). (work_after b new.scene left).kept) h.framed ∙ sym h.kept in
      record {
        made = made;
        is = made_is h.next;
        framed = h.framed;
        state = state_is kept (ap drawn_with h.framed ∙ sym h.opened) (ap frame_with h.framed ∙ shown_is new.scene new.frame (there _ _ (λ f is. is.shows) new.frame h.frame));
        frame = there _ _ (λ f is. is.shows) new.frame h.frame;
        tiles = h.tiles ∙ sym (count_records new.kept) ∙ sym (ap (λ (l : Records). length l) kept);
        drawn = h.drawn ∙ sym (ap (λ (b : Bool). (work_after b new.scene left).cost) h.framed);
        most = h.most;
      }
  replays_by (Err (errors.Fault fault)) h = record { is = refused_is fault h.next; same = h.same }
  replays_by (Err errors.NoMemory) h = tt
