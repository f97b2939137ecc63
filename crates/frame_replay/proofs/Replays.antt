-- A replay refuses no transaction with a status of its own, and painting writes the same.
use Rattle.std.proofs.Common.{◌≡◌, ℕ, Bool, true, false, List, [], ◌∷◌, ◌++◌, append-nil, None, Result, Ok, Err, refl, sym, ap, ap₂, ◌∙◌}
use Rattle.wr_io.specs.declared.fault.Fault.{Fault}
use Rattle.field_forms.specs.Form.{next}
use Rattle.txn_format.specs.Txn.{TxnModel}
use Rattle.txn_format.specs.Grammar.{txn_at}
use Rattle.record_frame.specs.Answers.{first_refusal, records_from}
use Rattle.scene_state.specs.SceneModel.{SceneModel}
use Rattle.scene_state.specs.Operations.{Next}
use Rattle.scene_state.specs.Limits.{next_scene}
use Rattle.frame_replay.specs.Frame.{frame_record}
use Rattle.frame_replay.specs.Answer.{Accepted, ReplayState, accepted_by, accepted_record, next_state, record_for, replayed, replaying, start_state, state_for}
use Rattle.frame_replay.specs.Painting.{SceneAnswer, SceneState, next_scene_of, painted, painted_by, painted_for, painting, scene_for, scene_start}

pub none_refused : (stats : Bool) (payloads : List (List ℕ)) (state : ReplayState) → first_refusal replaying (stats, state) payloads ≡ None
none_refused stats [] state = refl
none_refused stats (payload ∷ payloads) state = none_refused stats payloads (next_state payload state)

none_painted : (payloads : List (List ℕ)) (state : SceneState) → first_refusal painting state payloads ≡ None
none_painted [] state = refl
none_painted (payload ∷ payloads) state = none_painted payloads (next_scene_of payload state)

-- ---- painting, transaction by transaction

-- of a state of a replay, what painting keeps
abbrev pub scene_of : ReplayState → SceneState
scene_of state = (state.scene, state.last)

-- two answers say the same of the scene, and make the same record
pub record SameAnswer (paint : SceneAnswer) (made : Result Accepted Fault) (state : ReplayState) : Type 0 where
  pub records : painted_for paint ≡ record_for false made
  pub states : scene_for paint (scene_of state) ≡ scene_of (state_for made state)

same_frame : (frame : Bool) (s : SceneModel) (made : Accepted) → made.frame ≡ frame → made.state.scene ≡ s → painted_by frame s ≡ accepted_record false made
same_frame true s made f e = rw f (rw e (sym (append-nil (frame_record s))))
same_frame false s made f e = rw f refl

same_made : (txn : TxnModel) (state : ReplayState) (made : Next) → SameAnswer (next made (λ m. Ok (m, txn.frame))) (next made (λ m. Ok (accepted_by txn state m))) state
same_made txn state (Ok m) = record { records = same_frame txn.frame m.0 (accepted_by txn state m) refl refl; states = refl }
same_made txn state (Err fault) = record { records = refl; states = refl }

same_read : (state : ReplayState) (read : Result TxnModel Fault)
    → SameAnswer (next read (λ txn. next (next_scene txn state.scene state.last) (λ m. Ok (m, txn.frame)))) (next read (λ txn. next (next_scene txn state.scene state.last) (λ m. Ok (accepted_by txn state m)))) state
same_read state (Ok txn) = same_made txn state (next_scene txn state.scene state.last)
same_read state (Err fault) = record { records = refl; states = refl }

same_records : (payloads : List (List ℕ)) (state : ReplayState) → records_from painting (scene_of state) payloads ≡ records_from replaying (false, state) payloads
same_records [] state = refl
same_records (payload ∷ payloads) state =
    let same = same_read state (txn_at payload) in
    ap₂ (λ (bytes : List ℕ) (s : SceneState). bytes ++ records_from painting s payloads) same.records same.states
    ∙ ap (λ (rest : List ℕ). record_for false (next (txn_at payload) (λ txn. next (next_scene txn state.scene state.last) (λ m. Ok (accepted_by txn state m)))) ++ rest) (same_records payloads (next_state payload state))

pub paint_is_replay : painted ≡ replayed false
paint_is_replay = λ i. record {
  form = painted.form;
  magic = painted.magic;
  records = λ payloads. same_records payloads start_state i;
  refusal = λ payloads. (none_painted payloads scene_start ∙ sym (none_refused false payloads start_state)) i;
}
