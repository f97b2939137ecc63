-- Laws of what commands write.
use Rattle.std.specs.Prelude.{◌≡◌, ◌↔◌, ℕ, ◌+◌, List, [], ◌∷◌, ◌++◌, Bool, false, IsTrue, None, Ok, Err}
use Rattle.wr_io.specs.declared.fault.Code.{Code}
use Rattle.display_list.specs.Grammar.{IsFirstFault}
use Rattle.txn_format.specs.Txn.{PlacedModel, TxnModel, set_list}
use Rattle.txn_format.specs.Grammar.{TxnSpells, IsFirstTxnFault}
use Rattle.scene_limits.specs.Drawn.{IsDrawn}
use Rattle.scene_state.specs.SceneModel.{SceneModel}
use Rattle.scene_state.specs.Limits.{IsScene, next_scene}
use Rattle.scene_state.specs.Operations.{after_ops}
use Rattle.renderer.specs.Drops.{tiles_left}
use Rattle.frame_replay.specs.Drawn.{is_pipeline_drawn}
use Rattle.frame_replay.specs.Answer.{ReplayState, refusal_record, record_of, next_state, replayed}
use Rattle.frame_replay.specs.Painting.{painted}

-- `replay` refuses no transaction with a status of its own, whatever the transactions are.
abbrev pub ReplayRefusesNone : Type 0
ReplayRefusesNone = (stats : Bool) (payloads : List (List ℕ)) → (replayed stats).refusal payloads ≡ None

-- `paint` writes what `replay` writes, byte for byte.
abbrev pub PaintIsReplay : Type 0
PaintIsReplay = painted ≡ replayed false

-- a payload is answered by a refusal, and leaves the state
pub record IsRefusedWith (payload : List ℕ) (state : ReplayState) (c : Code) (p : ℕ) : Type 0 where
  pub refusal : (stats : Bool) → record_of stats payload state ≡ refusal_record c p
  pub stays : next_state payload state ≡ state

-- A payload that spells no transaction is refused with its first fault.
abbrev pub FirstFaultIsAnswered : Type 0
FirstFaultIsAnswered = (payload : List ℕ) (state : ReplayState) (c : Code) (p : ℕ) → IsFirstTxnFault payload c p → IsRefusedWith payload state c p

-- A transaction without a next scene is refused with the fault that is there in its place.
abbrev pub SceneFaultIsAnswered : Type 0
SceneFaultIsAnswered =
    (payload : List ℕ) (txn : TxnModel) (state : ReplayState) (c : Code) (p : ℕ) → TxnSpells txn payload → next_scene txn state.scene state.last ≡ Err (record { code = c; at = p })
    → IsRefusedWith payload state c p

-- The payload spells a transaction, the operation at a position sets a list with a fault, and those before it are applied.
pub record SendsFaultyList (payload : List ℕ) (state : ReplayState) (at : ℕ) (c : Code) (p : ℕ) : Type 0 where
  pub txn : TxnModel
  pub spelled : TxnSpells txn payload
  pub before : List PlacedModel
  pub after : List PlacedModel
  pub epoch : ℕ
  pub bytes : List ℕ
  pub ops_are : txn.ops ≡ before ++ record { at = at; op = set_list epoch bytes } ∷ after
  pub made : SceneModel × ℕ
  pub applied : after_ops txn.pipeline before state.scene state.last ≡ Ok made
  pub faulty : IsFirstFault txn.pipeline bytes c p

-- It is refused with the list's first fault, whose position is counted from the payload's first byte: the list begins nine bytes after the operation's tag.
abbrev pub ListFaultIsAnswered : Type 0
ListFaultIsAnswered = (payload : List ℕ) (state : ReplayState) (at : ℕ) (c : Code) (p : ℕ) → SendsFaultyList payload state at c p → IsRefusedWith payload state c (at + 9 + p)

-- a payload is answered by A alone, and makes the next state
pub record IsAccepted (payload : List ℕ) (state after : ReplayState) : Type 0 where
  pub answer : (stats : Bool) → record_of stats payload state ≡ 65 ∷ []
  pub made : next_state payload state ≡ after

-- the state after a transaction without a frame: of the kept tiles stays what the transaction leaves, and what was drawn stays
abbrev pub state_without_frame : TxnModel → ReplayState → SceneModel × ℕ → ReplayState
state_without_frame txn state made =
    record { scene = made.0; last = made.1; kept = tiles_left txn state.scene.policy state.kept; opened = state.opened; frame = state.frame }

-- So is a transaction that has a next scene and asks for no frame.
abbrev pub AcceptedIsAnswered : Type 0
AcceptedIsAnswered =
    (payload : List ℕ) (txn : TxnModel) (state : ReplayState) (made : SceneModel × ℕ) → TxnSpells txn payload → txn.frame ≡ false → next_scene txn state.scene state.last ≡ Ok made
    → IsAccepted payload state (state_without_frame txn state made)

-- The pipelines that are listed are the root where it has a list, and those that have a list and that an Iframe of one that is drawn names.
abbrev pub DrawnAreDrawn : Type 0
DrawnAreDrawn = (s : SceneModel) (p : ℕ) → IsScene s → IsTrue (is_pipeline_drawn s.pipelines p) ↔ IsDrawn s.pipelines p
