-- How payloads are answered that are refused, and that are accepted.
use Rattle.std.proofs.Common.{◌≡◌, ℕ, ◌+◌, Bool, false, List, [], ◌∷◌, ◌++◌, Result, Ok, Err, refl, ap, ap₂, ◌∙◌}
use Rattle.wr_io.specs.declared.fault.Code.{Code}
use Rattle.wr_io.specs.declared.fault.Fault.{Fault}
use Rattle.field_forms.specs.Form.{next, fault}
use Rattle.display_list.specs.ListModel.{ListModel}
use Rattle.display_list.proofs.ReadLists.{first_read}
use Rattle.txn_format.specs.Txn.{PlacedModel, TxnModel, set_list}
use Rattle.txn_format.specs.Grammar.{TxnSpells, IsFirstTxnFault}
use Rattle.txn_format.proofs.WholeTxns.{txn_again, fault_again}
use Rattle.scene_state.specs.SceneModel.{SceneModel}
use Rattle.scene_state.specs.Operations.{Next, after_op, after_ops, then_next, where_read}
use Rattle.scene_state.specs.Limits.{next_scene, limit_of, where_none}
use Rattle.kept_tiles.specs.Work.{Work}
use Rattle.renderer.specs.Drops.{tiles_left}
use Rattle.frame_replay.specs.Answer.{ReplayState, Accepted, accepted, accepted_by, accepted_with, applied, record_for, state_for, work_after}
use Rattle.frame_replay.specs.Laws.{IsRefusedWith, IsAccepted, SendsFaultyList, state_without_frame}

-- what follows a transaction that was read, or not
abbrev after_read : ReplayState → Result TxnModel Fault → Result Accepted Fault
after_read state read = next read (applied state)

-- what follows a next scene, or none
abbrev after_next : TxnModel → ReplayState → Next → Result Accepted Fault
after_next txn state made = next made (λ m. Ok (accepted_by txn state m))

refused_with : (payload : List ℕ) (state : ReplayState) (c : Code) (p : ℕ) → accepted payload state ≡ fault c p → IsRefusedWith payload state c p
refused_with payload state c p e = record { refusal = λ stats. ap (record_for stats) e; stays = ap (λ (r : Result Accepted Fault). state_for r state) e }

pub first_fault : (payload : List ℕ) (state : ReplayState) (c : Code) (p : ℕ) → IsFirstTxnFault payload c p → IsRefusedWith payload state c p
first_fault payload state c p h = refused_with payload state c p (ap (after_read state) (fault_again payload c p h))

pub scene_fault : (payload : List ℕ) (txn : TxnModel) (state : ReplayState) (c : Code) (p : ℕ) → TxnSpells txn payload → next_scene txn state.scene state.last ≡ Err (record { code = c; at = p }) → IsRefusedWith payload state c p
scene_fault payload txn state c p spelled e =
    refused_with payload state c p (ap (after_read state) (txn_again txn payload spelled) ∙ ap (after_next txn state) e)

-- what follows a success
next_made : (made : Next) (follows : SceneModel → ℕ → Next) (end : SceneModel × ℕ) → then_next made follows ≡ Ok end → (one : SceneModel × ℕ) × (made ≡ Ok one) × (follows one.0 one.1 ≡ Ok end)
next_made (Ok one) follows end e = (one, refl, e)
next_made (Err f) follows end e = absurd cc

-- an operation that is refused, after others that are applied, refuses all
refused_after : (pipeline : ℕ) (before after : List PlacedModel) (op : PlacedModel) (s : SceneModel) (last : ℕ) (made : SceneModel × ℕ) (f : Fault) → after_ops pipeline before s last ≡ Ok made
    → ((s : SceneModel) (last : ℕ) → after_op pipeline op.at op.op s last ≡ Err f) → after_ops pipeline (before ++ op ∷ after) s last ≡ Err f
refused_after pipeline [] after op s last made f e refused = ap (λ (n : Next). then_next n (after_ops pipeline after)) (refused s last)
refused_after pipeline (b ∷ before) after op s last made f e refused =
    let one = next_made (after_op pipeline b.at b.op s last) (after_ops pipeline before) made e in
    ap (λ (n : Next). then_next n (after_ops pipeline (before ++ op ∷ after))) one.1 ∙ refused_after pipeline before after op one.0.0 one.0.1 made f one.2 refused

pub list_fault : (payload : List ℕ) (state : ReplayState) (at : ℕ) (c : Code) (p : ℕ) → SendsFaultyList payload state at c p → IsRefusedWith payload state c (at + 9 + p)
list_fault payload state at c p h =
    let t = h.txn in
    let op : PlacedModel = record { at = at; op = set_list h.epoch h.bytes } in
    let refused : (s : SceneModel) (last : ℕ) → after_op t.pipeline at (set_list h.epoch h.bytes) s last ≡ fault c (at + 9 + p) =
    λ s last. ap (λ (r : Result ListModel Fault). where_read t.pipeline (at + 9) h.epoch r s last) (first_read t.pipeline h.bytes c p h.faulty) in
    let ops : after_ops t.pipeline t.ops state.scene state.last ≡ fault c (at + 9 + p) =
    ap (λ (ops : List PlacedModel). after_ops t.pipeline ops state.scene state.last) h.ops_are ∙ refused_after t.pipeline h.before h.after op state.scene state.last h.made (record { code = c; at = at + 9 + p }) h.applied refused in
    scene_fault payload t state c (at + 9 + p) h.spelled (ap (λ (n : Next). then_next n (λ made counter. where_none (limit_of made) t.len made counter)) ops)

pub accepted_answer : (payload : List ℕ) (txn : TxnModel) (state : ReplayState) (made : SceneModel × ℕ) → TxnSpells txn payload → txn.frame ≡ false → next_scene txn state.scene state.last ≡ Ok made
    → IsAccepted payload state (state_without_frame txn state made)
accepted_answer payload txn state made spelled off e =
    let work : work_after txn.frame made.0 (tiles_left txn state.scene.policy state.kept) ≡ record { kept = tiles_left txn state.scene.policy state.kept; cost = 0 } = (rw off refl) in
    let by : accepted_by txn state made ≡ accepted_with false made (record { kept = tiles_left txn state.scene.policy state.kept; cost = 0 }) state = ap₂ (λ (b : Bool) (w : Work). accepted_with b made w state) off work in
    let is : accepted payload state ≡ Ok (accepted_with false made (record { kept = tiles_left txn state.scene.policy state.kept; cost = 0 }) state) =
    ap (after_read state) (txn_again txn payload spelled) ∙ ap (after_next txn state) e ∙ ap (λ (a : Accepted). Ok a) by in
    record {
      answer = λ stats. ap (record_for stats) is;
      made = ap (λ (r : Result Accepted Fault). state_for r state) is;
    }
