-- So many of one kind, rolled and put one after another.
use Rattle.std.proofs.Common.{◌≡◌, ℕ, suc, List, ◌++◌, refl, sym, ap, ap₂, subst, ◌∙◌, append_assoc, append-nil}
use Rattle.std.specs.List.{flat_map}
use Rattle.file_generator.specs.Rolls.{Rolled, rolled_list, IsPut}

-- what is left to put, from here, leads to all
pub record IsLeft {X : Type 0} (bytes : X → List ℕ) (one : ℕ → Rolled X) (left : ℕ) (out : List ℕ) (state : ℕ) (all : List ℕ) (end : ℕ) : Type 0 where
  pub bytes_lead : out ++ flat_map bytes (rolled_list one left state).value ≡ all
  pub state_leads : (rolled_list one left state).state ≡ end

-- all of it is left at the start
pub left_all : {X : Type 0} (bytes : X → List ℕ) (one : ℕ → Rolled X) (n : ℕ) (out : List ℕ) (state : ℕ)
    → IsLeft bytes one n out state (out ++ flat_map bytes (rolled_list one n state).value) (rolled_list one n state).state
left_all bytes one n out state = record { bytes_lead = refl; state_leads = refl }

-- one more is put
pub left_one : {X : Type 0} (bytes : X → List ℕ) (one : ℕ → Rolled X) (n left : ℕ) (out new : List ℕ) (state after : ℕ) (all : List ℕ) (end : ℕ)
    → n ≡ suc left → IsLeft bytes one n out state all end → IsPut bytes one out new state after → IsLeft bytes one left new after all end
unfolding rolled_list
left_one {X} bytes one n left out new state after all end e is put =
    let had : IsLeft bytes one (suc left) out state all end = subst (λ (k : ℕ). IsLeft bytes one k out state all end) e is in
    let rest : ℕ → List ℕ = λ s. flat_map bytes (rolled_list one left s).value in
    record {
      bytes_lead = ap₂ (λ (o : List ℕ) (s : ℕ). o ++ rest s) put.out put.state ∙ append_assoc out (bytes (one state).value) (rest (one state).state) ∙ had.bytes_lead;
      state_leads = ap (λ (s : ℕ). (rolled_list one left s).state) put.state ∙ had.state_leads;
    }

-- none is left
pub left_none : {X : Type 0} (bytes : X → List ℕ) (one : ℕ → Rolled X) (n : ℕ) (out start : List ℕ) (state first : ℕ) (left : ℕ)
    → left ≡ 0 → IsLeft bytes one left out state (start ++ flat_map bytes (rolled_list one n first).value) (rolled_list one n first).state
    → IsPut (flat_map bytes) (rolled_list one n) start out first state
unfolding rolled_list
left_none {X} bytes one n out start state first left e is =
    let had : IsLeft bytes one 0 out state (start ++ flat_map bytes (rolled_list one n first).value) (rolled_list one n first).state =
    subst (λ (k : ℕ). IsLeft bytes one k out state (start ++ flat_map bytes (rolled_list one n first).value) (rolled_list one n first).state) e is in
    record { out = sym (append-nil out) ∙ had.bytes_lead; state = had.state_leads }
