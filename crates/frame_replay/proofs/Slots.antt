-- What a replay writes after the magics, and what the slot holds.
use Rattle.std.proofs.Common.{◌≡◌, ◌≢◌, ◌⊎◌, ℕ, Bool, List, [], ◌++◌, Option, MatchOption, Some, None, IfSome, Ok, Err, refl, sym, ap, ap₂, subst, ◌∙◌, arith}
use Rattle.record_frame.specs.Framing.{entries_of, framing}
use Rattle.record_frame.specs.Answers.{state_after}
use Rattle.record_frame.specs.Outcome.{OpeningLeaves}
use Rattle.record_frame.specs.Reading.{Took}
use Rattle.record_frame.specs.Transactions.{has_magic, transactions}
use Rattle.record_frame.specs.declared.error.RunError.{RunError}
use Rattle.record_frame.specs.declared.error.RunError.TheVariants.{BrokenInput, Refused, ReadFailed, WriteFailed, OutOfMemory}
use Rattle.record_frame.proofs.FirstRecords.{transactions_form}
use Rattle.record_frame.proofs.Framings.{framing_empty}
use Rattle.record_frame.proofs.Magic.{closing_after, entries_after, input_after}
use Rattle.record_frame.proofs.Openings.{input_unopened}
use Rattle.record_frame.proofs.Progress.{body_with}
use Rattle.record_frame.proofs.Takings.{joined}
use Rattle.record_frame.proofs.Writing.{nothing_written}
use Rattle.renderer.specs.RendererModel.{RendererModel}
use Rattle.frame_replay.specs.Answer.{ReplayState, body_replayed, replayed, replaying, start_state, state_after_all, state_of}
use Rattle.frame_replay.specs.Outcome.{BodyCompletes, BodyOutcome, Completes, Outcome, ReachesEnd, status_of}
use Rattle.frame_replay.specs.Slot.{Holds, HoldsIf, SlotAfterRecords, SlotAfterReplay}
use Rattle.frame_replay.proofs.Outcomes.{completes_of, outcome_of}

-- the same of what was taken, with what follows it
pub after_taken : (start mid new : Option (List ℕ)) (P Q R : List ℕ → List ℕ → Type 0) → ((t u s : List ℕ) → P t (u ++ s) → Q u s → R (t ++ u) s)
    → IfSome start (λ b. Took b mid P) → IfSome mid (λ b. Took b new Q) → IfSome start (λ b. Took b new R)
after_taken start mid new P Q R step = joined start mid new P Q R (λ t r u s split h q. step t u s (subst (P t) split h) q)

-- memory ran out before the first record was read
pub no_renderer : (stats : Bool) (left written : Option (List ℕ)) → IfSome left (λ bytes. Took bytes left (BodyOutcome (body_replayed stats) 5 written written))
no_renderer stats None written = tt
no_renderer stats (Some bytes) written = record {
  taken = [];
  rest = bytes;
  split = refl;
  now = refl;
  fact = record {
    ended = Err OutOfMemory;
    is = refl;
    leaves = record {
      out = [];
      wrote = nothing_written written;
      part = ((body_replayed stats).records (framing transactions 4294967295 []).entries, refl);
      has = rw (framing_empty transactions transactions_form 4294967295) ([], refl);
      in_turn = rw (framing_empty transactions transactions_form 4294967295) ([], refl);
    };
  };
}

-- a slot holds the renderer that was led through all transactions
pub slot_led : (stats : Bool) (status : ℕ) (new : RendererModel) (start : ReplayState) (payloads : List (List ℕ)) → start ≡ start_state
    → ReachesEnd replaying status (stats, start) (stats, state_of new) payloads → SlotAfterRecords stats status payloads (Some new)
slot_led stats status new start payloads from ends = record { done = λ e. there (ends.done e); broken = λ e. there (ends.broken e) }
  where
    there : (stats, state_of new) ≡ state_after replaying payloads (stats, start) → state_of new ≡ state_after_all payloads stats start_state
    there reached = ap (λ (s : Bool × ReplayState). s.1) reached ∙ ap (λ (s : ReplayState). state_after_all payloads stats s) from

module _ (stats : Bool) (w0 w1 : Option (List ℕ)) where
  -- ---- the magic isn't there, or wasn't written whole

  pub outcome_unopened : (e : RunError) (t r : List ℕ) → OpeningLeaves has_magic (replayed stats).magic w0 w1 (Err e) t r → Outcome (replayed stats) (status_of (Err e)) w0 w1 t r
  outcome_unopened e t r h = outcome_of (replayed stats) w0 w1 t r (Err e) (input_unopened (replayed stats) transactions_form refl w0 w1 e t r h)

  pub completes_unopened : (e : RunError) (t r : List ℕ) → status_of (Err e) ≢ 3 → status_of (Err e) ≢ 4 → OpeningLeaves has_magic (replayed stats).magic w0 w1 (Err e) t r → Completes (replayed stats) (status_of (Err e)) (t ++ r)
  completes_unopened e t r no_read no_write h = completes_of (replayed stats) w0 w1 t r (Err e) (input_unopened (replayed stats) transactions_form refl w0 w1 e t r h) no_read no_write

  pub slot_unopened : (e : RunError) (slot : Option RendererModel) (t r : List ℕ) → OpeningLeaves has_magic (replayed stats).magic w0 w1 (Err e) t r → SlotAfterReplay stats (status_of (Err e)) (t ++ r) slot slot
  slot_unopened BrokenInput slot t r h = record { done = λ e. absurd (omega (arith, e)); broken = λ _. subst (λ (b : Bool). HoldsIf b (state_after_all (entries_of transactions (t ++ r)) stats start_state) slot slot) (sym h.0.1) refl }
  slot_unopened (Refused fault) slot t r h = absurd h
  slot_unopened ReadFailed slot t r h = record { done = λ e. absurd (omega (arith, e)); broken = λ e. absurd (omega (arith, e)) }
  slot_unopened WriteFailed slot t r h = record { done = λ e. absurd (omega (arith, e)); broken = λ e. absurd (omega (arith, e)) }
  slot_unopened OutOfMemory slot t r h = record { done = λ e. absurd (omega (arith, e)); broken = λ e. absurd (omega (arith, e)) }

  -- ---- the magic is there

  pub outcome_opened : (w2 : Option (List ℕ)) (status : ℕ) (t u s : List ℕ) → OpeningLeaves has_magic (replayed stats).magic w0 w1 (Ok tt) t (u ++ s) → BodyOutcome (body_replayed stats) status w1 w2 u s → Outcome (replayed stats) status w0 w2 (t ++ u) s
  outcome_opened w2 status t u s h q =
      subst (λ (n : ℕ). Outcome (replayed stats) n w0 w2 (t ++ u) s) (sym q.is)
      (outcome_of (replayed stats) w0 w2 (t ++ u) s q.ended
      (input_after (replayed stats) transactions_form refl w0 w1 w2 t u s h.1 h.0.0 h.0.1 q.ended (body_with transactions (replayed stats).magic replaying (stats, start_state) 4294967295 w1 w2 q.ended u s q.leaves)))

  pub completes_opened : (status : ℕ) (t r : List ℕ) → OpeningLeaves has_magic (replayed stats).magic w0 w1 (Ok tt) t r → BodyCompletes (body_replayed stats) status r → Completes (replayed stats) status (t ++ r)
  completes_opened status t r h q =
      subst (λ (p : List (List ℕ) × Option (List ℕ)). (status ≡ 5) ⊎ MatchOption ((replayed stats).refusal p.0) (MatchOption p.1 (status ≡ 2) (λ _. status ≡ 0)) (λ _. status ≡ 6))
      (ap₂ (λ (l : List (List ℕ)) (o : Option (List ℕ)). (l, o)) (sym (entries_after (replayed stats) t r h.0.0 (h.0.1 r))) (sym (closing_after (replayed stats) t r h.0.0 (h.0.1 r)))) q

  pub slot_opened : (status : ℕ) (old new : Option RendererModel) (t r : List ℕ) → OpeningLeaves has_magic (replayed stats).magic w0 w1 (Ok tt) t r → SlotAfterRecords stats status (framing transactions 4294967295 r).entries new
      → SlotAfterReplay stats status (t ++ r) old new
  slot_opened status old new t r h q =
      let entries : (framing transactions 4294967295 r).entries ≡ entries_of transactions (t ++ r) = sym (entries_after (replayed stats) t r h.0.0 (h.0.1 r)) in
      let there : Holds (state_after_all (framing transactions 4294967295 r).entries stats start_state) new → Holds (state_after_all (entries_of transactions (t ++ r)) stats start_state) new =
      subst (λ (l : List (List ℕ)). Holds (state_after_all l stats start_state) new) entries in
      record {
        done = λ e. there (q.done e);
        broken = λ e. subst (λ (b : Bool). HoldsIf b (state_after_all (entries_of transactions (t ++ r)) stats start_state) old new) (sym (h.0.1 r)) (there (q.broken e));
      }
