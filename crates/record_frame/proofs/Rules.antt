-- Records and refusals of several entries.
use Rattle.std.proofs.Common.{◌≡◌, List, [], ◌∷◌, ◌++◌, ℕ, Option, Some, None, refl, sym, ap, ◌∙◌, append_assoc, append-nil}
use Rattle.wr_io.specs.declared.fault.Fault.{Fault}
use Rattle.record_frame.specs.Answers.{AnswerRule, unless, or_else, records_from, first_refusal, state_after}
use Rattle.record_frame.specs.Writing.{IsPrefix}

one_more : (o f : Option Fault) (x a b c : List ℕ) → or_else o f ≡ None → (f ≡ None → a ≡ b ++ c) → unless o (x ++ a) ≡ unless o (x ++ b) ++ c
one_more None f x a b c none more = ap (λ l. x ++ l) (more none) ∙ sym (append_assoc x b c)
one_more (Some fault) f x a b c none more = cc none

stops_there : (o f : Option Fault) (fault : Fault) (x a b : List ℕ) → or_else o f ≡ Some fault → (f ≡ Some fault → a ≡ b) → unless o (x ++ a) ≡ unless o (x ++ b)
stops_there None f fault x a b some same = ap (λ l. x ++ l) (same some)
stops_there (Some first) f fault x a b some same = refl

or_else_again : (o f g h : Option Fault) → f ≡ or_else g h → or_else o f ≡ or_else (or_else o g) h
or_else_again None f g h e = e
or_else_again (Some fault) f g h e = refl

module _ {R S : Type 0} (rule : AnswerRule R S) where
  pub records-append : (ps qs : List R) (s : S) → first_refusal rule s ps ≡ None → records_from rule s (ps ++ qs) ≡ records_from rule s ps ++ records_from rule (state_after rule ps s) qs
  records-append [] qs s none = refl
  records-append (p ∷ ps) qs s none =
      one_more (rule.refusal p s) (first_refusal rule (rule.next p s) ps) (rule.record_of p s) (records_from rule (rule.next p s) (ps ++ qs)) (records_from rule (rule.next p s) ps) (records_from rule (state_after rule ps (rule.next p s)) qs)
      none (λ e. records-append ps qs (rule.next p s) e)

  pub records_stop : (ps qs : List R) (s : S) (fault : Fault) → first_refusal rule s ps ≡ Some fault → records_from rule s (ps ++ qs) ≡ records_from rule s ps
  records_stop [] qs s fault some = cc some
  records_stop (p ∷ ps) qs s fault some =
      stops_there (rule.refusal p s) (first_refusal rule (rule.next p s) ps) fault (rule.record_of p s) (records_from rule (rule.next p s) (ps ++ qs)) (records_from rule (rule.next p s) ps) some (λ e. records_stop ps qs (rule.next p s) fault e)

  pub refusal-append : (ps qs : List R) (s : S) → first_refusal rule s (ps ++ qs) ≡ or_else (first_refusal rule s ps) (first_refusal rule (state_after rule ps s) qs)
  refusal-append [] qs s = refl
  refusal-append (p ∷ ps) qs s =
      or_else_again (rule.refusal p s) (first_refusal rule (rule.next p s) (ps ++ qs)) (first_refusal rule (rule.next p s) ps) (first_refusal rule (state_after rule ps (rule.next p s)) qs) (refusal-append ps qs (rule.next p s))

  pub records_last : (ps : List R) (p : R) (s : S) → first_refusal rule s ps ≡ None → records_from rule s (ps ++ p ∷ []) ≡ records_from rule s ps ++ unless (rule.refusal p (state_after rule ps s)) (rule.record_of p (state_after rule ps s))
  records_last ps p s none =
      records-append ps (p ∷ []) s none ∙ ap (λ l. records_from rule s ps ++ unless (rule.refusal p (state_after rule ps s)) l) (append-nil (rule.record_of p (state_after rule ps s)))

  pub refusal_last : (ps : List R) (p : R) (s : S) → first_refusal rule s ps ≡ None → first_refusal rule s (ps ++ p ∷ []) ≡ or_else (rule.refusal p (state_after rule ps s)) None
  refusal_last ps p s none = refusal-append ps (p ∷ []) s ∙ ap (λ o. or_else o (or_else (rule.refusal p (state_after rule ps s)) None)) none

  pub state_last : (ps : List R) (p : R) (s : S) → state_after rule (ps ++ p ∷ []) s ≡ rule.next p (state_after rule ps s)
  state_last [] p s = refl
  state_last (q ∷ ps) p s = state_last ps p (rule.next q s)

  pub records_prefix : (ps qs : List R) (s : S) → IsPrefix ps qs → IsPrefix (records_from rule s ps) (records_from rule s qs)
  records_prefix ps qs s h = by_refusal (first_refusal rule s ps) refl
    where
      by_refusal : (o : Option Fault) → first_refusal rule s ps ≡ o → IsPrefix (records_from rule s ps) (records_from rule s qs)
      by_refusal None e =
          (records_from rule (state_after rule ps s) h.0, ap (records_from rule s) h.1 ∙ records-append ps h.0 s e)
      by_refusal (Some fault) e =
          ([], ap (records_from rule s) h.1 ∙ records_stop ps h.0 s fault e ∙ sym (append-nil (records_from rule s ps)))
