-- The next record of a framing, and framings of more or fewer bytes.
use Rattle.std.proofs.Common.{◌≡◌, ℕ, zero, suc, ◌+◌, ◌-◌, List, [], ◌∷◌, ◌++◌, Bool, true, Some, None, length, drop, nat_lt, refl, sym, ap, ◌∙◌, arith, length-append, length-drop, take-append-drop}
use Rattle.std.proofs.lemmas.Bool.Decides.{nat_tests}
use Rattle.std.proofs.lemmas.List.Sums.{sum_by-append}
use Rattle.record_frame.specs.Framing.{FirstRecord, entry, closing, broken, InputForm, IsInputForm, Framing, framing, size_of_all}
use Rattle.record_frame.specs.Writing.{IsPrefix, all_but_last}

-- another entry may stand
pub some_left : (n : ℕ) → nat_lt 0 (suc n) ≡ true
some_left n = grind (arith, nat_tests)

-- the bytes after an entry
abbrev rest_in : {R : Type 0} → FirstRecord R → List ℕ
rest_in (entry r t) = t
rest_in (closing t) = []
rest_in broken = []

module _ {R : Type 0} (form : InputForm R) (is : IsInputForm form) where
  pub framing_more : (n : ℕ) (bytes : List ℕ) (p : R) (t : List ℕ) → form.first true bytes ≡ entry p t → framing form (suc n) bytes ≡ record { entries = p ∷ (framing form n t).entries; after = (framing form n t).after }
  unfolding framing
  framing_more n bytes p t e = rw e refl

  pub framing_close : (n : ℕ) (bytes t : List ℕ) → form.first (nat_lt 0 n) bytes ≡ closing t → framing form n bytes ≡ record { entries = []; after = Some t }
  unfolding framing
  framing_close zero bytes t e = rw e refl
  framing_close (suc n) bytes t e =
      let f : form.first true bytes ≡ closing t = ap (λ b. form.first b bytes) (sym (some_left n)) ∙ e in
      rw f refl

  pub framing_none : (n : ℕ) (bytes : List ℕ) → form.first (nat_lt 0 n) bytes ≡ broken → framing form n bytes ≡ record { entries = []; after = None }
  unfolding framing
  framing_none zero bytes e = rw e refl
  framing_none (suc n) bytes e =
      let f : form.first true bytes ≡ broken = ap (λ b. form.first b bytes) (sym (some_left n)) ∙ e in
      rw f refl

  pub framing_empty : (n : ℕ) → framing form n [] ≡ record { entries = []; after = None }
  framing_empty n = framing_none n [] (is.none (nat_lt 0 n))

  -- a whole entry and no more
  pub framing_whole : (n : ℕ) (bytes : List ℕ) (p : R) → form.first (nat_lt 0 n) bytes ≡ entry p [] → framing form n bytes ≡ record { entries = p ∷ []; after = None }
  framing_whole zero bytes p e = absurd (is.allowed bytes p [] e)
  framing_whole (suc n) bytes p e =
      let f : form.first true bytes ≡ entry p [] = ap (λ b. form.first b bytes) (sym (some_left n)) ∙ e in
      framing_more n bytes p [] f ∙ ap (λ g. record { entries = p ∷ g.entries; after = g.after }) (framing_empty n)

  -- the first record, where it is an entry, is the first entry
  pub framing_first : (n : ℕ) (bytes : List ℕ) (p : R) (t : List ℕ) → form.first (nat_lt 0 n) bytes ≡ entry p t → (f : Framing R) × (framing form n bytes ≡ record { entries = p ∷ f.entries; after = f.after })
  framing_first zero bytes p t e = absurd (is.allowed bytes p t e)
  framing_first (suc n) bytes p t e =
      let f : form.first true bytes ≡ entry p t = ap (λ b. form.first b bytes) (sym (some_left n)) ∙ e in
      (framing form n t, framing_more n bytes p t f)

  -- where the first record is no entry, there are none
  pub no_entries : (n : ℕ) (bytes : List ℕ) → ((p : R) (t : List ℕ) → form.first (nat_lt 0 n) bytes ≡ entry p t → ⊥) → (framing form n bytes).entries ≡ []
  no_entries n bytes not_any = by_first (form.first (nat_lt 0 n) bytes) refl
    where
      by_first : (f : FirstRecord R) → form.first (nat_lt 0 n) bytes ≡ f → (framing form n bytes).entries ≡ []
      by_first (entry p t) e = absurd (not_any p t e)
      by_first (closing t) e = ap (λ g. g.entries) (framing_close n bytes t e)
      by_first broken e = ap (λ g. g.entries) (framing_none n bytes e)

  -- With more bytes the entries stay, and more may follow.
  pub entries_stay : (n : ℕ) (a b : List ℕ) → IsPrefix (framing form n a).entries (framing form n (a ++ b)).entries
  entries_stay zero a b = rw (no_entries zero a (λ p t e. is.allowed a p t e)) ((framing form zero (a ++ b)).entries, refl)
  entries_stay (suc n) a b = by_first (λ t. entries_stay n t b) (form.first true a) refl
    where
      none : ((p : R) (t : List ℕ) → form.first true a ≡ entry p t → ⊥) → IsPrefix (framing form (suc n) a).entries (framing form (suc n) (a ++ b)).entries
      none not_any = rw (no_entries (suc n) a (λ p t e. not_any p t (ap (λ m. form.first m a) (sym (some_left n)) ∙ e))) ((framing form (suc n) (a ++ b)).entries, refl)

      by_first : ((t : List ℕ) → IsPrefix (framing form n t).entries (framing form n (t ++ b)).entries) → (f : FirstRecord R) → form.first true a ≡ f → IsPrefix (framing form (suc n) a).entries (framing form (suc n) (a ++ b)).entries
      by_first stay (entry p t) e =
          let more = stay t in
          rw (framing_more n a p t e, framing_more n (a ++ b) p (t ++ b) (is.stays true a b p t e)) (more.0, ap (λ l. p ∷ l) more.1)
      by_first stay (closing t) e = none (λ p u f. cc (sym e ∙ f))
      by_first stay broken e = none (λ p u f. cc (sym e ∙ f))

  -- Without its last byte a whole entry is none.
  pub cut_first : (m : Bool) (bytes : List ℕ) (q p : R) (t : List ℕ) → form.first m bytes ≡ entry q [] → form.first m (all_but_last bytes) ≡ entry p t → ⊥
  cut_first m bytes q p t all h =
      let last = drop (length bytes - 1) bytes in
      let again : form.first m bytes ≡ entry p (t ++ last) = ap (form.first m) (sym (take-append-drop (length bytes - 1) bytes)) ∙ is.stays m (all_but_last bytes) last p t h in
      let none : 0 ≡ length (t ++ last) = ap length (ap rest_in (sym all ∙ again)) in
      absurd (omega (arith, none, is.whole m bytes q [] all, is.some m bytes q [] all, length-append t last, length-drop (length bytes - 1) bytes))

  -- one more entry
  pub size_of_all_last : (ps : List R) (p : R) → size_of_all form (ps ++ p ∷ []) ≡ size_of_all form ps + form.size p
  size_of_all_last ps p =
      let one : 0 + form.size p ≡ form.size p = omega arith in
      sum_by-append form.size ps (p ∷ []) ∙ ap (λ k. size_of_all form ps + k) one
