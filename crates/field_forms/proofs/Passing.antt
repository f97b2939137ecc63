-- Forms whose fields have one spelling, in both directions.
use Rattle.std.proofs.Common.{◌≡◌, ℕ, zero, suc, ◌+◌, Bool, true, false, List, [], ◌∷◌, ◌++◌, length, refl, sym, ap, subst, ◌∙◌, arith, inl, inr, ◌⊎◌}
use Rattle.std.specs.Prelude.{MatchBool, All}
use Rattle.std.specs.List.{flat_map}
use Rattle.std.proofs.lemmas.List.{append-nil}
use Rattle.std.proofs.lemmas.List.Elements.{All-cons, All-head, All-tail}
use Rattle.wr_io.specs.declared.fault.Code.{Code}
use Rattle.field_forms.specs.Form.{Form, done, bind, Passes}
use Rattle.field_forms.specs.Fields.{times, refuse_if, refuse_unless}

-- What passes is the bytes of a value with a property, and the bytes of each such value pass.
pub record HasSpelling {A : Type 0} (f : Form A) (bytes_of : A → List ℕ) (P : A → Type 0) : Type 0 where
  pub spelled : (at : ℕ) (bytes : List ℕ) (x : A) → Passes f at bytes x → (bytes ≡ bytes_of x) × P x
  pub passes : (at : ℕ) (x : A) → P x → Passes f at (bytes_of x) x

-- a test that must hold, and one that must not
pub when_true : {P : Type 0} (b : Bool) → MatchBool b P ⊥ → (b ≡ true) × P
when_true true h = (refl, h)
when_true false h = absurd h

pub when_false : {P : Type 0} (b : Bool) → MatchBool b ⊥ P → (b ≡ false) × P
when_false true h = absurd h
when_false false h = (refl, h)

pub either : {P Q : Type 0} (b : Bool) → MatchBool b P Q → ((b ≡ true) × P) ⊎ ((b ≡ false) × Q)
either true h = inl (refl, h)
either false h = inr (refl, h)

-- a choice by a test whose answer is known
pub by_true : {P : Type 0} (Q : Type 0) (b : Bool) → b ≡ true → P → MatchBool b P Q
by_true {P = P} Q b e h = subst (λ (v : Bool). MatchBool v P Q) (sym e) h

pub by_false : {Q : Type 0} (P : Type 0) (b : Bool) → b ≡ false → Q → MatchBool b P Q
by_false {Q = Q} P b e h = subst (λ (v : Bool). MatchBool v P Q) (sym e) h

-- nothing stands before
pub skipped : {bytes none rest : List ℕ} → bytes ≡ none ++ rest → none ≡ [] → bytes ≡ rest
skipped {rest = rest} e z = e ∙ ap (λ (o : List ℕ). o ++ rest) z

-- bytes in two parts, each of which is known
pub joined : {bytes one two a b : List ℕ} → bytes ≡ one ++ two → one ≡ a → two ≡ b → bytes ≡ a ++ b
joined {two = two} {a = a} e p q = e ∙ ap (λ (o : List ℕ). o ++ two) p ∙ ap (λ (o : List ℕ). a ++ o) q

-- a field alone
pub alone : {bytes one two a : List ℕ} → bytes ≡ one ++ two → one ≡ a → two ≡ [] → bytes ≡ a
alone {one = one} e p q = e ∙ ap (λ (o : List ℕ). one ++ o) q ∙ append-nil one ∙ p

-- nothing follows
pub at_end : (bytes : List ℕ) → bytes ≡ bytes ++ []
at_end bytes = sym (append-nil bytes)

-- the same with another property that means the same
pub with_fact : {A : Type 0} {f : Form A} {bytes_of : A → List ℕ} {P : A → Type 0} (Q : A → Type 0) → HasSpelling f bytes_of P
    → ((x : A) → P x → Q x) → ((x : A) → Q x → P x) → HasSpelling f bytes_of Q
with_fact Q h to from = record {
  spelled = λ at bytes x p. let s = h.spelled at bytes x p in (s.0, to x s.1);
  passes = λ at x q. h.passes at x (from x q);
}

-- a field that a test refuses
pub refuse_if_spelling : {A : Type 0} {f : Form A} {bytes_of : A → List ℕ} {P : A → Type 0} (test : A → Bool) (c : Code) → HasSpelling f bytes_of P
    → HasSpelling (refuse_if test c f) bytes_of (λ x. P x × (test x ≡ false))
refuse_if_spelling {bytes_of = bytes_of} {P = P} test c h = record {
  spelled = λ at bytes x (a, none, rest, e0, (z0, w0), (y, one, two, e, q, r)).
      let t = when_false (test y) r in
      let s = h.spelled _ one y q in
      subst (λ (v : _). (bytes ≡ bytes_of v) × (P v × (test v ≡ false))) (sym t.1.1) (skipped e0 z0 ∙ alone e s.0 t.1.0, (s.1, t.0));
  passes = λ at x k. (at, [], bytes_of x, refl, (refl, refl), (x, bytes_of x, [], at_end (bytes_of x), h.passes (at + 0) x k.0, by_false _ (test x) k.1 (refl, refl)));
}

pub refuse_unless_spelling : {A : Type 0} {f : Form A} {bytes_of : A → List ℕ} {P : A → Type 0} (test : A → Bool) (c : Code) → HasSpelling f bytes_of P
    → HasSpelling (refuse_unless test c f) bytes_of (λ x. P x × (test x ≡ true))
refuse_unless_spelling {bytes_of = bytes_of} {P = P} test c h = record {
  spelled = λ at bytes x (a, none, rest, e0, (z0, w0), (y, one, two, e, q, r)).
      let t = when_true (test y) r in
      let s = h.spelled _ one y q in
      subst (λ (v : _). (bytes ≡ bytes_of v) × (P v × (test v ≡ true))) (sym t.1.1) (skipped e0 z0 ∙ alone e s.0 t.1.0, (s.1, t.0));
  passes = λ at x k. (at, [], bytes_of x, refl, (refl, refl), (x, bytes_of x, [], at_end (bytes_of x), h.passes (at + 0) x k.0, by_true _ (test x) k.1 (refl, refl)));
}

-- a field whose value is computed of another's
pub made_spelling : {A B : Type 0} {f : Form A} {bytes_of : A → List ℕ} {P : A → Type 0} (make : A → B) (back : B → A) (bytes_by : B → List ℕ) (Q : B → Type 0) → HasSpelling f bytes_of P
    → ((x : A) → P x → Q (make x) × (bytes_of x ≡ bytes_by (make x))) → ((y : B) → Q y → P (back y) × (y ≡ make (back y)) × (bytes_by y ≡ bytes_of (back y)))
    → HasSpelling (bind f (λ x. done (make x))) bytes_by Q
made_spelling {f = f} {bytes_of = bytes_of} make back bytes_by Q h there again = record {
  spelled = λ at bytes y (x, one, two, e, q, (z, w)).
      let s = h.spelled at one x q in
      let t = there x s.1 in
      subst (λ (v : _). (bytes ≡ bytes_by v) × Q v) (sym w) (alone e (s.0 ∙ t.1) z, t.0);
  passes = λ at y k.
      let b = again y k in
      (back y, bytes_by y, [], at_end (bytes_by y), subst (λ (o : List ℕ). Passes f at o (back y)) (sym b.2) (h.passes at (back y) b.0), (refl, b.1));
}

-- of the same fields n times
times_spelled : {A : Type 0} (f : Form A) (bytes_of : A → List ℕ) (P : A → Type 0) → HasSpelling f bytes_of P
    → (n at : ℕ) (bytes : List ℕ) (xs : List A) → Passes (times n f) at bytes xs → (bytes ≡ flat_map bytes_of xs) × (length xs ≡ n) × All P xs
times_spelled f bytes_of P h zero at bytes xs (z, w) =
    subst (λ (ys : List _). (bytes ≡ flat_map bytes_of ys) × (length ys ≡ 0) × All P ys) (sym w) (z, refl, λ k d lt. absurd (omega arith))
times_spelled f bytes_of P h (suc n) at bytes xs (x, one, rest, e0, p, (ys, two, three, e1, q, (z, w))) =
    let a = h.spelled at one x p in
    let b = times_spelled f bytes_of P h n (at + length one) two ys q in
    let len : length (x ∷ ys) ≡ suc n = omega (arith, b.1) in
    subst (λ (vs : List _). (bytes ≡ flat_map bytes_of vs) × (length vs ≡ suc n) × All P vs) (sym w)
    (joined e0 a.0 (alone e1 b.0 z), len, All-cons P x ys a.1 b.2)

times_passes : {A : Type 0} (f : Form A) (bytes_of : A → List ℕ) (P : A → Type 0) → HasSpelling f bytes_of P
    → (n at : ℕ) (xs : List A) → length xs ≡ n → All P xs → Passes (times n f) at (flat_map bytes_of xs) xs
times_passes f bytes_of P h zero at [] e all = (refl, refl)
times_passes f bytes_of P h zero at (x ∷ xs) e all = absurd (omega arith)
times_passes f bytes_of P h (suc n) at [] e all = absurd (omega arith)
times_passes f bytes_of P h (suc n) at (x ∷ xs) e all = (
  x,
  bytes_of x,
  flat_map bytes_of xs,
  refl,
  h.passes at x (All-head P x xs all),
  (xs, flat_map bytes_of xs, [], at_end (flat_map bytes_of xs), times_passes f bytes_of P h n (at + length (bytes_of x)) xs (omega arith) (All-tail P x xs all), (refl, refl)),
)

pub times_spelling : {A : Type 0} (f : Form A) (bytes_of : A → List ℕ) (P : A → Type 0) → HasSpelling f bytes_of P
    → (n : ℕ) → HasSpelling (times n f) (flat_map bytes_of) (λ xs. (length xs ≡ n) × All P xs)
times_spelling f bytes_of P h n = record {
  spelled = λ at bytes xs p. let t = times_spelled f bytes_of P h n at bytes xs p in (t.0, (t.1, t.2));
  passes = λ at xs p. times_passes f bytes_of P h n at xs p.0 p.1;
}
