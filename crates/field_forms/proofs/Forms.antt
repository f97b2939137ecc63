-- What is read passes, what passes is read, and what isn't read is refused there.
use Rattle.std.proofs.Common.{◌≡◌, ℕ, ◌+◌, ◌<◌, ◌≤◌, Bool, true, false, cond, List, [], ◌++◌, length, take, drop, Result, Ok, Err, ltb, refl, sym, ap, subst, ◌∙◌, arith, inl, inr, ◌⊎◌, append_assoc}
use Rattle.std.proofs.lemmas.Bool.{ltb-false, le-ltb}
use Rattle.std.proofs.lemmas.Bool.Decides.{nat_tests}
use Rattle.std.proofs.lemmas.List.{length-append, length-take-le, take-append-drop}
use Rattle.std.proofs.Math.Seq.{drop-append_seam, take-append_seam}
use Rattle.wr_io.specs.Unread.{Unread}
use Rattle.wr_io.specs.declared.fault.Code.{Code}
use Rattle.wr_io.specs.declared.fault.Code.TheVariants as code
use Rattle.wr_io.specs.declared.fault.Fault.{Fault}
use Rattle.field_forms.specs.Form.{Form, done, here, piece, refuse, choose, bind, AreBytes, next, fault, read, Passes, Refuses}
use Rattle.field_forms.proofs.Bytes.{AreBytes-prefix, AreBytes-rest}

pub next_ok : {A B : Type 0} (r : Result A Fault) (f : A → Result B Fault) (y : B) → next r f ≡ Ok y → (x : A) × (r ≡ Ok x) × (f x ≡ Ok y)
next_ok (Ok x) f y e = (x, refl, e)
next_ok (Err d) f y e = absurd cc

abbrev ok : {A : Type 0} → A → Result A Fault
ok x = Ok x

ok_is : {A : Type 0} (x y : A) → ok x ≡ ok y → x ≡ y
ok_is x y e = cc

-- the bytes that were taken from the prefix
pub record Took {A : Type 0} (f : Form A) (left : Unread) (x : A × Unread) : Type 0 where
  pub prefix : List ℕ
  pub parts : left.bytes ≡ prefix ++ x.1.bytes
  pub place : x.1.at ≡ left.at + length prefix
  pub passes : Passes f left.at prefix x.0
  pub rest_bytes : AreBytes x.1.bytes

-- a choice that was made
pub chosen : {A : Type 0} (b : Bool) (x y z : A) → cond b x y ≡ z → ((b ≡ true) × (x ≡ z)) ⊎ ((b ≡ false) × (y ≡ z))
chosen true x y z e = inl (refl, e)
chosen false x y z e = inr (refl, e)

-- a field of n bytes, from a place
abbrev piece_of : ℕ → ℕ → List ℕ → List ℕ × Unread
piece_of n at bytes = (take n bytes, record { at = at + n; bytes = drop n bytes })

piece_took : (n at : ℕ) (bytes : List ℕ) → n ≤ length bytes → AreBytes bytes → Took (piece n) (record { at = at; bytes = bytes }) (piece_of n at bytes)
piece_took n at bytes h k =
    let long : length (take n bytes) ≡ n = length-take-le n bytes h in
    let both : AreBytes (take n bytes ++ drop n bytes) = subst AreBytes (sym (take-append-drop n bytes)) k in
    record {
      prefix = take n bytes;
      parts = sym (take-append-drop n bytes);
      place = ap (λ m. at + m) (sym long);
      passes = (long, AreBytes-prefix (take n bytes) (drop n bytes) both, refl);
      rest_bytes = AreBytes-rest (take n bytes) (drop n bytes) both;
    }

pub read_took : {A : Type 0} (f : Form A) (left : Unread) (x : A × Unread) → AreBytes left.bytes → read f left ≡ Ok x → Took f left x
read_took (done y) left x k e =
    subst (Took (done y) left) (ok_is (y, left) x e) (record { prefix = []; parts = refl; place = omega arith; passes = (refl, refl); rest_bytes = k })
read_took here left x k e =
    subst (Took here left) (ok_is (left.at, left) x e) (record { prefix = []; parts = refl; place = omega arith; passes = (refl, refl); rest_bytes = k })
read_took (piece n) left x k e =
    elim (chosen (ltb (length left.bytes) n) _ _ _ e) [
      | inl p ↦ absurd cc
      | inr p ↦ subst (Took (piece n) left) (ok_is (piece_of n left.at left.bytes) x p.1) (piece_took n left.at left.bytes (ltb-false _ _ p.0) k)
    ]
read_took (refuse c p) left x k e = absurd cc
read_took (choose true f g) left x k e =
    let t = read_took f left x k e in record { prefix = t.prefix; parts = t.parts; place = t.place; passes = t.passes; rest_bytes = t.rest_bytes }
read_took (choose false f g) left x k e =
    let t = read_took g left x k e in record { prefix = t.prefix; parts = t.parts; place = t.place; passes = t.passes; rest_bytes = t.rest_bytes }
read_took (bind f g) left x k e =
    let a = next_ok (read f left) (λ y. read (g y.0) y.1) x e in
    let t = read_took f left a.0 k a.1 in
    let u = read_took (g a.0.0) a.0.1 x t.rest_bytes a.2 in
    record {
      prefix = t.prefix ++ u.prefix;
      parts = t.parts ∙ ap (λ (b : List ℕ). t.prefix ++ b) u.parts ∙ sym (append_assoc t.prefix u.prefix x.1.bytes);
      place = u.place ∙ let p = t.place in omega (arith, length-append t.prefix u.prefix);
      passes = (a.0.0, t.prefix, u.prefix, refl, t.passes, subst (λ (p : ℕ). Passes (g a.0.0) p u.prefix x.0) t.place u.passes);
      rest_bytes = u.rest_bytes;
    }

-- what passes is read, whatever follows it
pub read_again : {A : Type 0} (f : Form A) (at : ℕ) (prefix rest : List ℕ) (x : A) → Passes f at prefix x
    → read f (record { at = at; bytes = prefix ++ rest }) ≡ Ok (x, record { at = at + length prefix; bytes = rest })
read_again (done y) at prefix rest x p = let z : at ≡ at + 0 = omega arith in rw (p.0, p.1, ← z) refl
read_again here at prefix rest x p = let z : at ≡ at + 0 = omega arith in rw (p.0, p.1, ← z) refl
read_again (piece n) at prefix rest x p =
    let long : ltb (length (prefix ++ rest)) n ≡ false = le-ltb _ _ (omega (arith, p.0, length-append prefix rest)) in
    let z = p.0 in
    rw (long, p.2, ← z, take-append_seam prefix rest, drop-append_seam prefix rest) refl
read_again (refuse c q) at prefix rest x p = absurd p
read_again (choose true f g) at prefix rest x p = read_again f at prefix rest x p
read_again (choose false f g) at prefix rest x p = read_again g at prefix rest x p
read_again (bind f g) at prefix rest x (y, one, two, parts, p, q) =
    let e : prefix ++ rest ≡ one ++ (two ++ rest) = ap (λ (b : List ℕ). b ++ rest) parts ∙ append_assoc one two rest in
    let l : at + length prefix ≡ at + length one + length two = omega (arith, ap (λ (b : List ℕ). length b) parts, length-append one two) in
    rw (e, l, read_again f at one (two ++ rest) y p) (read_again (g y) (at + length one) two rest x q)

pub err_is : {A : Type 0} (f g : Fault) → (let e : Result A Fault = Err f in e) ≡ Err g → f ≡ g
err_is f g e = cc

pub next_failed : {A B : Type 0} (r : Result A Fault) (g : A → Result B Fault) (f : Fault) → next r g ≡ Err f → (r ≡ Err f) ⊎ ((x : A) × (r ≡ Ok x) × (g x ≡ Err f))
next_failed (Ok x) g f e = inr (x, refl, e)
next_failed (Err d) g f e = inl (ap (λ (h : Fault). Err h) (err_is d f e))

abbrev RefusesAs : {A : Type 0} → Form A → ℕ → List ℕ → Fault → Type 0
RefusesAs f at bytes e = Refuses f at bytes e.code e.at

-- what isn't read is refused
pub read_refused : {A : Type 0} (f : Form A) (left : Unread) (e : Fault) → AreBytes left.bytes → read f left ≡ Err e → RefusesAs f left.at left.bytes e
read_refused (done y) left f k e = absurd cc
read_refused here left f k e = absurd cc
read_refused (piece n) left f k e =
    elim (chosen (ltb (length left.bytes) n) _ _ _ e) [
      | inl p ↦
          let short = p.0 in
          let lt : length left.bytes < n = grind (arith, nat_tests) in
          subst (RefusesAs (piece n) left.at left.bytes) (err_is (record { code = code.Short; at = left.at }) f p.1) (lt, refl, refl)
      | inr p ↦ absurd cc
    ]
read_refused (refuse c q) left f k e = subst (RefusesAs (refuse {A = ℕ} c q) left.at left.bytes) (err_is (record { code = c; at = q }) f e) (refl, refl)
read_refused (choose true g h) left f k e = read_refused g left f k e
read_refused (choose false g h) left f k e = read_refused h left f k e
read_refused (bind g h) left f k e =
    elim (next_failed (read g left) (λ y. read (h y.0) y.1) f e) [
      | inl p ↦ inl (read_refused g left f k p)
      | inr p ↦
          let t = read_took g left p.0 k p.1 in
          inr (p.0.0, t.prefix, p.0.1.bytes, t.parts, t.passes, subst (λ (q : ℕ). RefusesAs (h p.0.0) q p.0.1.bytes f) t.place (read_refused (h p.0.0) p.0.1 f t.rest_bytes p.2))
    ]

-- what is refused isn't read
pub refused_again : {A : Type 0} (f : Form A) (at : ℕ) (bytes : List ℕ) (c : Code) (p : ℕ) → Refuses f at bytes c p → read f (record { at = at; bytes = bytes }) ≡ fault c p
refused_again (done y) at bytes c p h = absurd h
refused_again here at bytes c p h = absurd h
refused_again (piece n) at bytes c p (lt, e, w) = let short : ltb (length bytes) n ≡ true = grind (arith, nat_tests) in rw (short, e, w) refl
refused_again (refuse d q) at bytes c p (e, w) = rw (e, w) refl
refused_again (choose true f g) at bytes c p h = refused_again f at bytes c p h
refused_again (choose false f g) at bytes c p h = refused_again g at bytes c p h
refused_again (bind f g) at bytes c p (inl h) = rw (refused_again f at bytes c p h) refl
refused_again (bind f g) at bytes c p (inr (y, prefix, rest, e, passes, h)) = rw (e, read_again f at prefix rest y passes) (refused_again (g y) (at + length prefix) rest c p h)
