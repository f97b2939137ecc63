-- The same fields again and again.
use Rattle.std.proofs.Common.{◌≡◌, ℕ, suc, ◌+◌, ◌-◌, ◌<◌, List, [], ◌∷◌, ◌++◌, Result, Ok, Err, refl, sym, ap, ◌∙◌, append_assoc, arith}
use Rattle.wr_io.specs.Unread.{Unread}
use Rattle.wr_io.specs.declared.fault.Fault.{Fault}
use Rattle.field_forms.specs.Form.{Form, next, read}
use Rattle.field_forms.specs.Fields.{times}

-- what is read, behind what was read before
abbrev pub with_prefix : {A : Type 0} → List A → Result (List A × Unread) Fault → Result (List A × Unread) Fault
with_prefix prefix r = next r (λ x. Ok (prefix ++ x.0, x.1))

regroup : {A : Type 0} (prefix : List A) (x : A) (r : Result (List A × Unread) Fault)
    → with_prefix prefix (next r (λ xs. Ok (x ∷ xs.0, xs.1))) ≡ with_prefix (prefix ++ x ∷ []) r
regroup prefix x (Ok xs) = ap (λ ys. Ok (ys, xs.1)) (sym (append_assoc prefix (x ∷ []) xs.0))
regroup prefix x (Err e) = refl

one_more : {A : Type 0} (f : Form A) (n : ℕ) (left after : Unread) (x : A) (prefix : List A) → read f left ≡ Ok (x, after)
    → with_prefix prefix (read (times (suc n) f) left) ≡ with_prefix (prefix ++ x ∷ []) (read (times n f) after)
one_more f n left after x prefix e = rw e (regroup prefix x (read (times n f) after))

pub goes_on : {A : Type 0} (f : Form A) (count i : ℕ) (left after : Unread) (x : A) (prefix : List A) (total : Result (List A × Unread) Fault) → i < count
    → read f left ≡ Ok (x, after) → with_prefix prefix (read (times (count - i) f) left) ≡ total
    → with_prefix (prefix ++ x ∷ []) (read (times (count - (i + 1)) f) after) ≡ total
goes_on f count i left after x prefix total lt e so_far =
    let k : count - i ≡ suc (count - (i + 1)) = omega arith in
    sym (one_more f (count - (i + 1)) left after x prefix e) ∙ ap (λ n. with_prefix prefix (read (times n f) left)) (sym k) ∙ so_far
