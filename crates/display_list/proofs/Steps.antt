-- One more part of those that are left.
use Rattle.std.proofs.Common.{◌≡◌, ℕ, suc, ◌+◌, ◌-◌, ◌<◌, ◌≤◌, List, length, Some, None, Result, Ok, Err, refl, sym, ap, ◌∙◌, arith}
use Rattle.wr_io.specs.Unread.{Unread}
use Rattle.wr_io.specs.declared.fault.Code.TheVariants as code
use Rattle.wr_io.specs.declared.fault.Fault.{Fault}
use Rattle.wr_io.specs.declared.fault.DecodeError.{DecodeError}
use Rattle.wr_io.specs.declared.fault.DecodeError.TheVariants as errors
use Rattle.display_list.specs.declared.token.Part.{Part}
use Rattle.field_forms.specs.Form.{next, fault, read, nothing_left}
use Rattle.field_forms.specs.Outcome.{Fails}
use Rattle.display_list.specs.PartialList.{PartialList, start, after}
use Rattle.display_list.specs.Parts.{next_part}
use Rattle.display_list.specs.Decoding.{and_then, read_parts, read_list}

one_on : (count i : ℕ) → i < count → count - i ≡ suc (count - (i + 1))
one_on count i lt = omega arith

-- one step of the reading
step : (m n : ℕ) (s : PartialList) (left : Unread) → read_parts m (suc n) s left ≡ next (read (next_part m s) left) (λ x. and_then s x (λ p. read_parts m n (after s p)))
unfolding read_parts
step m n s left = refl

-- before the first part
pub begins : (m : ℕ) (bytes : List ℕ) → read_parts m (length bytes + 1 - 0) start (record { at = 0; bytes = bytes }) ≡ read_list m bytes
unfolding read_list
begins m bytes = let k : length bytes + 1 - 0 ≡ length bytes + 1 = omega arith in ap (λ n. read_parts m n start (record { at = 0; bytes = bytes })) k

pub goes_on : (m count i : ℕ) (s : PartialList) (left after_it : Unread) (p : Part) (total : Result PartialList Fault) → i < count
    → read (next_part m s) left ≡ Ok (Some p, after_it) → read_parts m (count - i) s left ≡ total → read_parts m (count - (i + 1)) (after s p) after_it ≡ total
goes_on m count i s left after_it p total lt e so_far =
    let one : read_parts m (suc (count - (i + 1))) s left ≡ read_parts m (count - (i + 1)) (after s p) after_it = step m (count - (i + 1)) s left ∙ rw e refl in
    sym one ∙ ap (λ n. read_parts m n s left) (sym (one_on count i lt)) ∙ so_far

pub is_done : (m count i : ℕ) (s : PartialList) (left after_it : Unread) (total : Result PartialList Fault) → i < count
    → read (next_part m s) left ≡ Ok (None, after_it) → nothing_left after_it ≡ Ok tt → read_parts m (count - i) s left ≡ total → total ≡ Ok s
is_done m count i s left after_it total lt e f so_far =
    let one : read_parts m (suc (count - (i + 1))) s left ≡ Ok s = step m (count - (i + 1)) s left ∙ rw (e, f) refl in
    sym so_far ∙ ap (λ n. read_parts m n s left) (one_on count i lt) ∙ one

pub part_fails : (error : DecodeError) (m count i : ℕ) (s : PartialList) (left : Unread) (total : Result PartialList Fault) → i < count
    → Fails error (read (next_part m s) left) → read_parts m (count - i) s left ≡ total → Fails error total
part_fails errors.NoMemory m count i s left total lt e so_far = tt
part_fails (errors.Fault f) m count i s left total lt e so_far =
    let one : read_parts m (suc (count - (i + 1))) s left ≡ Err f = step m (count - (i + 1)) s left ∙ rw e refl in
    sym so_far ∙ ap (λ n. read_parts m n s left) (one_on count i lt) ∙ one

pub end_fails : (error : DecodeError) (m count i : ℕ) (s : PartialList) (left after_it : Unread) (total : Result PartialList Fault) → i < count
    → read (next_part m s) left ≡ Ok (None, after_it) → Fails error (nothing_left after_it) → read_parts m (count - i) s left ≡ total → Fails error total
end_fails errors.NoMemory m count i s left after_it total lt e g so_far = tt
end_fails (errors.Fault f) m count i s left after_it total lt e g so_far =
    let one : read_parts m (suc (count - (i + 1))) s left ≡ Err f = step m (count - (i + 1)) s left ∙ rw (e, g) refl in
    sym so_far ∙ ap (λ n. read_parts m n s left) (one_on count i lt) ∙ one

pub ran_out : (m count i : ℕ) (s : PartialList) (left : Unread) (total : Result PartialList Fault) → count ≤ i → read_parts m (count - i) s left ≡ total → total ≡ fault code.Short left.at
unfolding read_parts
ran_out m count i s left total le so_far =
    let k : count - i ≡ 0 = omega arith in
    let one : read_parts m (count - i) s left ≡ fault code.Short left.at = rw k refl in
    sym so_far ∙ one

-- what fails fails also where more would be done with it
pub fails_next : {A B : Type 0} (error : DecodeError) (r : Result A Fault) (f : A → Result B Fault) → Fails error r → Fails error (next r f)
fails_next errors.NoMemory r f h = tt
fails_next (errors.Fault d) r f h = rw h refl
