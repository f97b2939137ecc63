-- A refusal stands within the bytes.
use Rattle.std.proofs.Common.{ℕ, zero, suc, ◌+◌, ◌≤◌, Bool, true, false, List, [], ◌∷◌, length, ap, arith, inl, inr}
use Rattle.std.proofs.lemmas.List.{length-append}
use Rattle.std.specs.Int.{Width, byte_len}
use Rattle.wr_io.specs.declared.fault.Code.{Code}
use Rattle.field_forms.specs.Form.{Form, done, here, piece, refuse, choose, bind, Refuses}
use Rattle.field_forms.specs.Numbers.{byte, number, signed, any_colour}
use Rattle.field_forms.specs.Fields.{refuse_if, refuse_unless, times, flag, reference, optional_reference, optional_number, coordinate, coordinate_from, rectangle, colour}

-- Where the form begins at or after a position, it refuses between there and the end of the bytes, or just after them.
pub record StaysWithin {A : Type 0} (from : ℕ) (f : Form A) : Type 0 where
  pub within : (at : ℕ) (bytes : List ℕ) (c : Code) (p : ℕ) → from ≤ at → Refuses f at bytes c p → p ≤ at + length bytes

pub done_within : {A : Type 0} {from : ℕ} (x : A) → StaysWithin from (done x)
done_within x = record { within = λ at bytes c p le h. absurd h }

pub piece_within : {from : ℕ} (n : ℕ) → StaysWithin from (piece n)
piece_within n = record { within = λ at bytes c p le (lt, e, w). omega (arith, w) }

-- a refusal at a position that was passed
pub refuse_within : {A : Type 0} {from : ℕ} (c : Code) → StaysWithin {A = A} from (refuse c from)
refuse_within c = record { within = λ at bytes d p le (e, w). omega (arith, w) }

pub bind_within : {A B : Type 0} {from : ℕ} {f : Form A} {g : A → Form B} → StaysWithin from f → ((x : A) → StaysWithin from (g x)) → StaysWithin from (bind f g)
bind_within {f = f} {g = g} h k = record {
  within = λ at bytes c p le r. elim r [
    | inl q ↦ h.within at bytes c p le q
    | inr (y, prefix, rest, e, passes, q) ↦
        omega (arith, (k y).within (at + length prefix) rest c p (omega arith) q, ap (λ (o : List ℕ). length o) e, length-append prefix rest)
  ];
}

pub choose_within : {A : Type 0} {from : ℕ} {f g : Form A} (b : Bool) → StaysWithin from f → StaysWithin from g → StaysWithin from (choose b f g)
choose_within true h k = record { within = λ at bytes c p le r. h.within at bytes c p le r }
choose_within false h k = record { within = λ at bytes c p le r. k.within at bytes c p le r }

-- a form that notes its own position
pub here_within : {B : Type 0} {from : ℕ} {g : ℕ → Form B} → ((at : ℕ) → from ≤ at → StaysWithin at (g at)) → StaysWithin from (bind here g)
here_within {g = g} k = record {
  within = λ at bytes c p le r. elim r [
    | inl q ↦ absurd q
    | inr (a, none, rest, e, (z, w), q) ↦
        omega (arith, (k a (omega (arith, w))).within (at + length none) rest c p (omega (arith, w)) q, ap (λ (o : List ℕ). length o) e, length-append none rest)
  ];
}

-- what holds from a position on holds from a later one on
later : {A : Type 0} {from after : ℕ} {f : Form A} → from ≤ after → StaysWithin from f → StaysWithin after f
later le h = record { within = λ at bytes c p k r. h.within at bytes c p (omega arith) r }

pub refuse_if_within : {A : Type 0} {from : ℕ} {f : Form A} (test : A → Bool) (c : Code) → StaysWithin from f → StaysWithin from (refuse_if test c f)
refuse_if_within test c h = here_within (λ at le. bind_within (later le h) (λ x. choose_within (test x) (refuse_within c) (done_within x)))

pub refuse_unless_within : {A : Type 0} {from : ℕ} {f : Form A} (test : A → Bool) (c : Code) → StaysWithin from f → StaysWithin from (refuse_unless test c f)
refuse_unless_within test c h = here_within (λ at le. bind_within (later le h) (λ x. choose_within (test x) (done_within x) (refuse_within c)))

pub times_within : {A : Type 0} {from : ℕ} {f : Form A} → StaysWithin from f → (n : ℕ) → StaysWithin from (times n f)
times_within h zero = done_within []
times_within h (suc n) = bind_within h (λ x. bind_within (times_within h n) (λ xs. done_within (x ∷ xs)))

-- ---- of the shared fields

pub byte_within : {from : ℕ} → StaysWithin from byte
unfolding byte
byte_within = bind_within (piece_within 1) (λ o. done_within _)

pub number_within : (w : Width) → {from : ℕ} → StaysWithin from (number w)
unfolding number
number_within w = bind_within (piece_within (byte_len w)) (λ o. done_within _)

pub signed_within : {from : ℕ} → StaysWithin from signed
unfolding signed
signed_within = bind_within (number_within _) (λ o. done_within _)

pub any_colour_within : {from : ℕ} → StaysWithin from any_colour
unfolding any_colour
any_colour_within = bind_within (piece_within 4) (λ o. done_within _)

pub flag_within : {from : ℕ} → StaysWithin from flag
unfolding flag
flag_within = bind_within (refuse_if_within _ _ byte_within) (λ o. done_within _)

pub reference_within : (count : ℕ) → {from : ℕ} → StaysWithin from (reference count)
unfolding reference
reference_within count = refuse_unless_within _ _ (number_within _)

pub optional_reference_within : (count : ℕ) → {from : ℕ} → StaysWithin from (optional_reference count)
unfolding optional_reference
optional_reference_within count = bind_within (refuse_unless_within _ _ (number_within _)) (λ o. done_within _)

pub optional_number_within : {from : ℕ} → StaysWithin from optional_number
unfolding optional_number
optional_number_within = bind_within (number_within _) (λ o. done_within _)

pub coordinate_within : {from : ℕ} → StaysWithin from coordinate
unfolding coordinate
coordinate_within = refuse_if_within _ _ signed_within

pub coordinate_from_within : (low : _) → {from : ℕ} → StaysWithin from (coordinate_from low)
unfolding coordinate_from
coordinate_from_within low = refuse_if_within _ _ coordinate_within

pub rectangle_within : {from : ℕ} → StaysWithin from rectangle
unfolding rectangle
rectangle_within =
    bind_within coordinate_within (λ x0. bind_within coordinate_within (λ y0. bind_within (coordinate_from_within x0) (λ x1. bind_within (coordinate_from_within y0) (λ y1. done_within _))))

pub colour_within : {from : ℕ} → StaysWithin from colour
unfolding colour
colour_within = refuse_unless_within _ _ any_colour_within
