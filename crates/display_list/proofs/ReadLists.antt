-- Reading from left to right: what is read is spelled so, what is spelled so is read, and what isn't read is refused there.
use Rattle.std.proofs.Common.{◌≡◌, ℕ, zero, suc, ◌+◌, ◌-◌, ◌<◌, ◌≤◌, Bool, true, false, eqb, List, [], ◌∷◌, ◌++◌, length, Option, Some, None, Result, Ok, Err, refl, sym, ap, subst, ◌∙◌, append_assoc, arith, inl, inr}
use Rattle.std.specs.Prelude.{IfOk, IfErr}
use Rattle.std.proofs.lemmas.List.{append-nil, length-append, nil_from_length}
use Rattle.std.proofs.lemmas.Bool.{eqb-true}
use Rattle.std.proofs.lemmas.Bool.Decides.{nat_tests}
use Rattle.wr_io.specs.Unread.{Unread}
use Rattle.wr_io.specs.declared.fault.Code.{Code}
use Rattle.wr_io.specs.declared.fault.Code.TheVariants as code
use Rattle.wr_io.specs.declared.fault.Fault.{Fault}
use Rattle.wr_io.specs.declared.fault.DecodeError.{DecodeError}
use Rattle.wr_io.specs.declared.fault.DecodeError.TheVariants as errors
use Rattle.field_forms.specs.Form.{AreBytes, next, fault, read, nothing_left, Passes}
use Rattle.field_forms.specs.Outcome.{Gives, IsWithin}
use Rattle.field_forms.proofs.Forms.{next_ok, Took, read_took, read_again, refused_again, err_is, next_failed, read_refused}
use Rattle.display_list.specs.declared.token.Part.{Part}
use Rattle.display_list.specs.ListModel.{ListModel}
use Rattle.display_list.specs.PartialList.{PartialList, start, after, list_of}
use Rattle.display_list.specs.Parts.{next_part}
use Rattle.display_list.specs.Decoding.{and_then, read_parts, read_list, list_at}
use Rattle.display_list.specs.Grammar.{Lead, SpellsFrom, Spells, Fits, FailsNext, IsFirstFault, IsSpelled, FaultIsFirst}
use Rattle.display_list.specs.Following.{CanFollow}
use Rattle.display_list.proofs.NextPart.{next_spelling, longer}
use Rattle.display_list.proofs.Lists.{any_pipeline, spells_of, fits_of, spells_own}
use Rattle.display_list.proofs.Positions.{fails_within}

abbrev ok : {A : Type 0} → A → Result A Fault
ok x = Ok x

ok_is : {A : Type 0} (x y : A) → ok x ≡ ok y → x ≡ y
ok_is x y e = cc

-- ---- what is read is spelled so

-- from a standing up to the End
record ReadTo (m : ℕ) (s : PartialList) (left : Unread) (t : PartialList) : Type 0 where
  parts : List Part
  prefix : List ℕ
  last : List ℕ
  bytes_are : left.bytes ≡ prefix ++ last
  lead : Lead m left.at s parts prefix t
  ends : Passes (next_part m t) (left.at + length prefix) last None

ended : (m : ℕ) (s t : PartialList) (left after : Unread) → Took (next_part m s) left (None, after) → next (nothing_left after) (λ _. ok s) ≡ Ok t → ReadTo m s left t
ended m s t left after took e = by_rest (eqb (length after.bytes) 0) refl
  where
    whole : eqb (length after.bytes) 0 ≡ true → ok s ≡ Ok t → ReadTo m s left t
    whole h f =
        let nil : after.bytes ≡ [] = nil_from_length after.bytes (eqb-true _ _ h) in
        let place : left.at ≡ left.at + 0 = omega arith in
        subst (ReadTo m s left) (ok_is s t f) (record {
          parts = [];
          prefix = [];
          last = took.prefix;
          bytes_are = took.parts ∙ ap (λ (o : List ℕ). took.prefix ++ o) nil ∙ append-nil took.prefix;
          lead = (refl, refl);
          ends = subst (λ (p : ℕ). Passes (next_part m s) p took.prefix None) place took.passes;
        })

    by_rest : (b : Bool) → eqb (length after.bytes) 0 ≡ b → ReadTo m s left t
    by_rest true h = whole h (rw h at e)
    by_rest false h = let f = rw h at e in absurd cc

more_read : (m : ℕ) (s t : PartialList) (p : Part) (left after_it : Unread) → Took (next_part m s) left (Some p, after_it) → ReadTo m (after s p) after_it t → ReadTo m s left t
more_read m s t p left after_it took r =
    let place : after_it.at + length r.prefix ≡ left.at + length (took.prefix ++ r.prefix) = let q = took.place in omega (arith, length-append took.prefix r.prefix) in
    record {
      parts = p ∷ r.parts;
      prefix = took.prefix ++ r.prefix;
      last = r.last;
      bytes_are = took.parts ∙ ap (λ (o : List ℕ). took.prefix ++ o) r.bytes_are ∙ sym (append_assoc took.prefix r.prefix r.last);
      lead = (took.prefix, r.prefix, refl, took.passes, subst (λ (q : ℕ). Lead m q (after s p) r.parts r.prefix t) took.place r.lead);
      ends = subst (λ (q : ℕ). Passes (next_part m t) q r.last None) place r.ends;
    }

-- what is read after a part
abbrev ReadsAfter : ℕ → ℕ → PartialList → PartialList → Type 0
ReadsAfter m n s t = (p : Part) (left : Unread) → AreBytes left.bytes → read_parts m n (after s p) left ≡ Ok t → ReadTo m (after s p) left t

read_after : (m n : ℕ) (s t : PartialList) (left : Unread) (x : Option Part × Unread) → ReadsAfter m n s t → Took (next_part m s) left x
    → and_then s x (λ p. read_parts m n (after s p)) ≡ Ok t → ReadTo m s left t
read_after m n s t left (None, rest) more took e = ended m s t left rest took e
read_after m n s t left (Some p, rest) more took e = more_read m s t p left rest took (more p rest took.rest_bytes e)

parts_read : (m n : ℕ) (s t : PartialList) (left : Unread) → AreBytes left.bytes → read_parts m n s left ≡ Ok t → ReadTo m s left t
unfolding read_parts
parts_read m zero s t left k e = absurd cc
parts_read m (suc n) s t left k e =
    let a = next_ok (read (next_part m s) left) (λ x. and_then s x (λ p. read_parts m n (after s p))) t e in
    read_after m n s t left a.0 (λ p rest h f. parts_read m n (after s p) t rest h f) (read_took (next_part m s) left a.0 k a.1) a.2

-- ---- what is spelled so is read

-- what comes of a whole list with these bytes after it
abbrev rest_of : PartialList → ℕ → List ℕ → Result PartialList Fault
rest_of t at more = next (nothing_left (record { at = at; bytes = more })) (λ _. ok t)

end_again : (m n at : ℕ) (t : PartialList) (last more : List ℕ) → Passes (next_part m t) at last None
    → read_parts m (suc n) t (record { at = at; bytes = last ++ more }) ≡ rest_of t (at + length last) more
unfolding read_parts
end_again m n at t last more p = rw (read_again (next_part m t) at last more None p) refl

parts_again : (m n at : ℕ) (s t : PartialList) (ps : List Part) (prefix last more : List ℕ) → length ps < n → Lead m at s ps prefix t
    → Passes (next_part m t) (at + length prefix) last None → read_parts m n s (record { at = at; bytes = prefix ++ (last ++ more) }) ≡ rest_of t (at + length prefix + length last) more
unfolding read_parts
parts_again m zero at s t ps prefix last more lt lead ends = absurd (omega arith)
parts_again m (suc n) at s t [] prefix last more lt (z, w) ends =
    let place : at + length prefix ≡ at = ap (λ (o : List ℕ). at + length o) z ∙ omega arith in
    let same : prefix ++ (last ++ more) ≡ last ++ more = ap (λ (o : List ℕ). o ++ (last ++ more)) z in
    rw (same, place) (subst (λ (u : PartialList). read_parts m (suc n) u (record { at = at; bytes = last ++ more }) ≡ rest_of t (at + length last) more) w
    (end_again m n at t last more (subst (λ (p : ℕ). Passes (next_part m t) p last None) place ends)))
parts_again m (suc n) at s t (p ∷ ps) prefix last more lt (piece, rest, e, passes, lead) ends =
    let bytes_are : prefix ++ (last ++ more) ≡ piece ++ (rest ++ (last ++ more)) = ap (λ (o : List ℕ). o ++ (last ++ more)) e ∙ append_assoc piece rest (last ++ more) in
    let place : at + length prefix ≡ at + length piece + length rest = omega (arith, ap (λ (o : List ℕ). length o) e, length-append piece rest) in
    rw (bytes_are, place, read_again (next_part m s) at piece (rest ++ (last ++ more)) (Some p) passes)
    (parts_again m n (at + length piece) (after s p) t ps rest last more (omega arith) lead (subst (λ (q : ℕ). Passes (next_part m t) q last None) place ends))

-- each part takes a byte
lead_longer : (m at : ℕ) (s t : PartialList) (ps : List Part) (bytes : List ℕ) → Lead m at s ps bytes t → length ps ≤ length bytes
lead_longer m at s t [] bytes h = omega arith
lead_longer m at s t (p ∷ ps) bytes (piece, rest, e, passes, lead) =
    let one = (next_spelling m s).spelled at piece (Some p) passes in
    omega (arith, lead_longer m (at + length piece) (after s p) t ps rest lead, longer p, ap (λ (o : List ℕ). length o) one.0, ap (λ (o : List ℕ). length o) e, length-append piece rest)

-- ---- what isn't read is faulty

record FaultyFrom (m : ℕ) (s : PartialList) (left : Unread) (f : Fault) : Type 0 where
  parts : List Part
  whole : PartialList
  prefix : List ℕ
  rest : List ℕ
  bytes_are : left.bytes ≡ prefix ++ rest
  lead : Lead m left.at s parts prefix whole
  fails : FailsNext m (left.at + length prefix) whole rest f.code f.at

at_once : (m : ℕ) (s : PartialList) (left : Unread) (f : Fault) → FailsNext m left.at s left.bytes f.code f.at → FaultyFrom m s left f
at_once m s left f h =
    let place : left.at ≡ left.at + 0 = omega arith in
    record { parts = []; whole = s; prefix = []; rest = left.bytes; bytes_are = refl; lead = (refl, refl); fails = subst (λ (p : ℕ). FailsNext m p s left.bytes f.code f.at) place h }

more_faulty : (m : ℕ) (s : PartialList) (p : Part) (left after_it : Unread) (f : Fault) → Took (next_part m s) left (Some p, after_it) → FaultyFrom m (after s p) after_it f → FaultyFrom m s left f
more_faulty m s p left after_it f took r =
    let place : after_it.at + length r.prefix ≡ left.at + length (took.prefix ++ r.prefix) = let q = took.place in omega (arith, length-append took.prefix r.prefix) in
    record {
      parts = p ∷ r.parts;
      whole = r.whole;
      prefix = took.prefix ++ r.prefix;
      rest = r.rest;
      bytes_are = took.parts ∙ ap (λ (o : List ℕ). took.prefix ++ o) r.bytes_are ∙ sym (append_assoc took.prefix r.prefix r.rest);
      lead = (took.prefix, r.prefix, refl, took.passes, subst (λ (q : ℕ). Lead m q (after s p) r.parts r.prefix r.whole) took.place r.lead);
      fails = subst (λ (q : ℕ). FailsNext m q r.whole r.rest f.code f.at) place r.fails;
    }

abbrev trailing : ℕ → Fault
trailing at = record { code = code.Trailing; at = at }

surplus_at : (m : ℕ) (s : PartialList) (left after_it : Unread) (f : Fault) → Took (next_part m s) left (None, after_it) → next (nothing_left after_it) (λ _. ok s) ≡ Err f → FaultyFrom m s left f
surplus_at m s left after_it f took e = by_rest (eqb (length after_it.bytes) 0) refl
  where
    some_left : (k : ℕ) → eqb k 0 ≡ false → 0 < k
    some_left k h = grind (arith, nat_tests)

    by_rest : (b : Bool) → eqb (length after_it.bytes) 0 ≡ b → FaultyFrom m s left f
    by_rest true h = let g = rw h at e in absurd cc
    by_rest false h =
        let g = rw h at e in
        let same : trailing after_it.at ≡ f = err_is (trailing after_it.at) f g in
        at_once m s left f (subst (λ (d : Fault). FailsNext m left.at s left.bytes d.code d.at) same
        (FailsNext.surplus took.prefix after_it.bytes took.parts (some_left _ h) took.passes refl took.place))

-- what fails after a part
abbrev FailsMore : ℕ → ℕ → PartialList → Fault → Type 0
FailsMore m n s f = (p : Part) (left : Unread) → length left.bytes < n → AreBytes left.bytes → read_parts m n (after s p) left ≡ Err f → FaultyFrom m (after s p) left f

failed_after : (m n : ℕ) (s : PartialList) (left : Unread) (x : Option Part × Unread) (f : Fault) → length left.bytes < suc n → FailsMore m n s f → Took (next_part m s) left x
    → and_then s x (λ p. read_parts m n (after s p)) ≡ Err f → FaultyFrom m s left f
failed_after m n s left (None, rest) f lt more took e = surplus_at m s left rest f took e
failed_after m n s left (Some p, rest) f lt more took e =
    let one = (next_spelling m s).spelled left.at took.prefix (Some p) took.passes in
    let k : length rest.bytes < n = omega (arith, longer p, ap (λ (o : List ℕ). length o) one.0, ap (λ (o : List ℕ). length o) took.parts, length-append took.prefix rest.bytes) in
    more_faulty m s p left rest f took (more p rest k took.rest_bytes e)

parts_failed : (m n : ℕ) (s : PartialList) (left : Unread) (f : Fault) → length left.bytes < n → AreBytes left.bytes → read_parts m n s left ≡ Err f → FaultyFrom m s left f
unfolding read_parts
parts_failed m zero s left f lt k e = absurd (omega arith)
parts_failed m (suc n) s left f lt k e =
    elim (next_failed (read (next_part m s) left) (λ x. and_then s x (λ p. read_parts m n (after s p))) f e) [
      | inl d ↦ at_once m s left f (FailsNext.refused (read_refused (next_part m s) left f k d))
      | inr d ↦ failed_after m n s left d.0 f lt (λ p rest h j g. parts_failed m n (after s p) rest f h j g) (read_took (next_part m s) left d.0 k d.1) d.2
    ]

-- ---- of all the bytes

pub all_read : (m : ℕ) (bytes : List ℕ) (t : PartialList) → AreBytes bytes → read_list m bytes ≡ Ok t → SpellsFrom m (list_of t) bytes
unfolding read_list
all_read m bytes t k e =
    let r = parts_read m (length bytes + 1) start t (record { at = 0; bytes = bytes }) k e in
    let place : 0 + length r.prefix ≡ length r.prefix = omega arith in
    record {
      parts = r.parts;
      whole = t;
      prefix = r.prefix;
      last = r.last;
      bytes_are = r.bytes_are;
      lead = r.lead;
      ends = subst (λ (q : ℕ). Passes (next_part m t) q r.last None) place r.ends;
      list_is = refl;
    }

pub all_with : (m : ℕ) (l : ListModel) (bytes more : List ℕ) (h : SpellsFrom m l bytes) → (at : ℕ) × (read_list m (bytes ++ more) ≡ rest_of h.whole at more)
unfolding read_list
all_with m l bytes more h =
    let enough : length h.parts < length (bytes ++ more) + 1 =
    omega (arith, lead_longer m 0 start h.whole h.parts h.prefix h.lead, ap (λ (o : List ℕ). length o) h.bytes_are, length-append h.prefix h.last, length-append bytes more) in
    let place : length h.prefix ≡ 0 + length h.prefix = omega arith in
    let whole : bytes ++ more ≡ h.prefix ++ (h.last ++ more) = ap (λ (o : List ℕ). o ++ more) h.bytes_are ∙ append_assoc h.prefix h.last more in (
      0 + length h.prefix + length h.last,
      ap (λ (o : List ℕ). read_parts m (length (bytes ++ more) + 1) start (record { at = 0; bytes = o })) whole
          ∙ parts_again m (length (bytes ++ more) + 1) 0 start h.whole h.parts h.prefix h.last more enough h.lead (subst (λ (q : ℕ). Passes (next_part m h.whole) q h.last None) place h.ends),
    )

pub all_again : (m : ℕ) (l : ListModel) (bytes : List ℕ) (h : SpellsFrom m l bytes) → read_list m bytes ≡ Ok h.whole
all_again m l bytes h = ap (read_list m) (sym (append-nil bytes)) ∙ (all_with m l bytes [] h).1

-- what spells two lists spells one
pub one_list : (l m : ListModel) (bytes : List ℕ) → Spells l bytes → Spells m bytes → l ≡ m
one_list l m bytes h k =
    let same : h.whole ≡ k.whole = ok_is h.whole k.whole (sym (all_again 0 l bytes h) ∙ all_again 0 m bytes k) in
    sym h.list_is ∙ ap list_of same ∙ k.list_is

-- no spelling begins another
pub none_begins : (l m : ListModel) (bytes more : List ℕ) → Spells l bytes → Spells m (bytes ++ more) → more ≡ []
none_begins l m bytes more h k = by_more more ((all_with 0 l bytes more h).0) (sym (all_with 0 l bytes more h).1 ∙ all_again 0 m (bytes ++ more) k)
  where
    by_more : (more : List ℕ) (at : ℕ) → rest_of h.whole at more ≡ Ok k.whole → more ≡ []
    by_more [] at e = refl
    by_more (b ∷ more) at e = let lt : eqb (suc (length more)) 0 ≡ false = grind arith in absurd (let f = rw lt at e in cc)

pub all_failed : (own : ℕ) (bytes : List ℕ) (f : Fault) → AreBytes bytes → read_list (own + 1) bytes ≡ Err f → IsFirstFault own bytes f.code f.at
unfolding read_list
all_failed own bytes f k e =
    let r = parts_failed (own + 1) (length bytes + 1) start (record { at = 0; bytes = bytes }) f (omega arith) k e in
    let place : 0 + length r.prefix ≡ length r.prefix = omega arith in
    record {
      parts = r.parts;
      whole = r.whole;
      prefix = r.prefix;
      rest = r.rest;
      bytes_are = r.bytes_are;
      lead = r.lead;
      fails = subst (λ (q : ℕ). FailsNext (own + 1) q r.whole r.rest f.code f.at) place r.fails;
    }

-- ---- of one part that was read

pub follows : (m : ℕ) (s : PartialList) (left after_it : Unread) (p : Part) → AreBytes left.bytes → read (next_part m s) left ≡ Ok (Some p, after_it) → CanFollow 0 s p
follows m s left after_it p k e =
    let took = read_took (next_part m s) left (Some p, after_it) k e in
    any_pipeline m s p ((next_spelling m s).spelled left.at took.prefix (Some p) took.passes).1

pub closes : (m : ℕ) (s : PartialList) (left after_it : Unread) → AreBytes left.bytes → read (next_part m s) left ≡ Ok (None, after_it) → s.depth ≡ 0
closes m s left after_it k e =
    let took = read_took (next_part m s) left (None, after_it) k e in
    ((next_spelling m s).spelled left.at took.prefix None took.passes).1

pub still_bytes : (m : ℕ) (s : PartialList) (left after_it : Unread) (x : Option Part) → AreBytes left.bytes → read (next_part m s) left ≡ Ok (x, after_it) → AreBytes after_it.bytes
still_bytes m s left after_it x k e = let took = read_took (next_part m s) left (x, after_it) k e in took.rest_bytes

pub is_spelled : (own : ℕ) (bytes : List ℕ) (t : PartialList) → AreBytes bytes → read_list (own + 1) bytes ≡ Ok t → IsSpelled (list_of t)
is_spelled own bytes t k e = (bytes, spells_of own (list_of t) bytes (all_read (own + 1) bytes t k e))

-- ---- reading is the grammar

-- a list that is read is spelled by the bytes and fits the pipeline
pub read_spelled : (own : ℕ) (bytes : List ℕ) (l : ListModel) → AreBytes bytes → list_at own bytes ≡ Ok l → Spells l bytes × Fits own l
read_spelled own bytes l k e =
    let a = next_ok (read_list (own + 1) bytes) (λ s. Ok (list_of s)) l e in
    let h : SpellsFrom (own + 1) l bytes = subst (λ (m : ListModel). SpellsFrom (own + 1) m bytes) (ok_is (list_of a.0) l a.2) (all_read (own + 1) bytes a.0 k a.1) in
    (spells_of own l bytes h, fits_of own l bytes h)

-- a list that the bytes spell and that fits the pipeline is read
pub spelled_read : (own : ℕ) (bytes : List ℕ) (l : ListModel) → Spells l bytes → Fits own l → list_at own bytes ≡ Ok l
spelled_read own bytes l spells fits =
    let h = spells_own own l bytes spells fits in
    rw (all_again (own + 1) l bytes h, h.list_is) refl

-- a fault that is read is the first one
pub fault_first : (own : ℕ) (bytes : List ℕ) (f : Fault) → AreBytes bytes → list_at own bytes ≡ Err f → IsFirstFault own bytes f.code f.at
fault_first own bytes f k e = elim (next_failed (read_list (own + 1) bytes) (λ s. ok (list_of s)) f e) [
  | inl d ↦ all_failed own bytes f k d
  | inr d ↦ let g = d.2 in absurd cc
]

-- ---- of what was answered

pub is_found : (own : ℕ) (bytes : List ℕ) (r : Result ListModel DecodeError) → AreBytes bytes → Gives r (list_at own bytes) → IfOk r (λ l. Spells l bytes × Fits own l)
is_found own bytes (Err e) k h = tt
is_found own bytes (Ok l) k h = read_spelled own bytes l k h

pub is_only : (own : ℕ) (bytes : List ℕ) (r : Result ListModel DecodeError) → Gives r (list_at own bytes) → (l : ListModel) → Spells l bytes → Fits own l → Gives r (Ok l)
is_only own bytes r h l spells fits = subst (λ (a : Result ListModel Fault). Gives r a) (spelled_read own bytes l spells fits) h

pub is_faulty : (own : ℕ) (bytes : List ℕ) (r : Result ListModel DecodeError) → AreBytes bytes → Gives r (list_at own bytes) → FaultIsFirst r own bytes
is_faulty own bytes (Ok l) k h = tt
is_faulty own bytes (Err errors.NoMemory) k h = tt
is_faulty own bytes (Err (errors.Fault f)) k h = fault_first own bytes f k h

-- ---- a first fault is the one that is read

-- what is read after parts that lead somewhere
read_after_lead : (m n at : ℕ) (s t : PartialList) (ps : List Part) (prefix rest : List ℕ) → Lead m at s ps prefix t
    → read_parts m (length ps + n) s (record { at = at; bytes = prefix ++ rest }) ≡ read_parts m n t (record { at = at + length prefix; bytes = rest })
unfolding read_parts
read_after_lead m n at s t [] prefix rest (z, w) =
    let nil : List Part = [] in
    let k : length nil + n ≡ n = omega arith in
    let same : prefix ++ rest ≡ rest = ap (λ (o : List ℕ). o ++ rest) z in
    let place : at ≡ at + length prefix = omega (arith, ap (λ (o : List ℕ). length o) z) in
    ap (λ (k : ℕ). read_parts m k s (record { at = at; bytes = prefix ++ rest })) k
    ∙ ap (λ (o : List ℕ). read_parts m n s (record { at = at; bytes = o })) same
    ∙ ap (λ (q : ℕ). read_parts m n s (record { at = q; bytes = rest })) place
    ∙ ap (λ (u : PartialList). read_parts m n u (record { at = at + length prefix; bytes = rest })) (sym w)
read_after_lead m n at s t (p ∷ ps) prefix rest (piece, back, e, passes, lead) =
    let k : length (p ∷ ps) + n ≡ suc (length ps + n) = omega arith in
    let bytes_are : prefix ++ rest ≡ piece ++ (back ++ rest) = ap (λ (o : List ℕ). o ++ rest) e ∙ append_assoc piece back rest in
    let place : at + length piece + length back ≡ at + length prefix = omega (arith, ap (λ (o : List ℕ). length o) e, length-append piece back) in
    let one : read_parts m (suc (length ps + n)) s (record { at = at; bytes = prefix ++ rest }) ≡ read_parts m (length ps + n) (after s p) (record { at = at + length piece; bytes = back ++ rest }) =
    rw (bytes_are, read_again (next_part m s) at piece (back ++ rest) (Some p) passes) refl in
    ap (λ (k : ℕ). read_parts m k s (record { at = at; bytes = prefix ++ rest })) k
    ∙ one
    ∙ read_after_lead m n (at + length piece) (after s p) t ps back rest lead
    ∙ ap (λ (q : ℕ). read_parts m n t (record { at = q; bytes = rest })) place

fails_again : (m n at : ℕ) (s : PartialList) (bytes : List ℕ) (c : Code) (p : ℕ) → FailsNext m at s bytes c p → read_parts m (suc n) s (record { at = at; bytes = bytes }) ≡ fault c p
unfolding read_parts
fails_again m n at s bytes c p (FailsNext.refused h) = rw (refused_again (next_part m s) at bytes c p h) refl
fails_again m n at s bytes c p (FailsNext.surplus last more e lt passes code_is place_is) =
    let some_left : eqb (length more) 0 ≡ false = grind (arith, nat_tests) in
    rw (e, read_again (next_part m s) at last more None passes, some_left, code_is, place_is) refl

first_fault_read : (own : ℕ) (bytes : List ℕ) (c : Code) (p : ℕ) → IsFirstFault own bytes c p → read_list (own + 1) bytes ≡ fault c p
unfolding read_list
first_fault_read own bytes c p h =
    let few : length h.parts ≤ length bytes =
    omega (arith, lead_longer (own + 1) 0 start h.whole h.parts h.prefix h.lead, ap (λ (o : List ℕ). length o) h.bytes_are, length-append h.prefix h.rest) in
    let count : length bytes + 1 ≡ length h.parts + suc (length bytes - length h.parts) = omega arith in
    let place : length h.prefix ≡ 0 + length h.prefix = omega arith in
    ap (λ (k : ℕ). read_parts (own + 1) k start (record { at = 0; bytes = bytes })) count
    ∙ ap (λ (o : List ℕ). read_parts (own + 1) (length h.parts + suc (length bytes - length h.parts)) start (record { at = 0; bytes = o })) h.bytes_are
    ∙ read_after_lead (own + 1) (suc (length bytes - length h.parts)) 0 start h.whole h.parts h.prefix h.rest h.lead
    ∙ fails_again (own + 1) (length bytes - length h.parts) (0 + length h.prefix) h.whole h.rest c p (subst (λ (q : ℕ). FailsNext (own + 1) q h.whole h.rest c p) place h.fails)

-- bytes have one first fault at most
pub one_fault : (own : ℕ) (bytes : List ℕ) (c d : Code) (p q : ℕ) → IsFirstFault own bytes c p → IsFirstFault own bytes d q → (c ≡ d) × (p ≡ q)
one_fault own bytes c d p q h k =
    let same : (let f : Fault = record { code = c; at = p } in f) ≡ record { code = d; at = q } = err_is _ _ (sym (first_fault_read own bytes c p h) ∙ first_fault_read own bytes d q k) in
    (ap (λ (f : Fault). f.code) same, ap (λ (f : Fault). f.at) same)

-- what spells a list has no fault
pub no_fault : (own : ℕ) (bytes : List ℕ) (c : Code) (p : ℕ) (l : ListModel) → IsFirstFault own bytes c p → Spells l bytes → Fits own l → ⊥
no_fault own bytes c p l h spells fits =
    let e = sym (first_fault_read own bytes c p h) ∙ all_again (own + 1) l bytes (spells_own own l bytes spells fits) in cc

-- the first fault is read
pub first_read : (own : ℕ) (bytes : List ℕ) (c : Code) (p : ℕ) → IsFirstFault own bytes c p → list_at own bytes ≡ fault c p
first_read own bytes c p h = rw (first_fault_read own bytes c p h) refl

-- a first fault stands in the bytes, or just after them
pub fault_within : (own : ℕ) (bytes : List ℕ) (c : Code) (p : ℕ) → IsFirstFault own bytes c p → p ≤ length bytes
fault_within own bytes c p h =
    omega (arith, fails_within (own + 1) (length h.prefix) h.whole h.rest c p h.fails, ap (λ (o : List ℕ). length o) h.bytes_are, length-append h.prefix h.rest)

pub is_within : (own : ℕ) (bytes : List ℕ) (r : Result ListModel DecodeError) → AreBytes bytes → Gives r (list_at own bytes) → IfErr r (IsWithin (length bytes))
is_within own bytes (Ok l) k h = tt
is_within own bytes (Err errors.NoMemory) k h = tt
is_within own bytes (Err (errors.Fault f)) k h = fault_within own bytes f.code f.at (fault_first own bytes f k h)
