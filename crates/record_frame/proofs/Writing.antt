-- What was written, piece by piece, and what begins what.
use Rattle.std.proofs.Common.{◌≡◌, ℕ, ◌+◌, ◌-◌, ◌<◌, List, [], ◌∷◌, ◌++◌, Option, Some, None, IfSome, Result, Ok, Err, MatchResult, length, take, drop, refl, sym, ap, ◌∙◌, arith, append_assoc, append-nil, length-append, length-take-le, take-append-drop}
use Rattle.std.proofs.Math.Seq.{take-append-add}
use Rattle.std.proofs.lemmas.List.{nil_from_length}
use Rattle.wr_io.specs.Streams.{WritesStrictPart}
use Rattle.wr_io.specs.declared.streams.Failed.{Failed}
use Rattle.record_frame.specs.Writing.{Wrote, IsPrefix, WroteWhole, all_but_last}
use Rattle.record_frame.specs.declared.error.RunError.{RunError}

-- a failed write wrote a part
pub part_written : (old new : Option (List ℕ)) (piece : List ℕ) → IfSome old (λ b. WritesStrictPart b new piece) → (out : List ℕ) × IsPrefix out piece × Wrote old new out
part_written None new piece h = ([], (piece, refl), tt)
part_written (Some b) new piece h =
    (take h.count piece, (drop h.count piece, sym (take-append-drop h.count piece)), h.part)

-- of a piece with bytes less than all
pub less_written : (old new : Option (List ℕ)) (piece : List ℕ) (e : RunError) → 0 < length piece → IfSome old (λ b. WritesStrictPart b new piece) → WroteWhole old new piece (Err e)
less_written None new piece e some h = ([], (piece, refl), some, tt)
less_written (Some b) new piece e some h =
    let within = length-take-le h.count piece (omega (arith, h.fewer)) in
    (take h.count piece, (drop h.count piece, sym (take-append-drop h.count piece)), omega (arith, h.fewer, within), h.part)

-- of one byte nothing
pub none_written : (old new : Option (List ℕ)) (out : List ℕ) → length out < 1 → Wrote old new out → Wrote old new []
none_written old new out less w = rw (nil_from_length out (omega arith)) at w

-- a write, whole or failed, wrote a part
pub note_written : (old new : Option (List ℕ)) (piece : List ℕ) (r : Result (Unit {0}) Failed) → IfSome old (λ b. MatchResult r (λ _. new ≡ Some (b ++ piece)) (λ _. WritesStrictPart b new piece))
    → (out : List ℕ) × IsPrefix out piece × Wrote old new out
note_written old new piece (Ok x) h = (piece, ([], sym (append-nil piece)), h)
note_written old new piece (Err e) h = part_written old new piece h

-- nothing was written
pub nothing_written : (old : Option (List ℕ)) → Wrote old old []
nothing_written None = tt
nothing_written (Some b) = ap Some (sym (append-nil b))

-- one piece after another
pub wrote_more : (old mid new : Option (List ℕ)) (x y : List ℕ) → Wrote old mid x → Wrote mid new y → Wrote old new (x ++ y)
wrote_more None mid new x y first second = tt
wrote_more (Some b) mid new x y first second =
    let q = rw first at second in
    q ∙ ap Some (append_assoc b x y)

pub prefix_after : (x y z : List ℕ) → IsPrefix y z → IsPrefix (x ++ y) (x ++ z)
prefix_after x y z h = (h.0, ap (λ l. x ++ l) h.1 ∙ sym (append_assoc x y h.0))

pub prefix_extended : (x y z : List ℕ) → IsPrefix x y → IsPrefix x (y ++ z)
prefix_extended x y z h = (h.0 ++ z, ap (λ l. l ++ z) h.1 ∙ append_assoc x h.0 z)

pub but_last_prefix : {A : Type 0} (xs : List A) → IsPrefix (all_but_last xs) xs
but_last_prefix xs = (drop (length xs - 1) xs, sym (take-append-drop (length xs - 1) xs))

pub but_last_after : {A : Type 0} (xs ys : List A) → 0 < length ys → all_but_last (xs ++ ys) ≡ xs ++ all_but_last ys
but_last_after xs ys some =
    let n : length (xs ++ ys) - 1 ≡ length xs + (length ys - 1) = omega (arith, length-append xs ys) in
    ap (λ k. take k (xs ++ ys)) n ∙ take-append-add xs ys (length ys - 1)

pub but_last : {A : Type 0} (ps : List A) (p : A) → all_but_last (ps ++ p ∷ []) ≡ ps
but_last ps p = but_last_after ps (p ∷ []) (omega arith) ∙ append-nil ps
