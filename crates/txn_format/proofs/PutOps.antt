-- Operations that are written one by one.
use Rattle.std.proofs.Common.{◌≡◌, ℕ, zero, suc, ◌+◌, ◌<◌, ◌≤◌, List, [], ◌∷◌, ◌++◌, length, drop, get_or, sym, ap, ◌∙◌, append_assoc, arith}
use Rattle.std.specs.Prelude.{All}
use Rattle.std.specs.List.{flat_map}
use Rattle.std.proofs.Math.Seq.{drop-cons}
use Rattle.std.proofs.lemmas.List.{append-nil, nil_from_length, length-drop}
use Rattle.std.proofs.lemmas.List.Elements.{All-head, All-tail}
use Rattle.txn_format.specs.declared.op.Placed.{Placed}
use Rattle.txn_format.specs.Models.{op_model, placed_model, placed_models}
use Rattle.txn_format.specs.Spelling.{op_bytes, placed_bytes}
use Rattle.txn_format.specs.Checks.{HasFittingLength, FitsLength}

-- the bytes of operations
abbrev pub ops_bytes : List Placed → List ℕ
ops_bytes ps = flat_map placed_bytes (placed_models ps)

pub fits_at : (ps : List Placed) (k : ℕ) (d : Placed) → k < length ps → All FitsLength (placed_models ps) → HasFittingLength (op_model (get_or ps k d).op)
fits_at [] k d lt all = absurd (omega arith)
fits_at (p ∷ ps) zero d lt all = (All-head FitsLength (placed_model p) (placed_models ps) all).fits
fits_at (p ∷ ps) (suc k) d lt all = fits_at ps k d (omega arith) (All-tail FitsLength (placed_model p) (placed_models ps) all)

-- one operation more is written
pub more_written : (ps : List Placed) (k : ℕ) (d : Placed) (written now total : List ℕ) → k < length ps → now ≡ written ++ op_bytes (op_model (get_or ps k d).op)
    → written ++ ops_bytes (drop k ps) ≡ total → now ++ ops_bytes (drop (k + 1) ps) ≡ total
more_written ps k d written now total lt w h =
    let next : k + 1 ≡ suc k = omega arith in
    let one = op_bytes (op_model (get_or ps k d).op) in
    let left : ops_bytes (drop k ps) ≡ one ++ ops_bytes (drop (suc k) ps) = ap ops_bytes (drop-cons ps k d lt) in
    rw (w, next) (append_assoc written one (ops_bytes (drop (suc k) ps)) ∙ ap (λ (o : List ℕ). written ++ o) (sym left) ∙ h)

-- none is left
pub all_written : (ps : List Placed) (k : ℕ) (written total : List ℕ) → length ps ≤ k → written ++ ops_bytes (drop k ps) ≡ total → written ≡ total
all_written ps k written total le h =
    let none : drop k ps ≡ [] = nil_from_length (drop k ps) (omega (arith, length-drop k ps)) in
    sym (append-nil written) ∙ ap (λ (qs : List Placed). written ++ ops_bytes qs) (sym none) ∙ h
