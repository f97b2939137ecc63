-- Lists of small numbers.
use Rattle.std.proofs.Common.{◌≡◌, ℕ, zero, suc, ◌<◌, ◌^◌, List, [], ◌∷◌, ◌++◌, length, take, drop, get_or, replicate, subst, sym, refl, arith}
use Rattle.std.proofs.lemmas.List.{get_or-drop}
use Rattle.span_kernels.specs.PlanesModel.{overwritten}

-- each number of a list is a byte
abbrev pub AreBytes : List ℕ → Type 0
AreBytes l = (k : ℕ) → get_or l k 0 < 2 ^ 8

none : AreBytes []
none k = omega arith

head : (x : ℕ) (l : List ℕ) → AreBytes (x ∷ l) → x < 2 ^ 8
head x l h = h 0

tail : (x : ℕ) (l : List ℕ) → AreBytes (x ∷ l) → AreBytes l
tail x l h k = h (suc k)

join : (x : ℕ) (l : List ℕ) → x < 2 ^ 8 → AreBytes l → AreBytes (x ∷ l)
join x l h t zero = h
join x l h t (suc k) = t k

taken : (n : ℕ) (l : List ℕ) → AreBytes l → AreBytes (take n l)
taken zero l h = none
taken (suc n) [] h = none
taken (suc n) (x ∷ l) h = join x (take n l) (head x l h) (taken n l (tail x l h))

dropped : (n : ℕ) (l : List ℕ) → AreBytes l → AreBytes (drop n l)
dropped n l h k = subst (λ (x : ℕ). x < 2 ^ 8) (sym (get_or-drop n l k 0)) (h _)

appended : (l m : List ℕ) → AreBytes l → AreBytes m → AreBytes (l ++ m)
appended [] m h t = t
appended (x ∷ l) m h t = join x (l ++ m) (head x l h) (appended l m (tail x l h) t)

pub repeated : (n x : ℕ) → x < 2 ^ 8 → AreBytes (replicate n x)
repeated zero x h = none
repeated (suc n) x h = join x (replicate n x) h (repeated n x h)

pub repeated_zero : (n k : ℕ) → get_or (replicate n zero) k zero ≡ zero
repeated_zero zero k = refl
repeated_zero (suc n) zero = refl
repeated_zero (suc n) (suc k) = repeated_zero n k

-- bytes that are overwritten with bytes are bytes
pub overwritten_bytes : (old : List ℕ) (at : ℕ) (new : List ℕ) → AreBytes old → AreBytes new → AreBytes (overwritten old at new)
overwritten_bytes old at new h t =
    let all : AreBytes (take at old ++ (new ++ drop (length new) (drop at old))) =
    appended (take at old) (new ++ drop (length new) (drop at old)) (taken at old h) (appended new (drop (length new) (drop at old)) t (dropped (length new) (drop at old) (dropped at old h))) in
    taken (length old) _ (appended _ _ all (dropped _ old h))
