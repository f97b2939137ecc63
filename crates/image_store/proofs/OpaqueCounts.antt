-- How many bytes are 255.
use Rattle.std.proofs.Common.{◌≡◌, ℕ, zero, suc, ◌+◌, ◌*◌, ◌<◌, ◌≤◌, ◌==◌, Bool, true, false, cond, List, [], ◌∷◌, ◌++◌, length, take, drop, get_or, ap, ◌∙◌, sym, refl, arith}
use Rattle.std.proofs.lemmas.List.{take-append-drop, drop-drop, take_all, take_more}
use Rattle.std.proofs.lemmas.List.Sums.{sum_by-append, sum_by-cons, count_by-le-length}
use Rattle.image_store.specs.Bands.{opaque_count}

pub opaque_count-append : (xs ys : List ℕ) → opaque_count (xs ++ ys) ≡ opaque_count xs + opaque_count ys
opaque_count-append xs ys = sum_by-append (λ (a : ℕ). cond (a == 255) 1 0) xs ys

-- the count of the parts before, in and after a piece
pub opaque_parts : (at n : ℕ) (xs : List ℕ) → opaque_count xs ≡ opaque_count (take at xs) + opaque_count (take n (drop at xs)) + opaque_count (drop (at + n) xs)
opaque_parts at n xs =
    let one : opaque_count xs ≡ opaque_count (take at xs) + opaque_count (drop at xs) = ap opaque_count (sym (take-append-drop at xs)) ∙ opaque_count-append (take at xs) (drop at xs) in
    let two : opaque_count (drop at xs) ≡ opaque_count (take n (drop at xs)) + opaque_count (drop n (drop at xs)) = ap opaque_count (sym (take-append-drop n (drop at xs))) ∙ opaque_count-append (take n (drop at xs)) (drop n (drop at xs)) in
    let three : opaque_count (drop n (drop at xs)) ≡ opaque_count (drop (at + n) xs) = ap opaque_count (drop-drop n at xs) in
    omega arith

abbrev test : ℕ → Bool
test a = a == 255

-- where all are counted, each is 255
step_full : (x : ℕ) (t : Bool) → (x == 255) ≡ t → (n m : ℕ) → n ≤ m → cond t 1 0 + n ≡ suc m → (x ≡ 255) × (n ≡ m)
step_full x true e n m h c = (grind arith, omega arith)
step_full x false e n m h c = absurd (omega arith)

opaque_count-cons : (x : ℕ) (xs : List ℕ) → opaque_count (x ∷ xs) ≡ cond (x == 255) 1 0 + opaque_count xs
opaque_count-cons x xs = sum_by-cons (λ (a : ℕ). cond (a == 255) 1 0) x xs

pub all_solid : (xs : List ℕ) → opaque_count xs ≡ length xs → (i : ℕ) → i < length xs → get_or xs i 0 ≡ 255
all_solid [] e i h = absurd (omega arith)
all_solid (x ∷ xs) e zero h = (step_full x (x == 255) refl (opaque_count xs) (length xs) (count_by-le-length test xs) (sym (opaque_count-cons x xs) ∙ e)).0
all_solid (x ∷ xs) e (suc i) h = all_solid xs (step_full x (x == 255) refl (opaque_count xs) (length xs) (count_by-le-length test xs) (sym (opaque_count-cons x xs) ∙ e)).1 i (omega arith)

pub solid_all : (xs : List ℕ) → ((i : ℕ) → i < length xs → get_or xs i 0 ≡ 255) → opaque_count xs ≡ length xs
solid_all [] f = refl
solid_all (x ∷ xs) f =
    let here : x ≡ 255 = f zero (omega arith) in
    let rest : opaque_count xs ≡ length xs = solid_all xs (λ i h. f (suc i) (omega arith)) in
    let c = opaque_count-cons x xs in
    let one : ◌≡◌ {A = ℕ} (cond (x == 255) 1 0) 1 = ap (λ a. cond (a == 255) 1 0) here in
    c ∙ ap (λ n. n + opaque_count xs) one ∙ ap (λ n. 1 + n) rest ∙ (omega arith)

pub opaque_count-le : (at n : ℕ) (xs : List ℕ) → opaque_count (take n (drop at xs)) ≤ opaque_count xs
opaque_count-le at n xs = let p = opaque_parts at n xs in omega arith

-- how many of the first n texels that bytes spell have an alpha of 255
abbrev pub alphas_counted : List ℕ → ℕ → ℕ
alphas_counted bytes zero = 0
alphas_counted bytes (suc n) = alphas_counted bytes n + cond (get_or bytes (4 * n + 3) 0 == 255) 1 0

pub counted_more : (bytes : List ℕ) (n m : ℕ) → m ≡ alphas_counted bytes n → m + cond (get_or bytes (4 * n + 3) 0 == 255) 1 0 ≡ alphas_counted bytes (n + 1)
counted_more bytes n m e = ap (λ k. k + cond (get_or bytes (4 * n + 3) 0 == 255) 1 0) e ∙ ap (λ k. alphas_counted bytes k) (let s : suc n ≡ n + 1 = omega arith in s)

one_at_most : (t : Bool) → cond t 1 0 ≤ 1
one_at_most true = omega arith
one_at_most false = omega arith

pub counted_below : (bytes : List ℕ) (n : ℕ) → alphas_counted bytes n ≤ n
counted_below bytes zero = omega arith
counted_below bytes (suc n) = let r = counted_below bytes n in let o = one_at_most (get_or bytes (4 * n + 3) 0 == 255) in omega arith

-- they are those of a plane that holds the alphas
counted_to : (bytes alpha : List ℕ) → ((i : ℕ) → i < length alpha → get_or alpha i 0 ≡ get_or bytes (4 * i + 3) 0) → (n : ℕ) → n ≤ length alpha → alphas_counted bytes n ≡ opaque_count (take n alpha)
counted_to bytes alpha same zero h = refl
counted_to bytes alpha same (suc n) h =
    let before = counted_to bytes alpha same n (omega arith) in
    let k : n + 1 ≡ suc n = omega arith in
    let more : opaque_count (take (suc n) alpha) ≡ opaque_count (take n alpha) + opaque_count (get_or alpha n 0 ∷ []) =
    ap (λ m. opaque_count (take m alpha)) (sym k) ∙ ap opaque_count (take_more alpha n 0 (omega arith)) ∙ opaque_count-append (take n alpha) (get_or alpha n 0 ∷ []) in
    let one : opaque_count (get_or alpha n 0 ∷ []) ≡ cond (get_or bytes (4 * n + 3) 0 == 255) 1 0 =
    opaque_count-cons (get_or alpha n 0) [] ∙ ap (λ a. cond (a == 255) 1 0 + 0) (same n (omega arith)) ∙ (omega arith) in
    omega arith

pub counted_all : (bytes alpha : List ℕ) → ((i : ℕ) → i < length alpha → get_or alpha i 0 ≡ get_or bytes (4 * i + 3) 0) → alphas_counted bytes (length alpha) ≡ opaque_count alpha
counted_all bytes alpha same = counted_to bytes alpha same (length alpha) (omega arith) ∙ ap opaque_count (take_all (length alpha) alpha (omega arith))
