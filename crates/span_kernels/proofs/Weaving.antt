-- Four planes, interleaved.
use Rattle.std.proofs.Common.{ℕ, ◌≡◌, ◌≤◌, ◌<◌, ◌+◌, ◌*◌, List, [], ◌∷◌, ◌++◌, length, take, refl, ap, arith, get_or, ◌∙◌, sym, subst, length-take, drop-cons, append_assoc, take-add}
use Rattle.std.specs.List.{range_with_len}
use Rattle.std.proofs.lemmas.Simd.{pick_l_whole, length-put_chunk, take_more_put_chunk}
use lib.Lanes.{pick_l, chunk, put_chunk}
use Rattle.span_kernels.specs.Bytes.{interleaved}

abbrev pub low : List ℕ
low = 0 ∷ (16 ∷ (1 ∷ (17 ∷ (2 ∷ (18 ∷ (3 ∷ (19 ∷ (4 ∷ (20 ∷ (5 ∷ (21 ∷ (6 ∷ (22 ∷ (7 ∷ (23 ∷ [])))))))))))))))

abbrev pub high : List ℕ
high = 8 ∷ (24 ∷ (9 ∷ (25 ∷ (10 ∷ (26 ∷ (11 ∷ (27 ∷ (12 ∷ (28 ∷ (13 ∷ (29 ∷ (14 ∷ (30 ∷ (15 ∷ (31 ∷ [])))))))))))))))

abbrev pub mixed : List ℕ → List ℕ → List ℕ → List ℕ
mixed ks xs ys = pick_l 0 (xs ++ ys) ks

abbrev pub spelt : List ℕ → List ℕ
spelt xs = pick_l 0 xs (range_with_len 0 16)

-- what holds of four lists that are spelt out holds of four lists of 16
pub of_spelt : (P : List ℕ → List ℕ → List ℕ → List ℕ → Type 0) (b g r a : List ℕ) → length b ≡ 16 → length g ≡ 16 → length r ≡ 16 → length a ≡ 16 → P (spelt b) (spelt g) (spelt r) (spelt a) → P b g r a
of_spelt P b g r a hb hg hr ha p =
    subst (λ (x : List ℕ). P x g r a) (pick_l_whole 0 b 16 hb)
    (subst (λ (x : List ℕ). P (spelt b) x r a) (pick_l_whole 0 g 16 hg)
    (subst (λ (x : List ℕ). P (spelt b) (spelt g) x a) (pick_l_whole 0 r 16 hr)
    (subst (λ (x : List ℕ). P (spelt b) (spelt g) (spelt r) x) (pick_l_whole 0 a 16 ha) p)))

pub first_interleaved : (b g r a : List ℕ) → length b ≡ 16 → length g ≡ 16 → length r ≡ 16 → length a ≡ 16 → mixed low (mixed low b r) (mixed low g a) ≡ interleaved (take 4 b) (take 4 g) (take 4 r) (take 4 a)
first_interleaved b g r a hb hg hr ha = of_spelt (λ (b g r a : List ℕ). mixed low (mixed low b r) (mixed low g a) ≡ interleaved (take 4 b) (take 4 g) (take 4 r) (take 4 a)) b g r a hb hg hr ha refl

pub second_interleaved : (b g r a : List ℕ) → length b ≡ 16 → length g ≡ 16 → length r ≡ 16 → length a ≡ 16 → mixed high (mixed low b r) (mixed low g a) ≡ interleaved (chunk 4 4 b) (chunk 4 4 g) (chunk 4 4 r) (chunk 4 4 a)
second_interleaved b g r a hb hg hr ha = of_spelt (λ (b g r a : List ℕ). mixed high (mixed low b r) (mixed low g a) ≡ interleaved (chunk 4 4 b) (chunk 4 4 g) (chunk 4 4 r) (chunk 4 4 a)) b g r a hb hg hr ha refl

pub third_interleaved : (b g r a : List ℕ) → length b ≡ 16 → length g ≡ 16 → length r ≡ 16 → length a ≡ 16 → mixed low (mixed high b r) (mixed high g a) ≡ interleaved (chunk 8 4 b) (chunk 8 4 g) (chunk 8 4 r) (chunk 8 4 a)
third_interleaved b g r a hb hg hr ha = of_spelt (λ (b g r a : List ℕ). mixed low (mixed high b r) (mixed high g a) ≡ interleaved (chunk 8 4 b) (chunk 8 4 g) (chunk 8 4 r) (chunk 8 4 a)) b g r a hb hg hr ha refl

pub fourth_interleaved : (b g r a : List ℕ) → length b ≡ 16 → length g ≡ 16 → length r ≡ 16 → length a ≡ 16 → mixed high (mixed high b r) (mixed high g a) ≡ interleaved (chunk 12 4 b) (chunk 12 4 g) (chunk 12 4 r) (chunk 12 4 a)
fourth_interleaved b g r a hb hg hr ha = of_spelt (λ (b g r a : List ℕ). mixed high (mixed high b r) (mixed high g a) ≡ interleaved (chunk 12 4 b) (chunk 12 4 g) (chunk 12 4 r) (chunk 12 4 a)) b g r a hb hg hr ha refl

pub interleaved_append : (b g r a b' g' r' a' : List ℕ) → length g ≡ length b → length r ≡ length b → length a ≡ length b → interleaved (b ++ b') (g ++ g') (r ++ r') (a ++ a') ≡ interleaved b g r a ++ interleaved b' g' r' a'
interleaved_append [] [] [] [] b' g' r' a' hg hr ha = refl
interleaved_append [] [] [] (z ∷ a) b' g' r' a' hg hr ha = absurd (omega arith)
interleaved_append [] [] (y ∷ r) a b' g' r' a' hg hr ha = absurd (omega arith)
interleaved_append [] (x ∷ g) r a b' g' r' a' hg hr ha = absurd (omega arith)
interleaved_append (w ∷ b) [] r a b' g' r' a' hg hr ha = absurd (omega arith)
interleaved_append (w ∷ b) (x ∷ g) [] a b' g' r' a' hg hr ha = absurd (omega arith)
interleaved_append (w ∷ b) (x ∷ g) (y ∷ r) [] b' g' r' a' hg hr ha = absurd (omega arith)
interleaved_append (w ∷ b) (x ∷ g) (y ∷ r) (z ∷ a) b' g' r' a' hg hr ha =
    ap (λ l. w ∷ (x ∷ (y ∷ (z ∷ l)))) (interleaved_append b g r a b' g' r' a' (omega arith) (omega arith) (omega arith))

-- n more pixels
pub interleaved_more : (i n : ℕ) (b g r a : List ℕ) → i + n ≤ length b → length g ≡ length b → length r ≡ length b → length a ≡ length b → interleaved (take (i + n) b) (take (i + n) g) (take (i + n) r) (take (i + n) a) ≡ interleaved (take i b) (take i g) (take i r) (take i a) ++ interleaved (chunk i n b) (chunk i n g) (chunk i n r) (chunk i n a)
interleaved_more i n b g r a le hg hr ha =
    rw (take-add i n b, take-add i n g, take-add i n r, take-add i n a)
    (interleaved_append (take i b) (take i g) (take i r) (take i a) (chunk i n b) (chunk i n g) (chunk i n r) (chunk i n a)
    (omega (arith, length-take i g, length-take i b)) (omega (arith, length-take i r, length-take i b)) (omega (arith, length-take i a, length-take i b)))

pub quarters : (b g r a : List ℕ) → length b ≡ 16 → length g ≡ 16 → length r ≡ 16 → length a ≡ 16 → ((interleaved (take 4 b) (take 4 g) (take 4 r) (take 4 a) ++ interleaved (chunk 4 4 b) (chunk 4 4 g) (chunk 4 4 r) (chunk 4 4 a)) ++ interleaved (chunk 8 4 b) (chunk 8 4 g) (chunk 8 4 r) (chunk 8 4 a)) ++ interleaved (chunk 12 4 b) (chunk 12 4 g) (chunk 12 4 r) (chunk 12 4 a) ≡ interleaved b g r a
quarters b g r a hb hg hr ha = of_spelt (λ (b g r a : List ℕ). ((interleaved (take 4 b) (take 4 g) (take 4 r) (take 4 a) ++ interleaved (chunk 4 4 b) (chunk 4 4 g) (chunk 4 4 r) (chunk 4 4 a)) ++ interleaved (chunk 8 4 b) (chunk 8 4 g) (chunk 8 4 r) (chunk 8 4 a)) ++ interleaved (chunk 12 4 b) (chunk 12 4 g) (chunk 12 4 r) (chunk 12 4 a) ≡ interleaved b g r a) b g r a hb hg hr ha refl

-- four stores in a row
pub stored_four : (i : ℕ) (out v w x y : List ℕ) → length v ≡ 16 → length w ≡ 16 → length x ≡ 16 → length y ≡ 16 → i + 64 ≤ length out → take (i + 64) (put_chunk (i + 48) (put_chunk (i + 32) (put_chunk (i + 16) (put_chunk i out v) w) x) y) ≡ take i out ++ (((v ++ w) ++ x) ++ y)
stored_four i out v w x y hv hw hx hy le =
    let o1 = put_chunk i out v in
    let o2 = put_chunk (i + 16) o1 w in
    let o3 = put_chunk (i + 32) o2 x in
    let l1 = length-put_chunk i out v in
    let l2 = length-put_chunk (i + 16) o1 w in
    let l3 = length-put_chunk (i + 32) o2 x in
    let t1 = take_more_put_chunk i out v (i + 16) (omega arith) (omega arith) in
    let t2 = take_more_put_chunk (i + 16) o1 w (i + 32) (omega arith) (omega arith) in
    let t3 = take_more_put_chunk (i + 32) o2 x (i + 48) (omega arith) (omega arith) in
    let t4 = take_more_put_chunk (i + 48) o3 y (i + 64) (omega arith) (omega arith) in
    t4 ∙ ap (λ l. l ++ y) (t3 ∙ ap (λ l. l ++ x) (t2 ∙ ap (λ l. l ++ w) t1)) ∙ simp append_assoc

pub chunk_one : (i : ℕ) (xs : List ℕ) → i < length xs → chunk i 1 xs ≡ get_or xs i 0 ∷ []
chunk_one i xs lt = ap (take 1) (drop-cons xs i 0 lt)

pub wide_step : (i : ℕ) (b g r a out v w x y : List ℕ) → i + 16 ≤ length b → length g ≡ length b → length r ≡ length b → length a ≡ length b → length out ≡ 4 * length b → take (4 * i) out ≡ interleaved (take i b) (take i g) (take i r) (take i a) → length v ≡ 16 → length w ≡ 16 → length x ≡ 16 → length y ≡ 16 → ((v ++ w) ++ x) ++ y ≡ interleaved (chunk i 16 b) (chunk i 16 g) (chunk i 16 r) (chunk i 16 a) → take (4 * (i + 16)) (put_chunk (4 * i + 48) (put_chunk (4 * i + 32) (put_chunk (4 * i + 16) (put_chunk (4 * i) out v) w) x) y) ≡ interleaved (take (i + 16) b) (take (i + 16) g) (take (i + 16) r) (take (i + 16) a)
wide_step i b g r a out v w x y le hg hr ha ho done hv hw hx hy is =
    let at : 4 * (i + 16) ≡ 4 * i + 64 = omega arith in
    let s = stored_four (4 * i) out v w x y hv hw hx hy (omega arith) in
    rw at (s ∙ ap (λ l. l ++ (((v ++ w) ++ x) ++ y)) done ∙ ap (λ l. interleaved (take i b) (take i g) (take i r) (take i a) ++ l) is ∙ sym (interleaved_more i 16 b g r a le hg hr ha))

pub rest_step : (i : ℕ) (b g r a out : List ℕ) → i < length b → length g ≡ length b → length r ≡ length b → length a ≡ length b → length out ≡ 4 * length b → take (4 * i) out ≡ interleaved (take i b) (take i g) (take i r) (take i a) → take (4 * (i + 1)) (put_chunk (4 * i) out (get_or b i 0 ∷ (get_or g i 0 ∷ (get_or r i 0 ∷ (get_or a i 0 ∷ []))))) ≡ interleaved (take (i + 1) b) (take (i + 1) g) (take (i + 1) r) (take (i + 1) a)
rest_step i b g r a out lt hg hr ha ho done =
    let one = get_or b i 0 ∷ (get_or g i 0 ∷ (get_or r i 0 ∷ (get_or a i 0 ∷ []))) in
    let s = take_more_put_chunk (4 * i) out one (4 * (i + 1)) (omega arith) (omega arith) in
    let eb = chunk_one i b lt in
    let eg = chunk_one i g (omega arith) in
    let er = chunk_one i r (omega arith) in
    let ea = chunk_one i a (omega arith) in
    let m = interleaved_more i 1 b g r a (omega arith) hg hr ha in
    let n = rw (eb, eg, er, ea) at m in
    s ∙ ap (λ l. l ++ one) done ∙ sym n
