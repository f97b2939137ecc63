-- Totals of lists that are joined, and of items in more contexts and under more clips.
use Rattle.std.proofs.Common.{◌≡◌, ℕ, ◌+◌, ◌*◌, ◌<◌, max, ◌==◌, false, List, [], ◌∷◌, ◌++◌, length, map, refl, sym, ap, ◌∙◌, arith}
use Rattle.std.proofs.lemmas.List.{length-append, length-map}
use Rattle.std.proofs.lemmas.Bool.{ne_eqb}
use Rattle.list_summary.specs.declared.totals.Totals.{Totals}
use Rattle.list_summary.specs.Shown.{Shown, within, under}
use Rattle.list_summary.specs.Totals.{capped, total, greatest, totals_of_shown, no_totals, single, both, raised, lowered}
use Rattle.list_summary.proofs.Caps.{capped-sum, capped-one, capped-max, capped-three, capped-product, capped-positive}

total-append : (f : Shown → ℕ) (xs ys : List Shown) → total f (xs ++ ys) ≡ total f xs + total f ys
total-append f [] ys = omega arith
total-append f (x ∷ xs) ys = omega (arith, total-append f xs ys)

greatest-append : (f : Shown → ℕ) (xs ys : List Shown) → greatest f (xs ++ ys) ≡ max (greatest f xs) (greatest f ys)
greatest-append f [] ys = omega arith
greatest-append f (x ∷ xs) ys = omega (arith, greatest-append f xs ys)

-- a number that a change leaves
same_total : (f : Shown → ℕ) (g : Shown → Shown) → ((x : Shown) → f (g x) ≡ f x) → (xs : List Shown) → total f (map g xs) ≡ total f xs
same_total f g same [] = refl
same_total f g same (x ∷ xs) = omega (arith, same x, same_total f g same xs)

same_greatest : (f : Shown → ℕ) (g : Shown → Shown) → ((x : Shown) → f (g x) ≡ f x) → (xs : List Shown) → greatest f (map g xs) ≡ greatest f xs
same_greatest f g same [] = refl
same_greatest f g same (x ∷ xs) = omega (arith, same x, same_greatest f g same xs)

-- a number that a change raises by n
raised_total : (f : Shown → ℕ) (g : Shown → Shown) (n : ℕ) → ((x : Shown) → f (g x) ≡ f x + n) → (xs : List Shown) → total f (map g xs) ≡ total f xs + n * length xs
raised_total f g n up [] = omega arith
raised_total f g n up (x ∷ xs) = omega (arith, up x, raised_total f g n up xs)

raised_greatest : (f : Shown → ℕ) (g : Shown → Shown) (n : ℕ) → ((x : Shown) → f (g x) ≡ f x + n) → (x : Shown) (xs : List Shown)
    → greatest f (map g (x ∷ xs)) ≡ greatest f (x ∷ xs) + n
raised_greatest f g n up x [] = omega (arith, up x)
raised_greatest f g n up x (y ∷ ys) = omega (arith, up x, raised_greatest f g n up y ys)

-- ---- capped

totals_are : (i g c n m j h d o k : ℕ) → i ≡ j → g ≡ h → c ≡ d → n ≡ o → m ≡ k
    → (let t : Totals = record { items = i; glyphs = g; clips = c; nesting = n; most_clips = m } in t) ≡ record { items = j; glyphs = h; clips = d; nesting = o; most_clips = k }
totals_are i g c n m j h d o k e f p q r = rw (e, f, p, q, r) refl

pub none_totals : no_totals ≡ totals_of_shown []
unfolding capped
none_totals = refl

max_zero : (n : ℕ) → max n 0 ≡ n
max_zero n = omega arith

plus_zero : (n : ℕ) → n + 0 ≡ n
plus_zero n = omega arith

one_capped : 1 ≡ capped 1
unfolding capped
one_capped = refl

pub single_totals : (x : Shown) → single x.nesting x.clips x.glyphs ≡ totals_of_shown (x ∷ [])
unfolding single
single_totals x = totals_are _ _ _ _ _ _ _ _ _ _ one_capped
    (ap capped (sym (plus_zero x.glyphs))) (ap capped (sym (plus_zero x.clips)))
    (ap capped (sym (max_zero x.nesting))) (ap capped (sym (max_zero x.clips)))

sum_of : (a b n : ℕ) → n ≡ a + b → capped n ≡ capped (capped a + capped b)
sum_of a b n e = ap capped e ∙ sym (capped-sum a b)

max_of : (a b n : ℕ) → n ≡ max a b → capped n ≡ max (capped a) (capped b)
max_of a b n e = ap capped e ∙ capped-max a b

pub both_totals : (xs ys : List Shown) → totals_of_shown (xs ++ ys) ≡ both (totals_of_shown xs) (totals_of_shown ys)
unfolding both
both_totals xs ys = totals_are _ _ _ _ _ _ _ _ _ _
    (sum_of (length xs) (length ys) _ (length-append xs ys))
    (sum_of (total (λ s. s.glyphs) xs) (total (λ s. s.glyphs) ys) _ (total-append (λ s. s.glyphs) xs ys))
    (sum_of (total (λ s. s.clips) xs) (total (λ s. s.clips) ys) _ (total-append (λ s. s.clips) xs ys))
    (max_of (greatest (λ s. s.nesting) xs) (greatest (λ s. s.nesting) ys) _ (greatest-append (λ s. s.nesting) xs ys))
    (max_of (greatest (λ s. s.clips) xs) (greatest (λ s. s.clips) ys) _ (greatest-append (λ s. s.clips) xs ys))

plus_swaps : (a b : ℕ) → capped (a + b) ≡ capped (b + a)
plus_swaps a b = ap capped (omega arith)

max_swaps : (a b : ℕ) → max a b ≡ max b a
max_swaps a b = omega arith

pub both_swap : (a b : Totals) → both a b ≡ both b a
unfolding both
both_swap a b = totals_are _ _ _ _ _ _ _ _ _ _
    (plus_swaps a.items b.items) (plus_swaps a.glyphs b.glyphs) (plus_swaps a.clips b.clips)
    (max_swaps a.nesting b.nesting) (max_swaps a.most_clips b.most_clips)

max_three : (a b c : ℕ) → max (max a b) c ≡ max a (max b c)
max_three a b c = omega arith

pub both_join : (a b c : Totals) → both (both a b) c ≡ both a (both b c)
unfolding both
both_join a b c = totals_are _ _ _ _ _ _ _ _ _ _
    (capped-three a.items b.items c.items) (capped-three a.glyphs b.glyphs c.glyphs) (capped-three a.clips b.clips c.clips)
    (max_three a.nesting b.nesting c.nesting) (max_three a.most_clips b.most_clips c.most_clips)

-- ---- in more contexts, under more clips

-- both changes at once
abbrev pub inside : ℕ → ℕ → Shown → Shown
inside contexts clips s = within contexts (under clips s)

one_of : (a n m : ℕ) → m ≡ a + n → capped m ≡ capped (capped a + n)
one_of a n m e = ap capped e ∙ sym (capped-one a n)

product_of : (x n i m : ℕ) → m ≡ x + n * i → capped m ≡ capped (capped x + n * capped i)
product_of x n i m e = ap capped e ∙ sym (capped-product x n i)

raised_some : (n i m : ℕ) → 0 < i → capped (m + n) ≡ raised n i m
unfolding raised
raised_some n i m h = let e : (i == 0) ≡ false = ne_eqb i 0 (λ (z : i ≡ 0). absurd (omega arith)) in rw e refl

raised_none : (n : ℕ) → capped 0 ≡ raised n (capped 0) (capped 0)
unfolding capped raised
raised_none n = refl

raised_of : (f : Shown → ℕ) (g : Shown → Shown) (n : ℕ) → ((x : Shown) → f (g x) ≡ f x + n) → (xs : List Shown)
    → capped (greatest f (map g xs)) ≡ raised n (capped (length xs)) (capped (greatest f xs))
raised_of f g n up [] = raised_none n
raised_of f g n up (x ∷ xs) =
    one_of (greatest f (x ∷ xs)) n _ (raised_greatest f g n up x xs)
    ∙ raised_some n (capped (length (x ∷ xs))) (capped (greatest f (x ∷ xs))) (capped-positive (length xs))

pub inside_totals : (contexts clips : ℕ) (xs : List Shown) → totals_of_shown (map (inside contexts clips) xs) ≡ lowered contexts clips (totals_of_shown xs)
unfolding lowered
inside_totals contexts clips xs = totals_are _ _ _ _ _ _ _ _ _ _
    (ap capped (length-map xs (inside contexts clips)))
    (ap capped (same_total (λ s. s.glyphs) (inside contexts clips) (λ x. refl) xs))
    (product_of (total (λ s. s.clips) xs) clips (length xs) _ (raised_total (λ s. s.clips) (inside contexts clips) clips (λ x. refl) xs))
    (raised_of (λ s. s.nesting) (inside contexts clips) contexts (λ x. refl) xs)
    (raised_of (λ s. s.clips) (inside contexts clips) clips (λ x. refl) xs)
