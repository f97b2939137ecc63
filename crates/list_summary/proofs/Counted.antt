-- Items counted one by one.
use Rattle.std.proofs.Common.{◌≡◌, ℕ, zero, suc, ◌+◌, ◌<◌, ◌≤◌, List, [], ◌∷◌, ◌++◌, length, map, get_or, refl, sym, ap, ◌∙◌, arith, append_assoc}
use Rattle.std.proofs.lemmas.List.{append-nil, map-append}
use Rattle.std.proofs.lemmas.List.Sums.{fold-append}
use Rattle.display_list.specs.declared.item.Item.{Item}
use Rattle.display_list.specs.ListModel.{ListModel}
use Rattle.display_list.specs.Levels.{totals_of}
use Rattle.display_list.specs.Trees.{Trees, told, tree_of, trees_of, tree_nesting, nesting_of}
use Rattle.list_summary.specs.declared.iframe.Iframe.{Iframe}
use Rattle.list_summary.specs.Iframes.{SummaryModel, summary_of, trees_iframes}
use Rattle.list_summary.specs.declared.totals.Totals.{Totals}
use Rattle.list_summary.specs.Shown.{Shown, alone, within, nobody, shown_trees}
use Rattle.list_summary.specs.Totals.{single, both, and_shown, no_totals, totals_of_shown}
use Rattle.list_summary.proofs.Sums.{none_totals, single_totals, both_totals}

-- one item
pub shown-one : (sum : Totals) (d c g : ℕ) → and_shown sum (map (within d) (alone c g ∷ [])) ≡ both sum (single d c g)
shown-one sum d c g = ap (λ n. both sum (single n c g)) (omega arith)

within_one : (d : ℕ) (x : Shown) → within d (within 1 x) ≡ within (d + 1) x
within_one d x =
    let e : x.nesting + 1 + d ≡ x.nesting + (d + 1) = omega arith in
    ap (λ n. (let s : Shown = record { nesting = n; clips = x.clips; glyphs = x.glyphs } in s)) e

pub within_ones : (d : ℕ) (xs : List Shown) → map (within d) (map (within 1) xs) ≡ map (within (d + 1)) xs
within_ones d [] = refl
within_ones d (x ∷ xs) = rw (within_one d x, within_ones d xs) refl

-- a context with its items
pub shown-context : (sum : Totals) (d c : ℕ) (xs : List Shown)
    → and_shown sum (map (within d) (map (within 1) (alone c 0 ∷ xs))) ≡ and_shown (both sum (single (d + 1) c 0)) (map (within (d + 1)) xs)
shown-context sum d c xs =
    ap (and_shown sum) (within_ones d (alone c 0 ∷ xs)) ∙ ap (λ n. and_shown (both sum (single n c 0)) (map (within (d + 1)) xs)) (omega arith)

-- items after others
pub shown-more : (sum : Totals) (d : ℕ) (xs ys : List Shown)
    → and_shown sum (map (within d) (xs ++ ys)) ≡ and_shown (and_shown sum (map (within d) xs)) (map (within d) ys)
shown-more sum d xs ys =
    ap (and_shown sum) (map-append (within d) xs ys) ∙ fold-append (λ t s. both t (single s.nesting s.clips s.glyphs)) sum (map (within d) xs) (map (within d) ys)

pub ruleset counted = (shown-one, shown-context)

-- ---- the sum of all is that of the list

sum_after : (ys xs : List Shown) → and_shown (totals_of_shown ys) xs ≡ totals_of_shown (ys ++ xs)
sum_after ys [] = ap totals_of_shown (sym (append-nil ys))
sum_after ys (x ∷ xs) =
    ap (λ (t : Totals). and_shown (both (totals_of_shown ys) t) xs) (single_totals x)
    ∙ ap (λ (t : Totals). and_shown t xs) (sym (both_totals ys (x ∷ [])))
    ∙ sum_after (ys ++ x ∷ []) xs
    ∙ ap totals_of_shown (append_assoc ys (x ∷ []) xs)

pub within_none : (xs : List Shown) → map (within 0) xs ≡ xs
within_none [] = refl
within_none (x ∷ xs) = rw (within_none xs) (ap (λ n. (let s : Shown = record { nesting = n; clips = x.clips; glyphs = x.glyphs } in s) ∷ xs) (omega arith))

pub all_counted : (xs : List Shown) → and_shown no_totals (map (within 0) xs) ≡ totals_of_shown xs
all_counted xs = ap (and_shown no_totals) (within_none xs) ∙ ap (λ (t : Totals). and_shown t xs) none_totals ∙ sum_after [] xs

-- ---- how deep items nest

pub item_nesting : (is : List Item) (k : ℕ) (i : Item) → k < length is → i ≡ get_or is k i → tree_nesting (tree_of i) ≤ nesting_of (trees_of is)
item_nesting [] k i lt e = absurd (omega arith)
item_nesting (j ∷ is) zero i lt e = omega (arith, ap (λ (o : Item). tree_nesting (tree_of o)) e)
item_nesting (j ∷ is) (suc k) i lt e = omega (arith, item_nesting is k i (omega arith) e)

-- ---- the whole list

pub summed : (l : ListModel) (own : Totals) (iframes : List Iframe) (counts : List ℕ) (ts : Trees) → counts ≡ totals_of l.chains → told l.items ≡ ts
    → own ≡ and_shown no_totals (map (within 0) (shown_trees nobody counts ts)) → iframes ≡ trees_iframes counts 0 ts
    → (let s : SummaryModel = record { own = own; iframes = iframes } in s) ≡ summary_of l
summed l own iframes counts ts e f g h =
    let k : own ≡ totals_of_shown (shown_trees nobody (totals_of l.chains) (told l.items)) = g ∙ all_counted (shown_trees nobody counts ts) ∙ rw (e, f) refl in
    rw (k, h, e, f) refl
