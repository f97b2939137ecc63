-- The table of totals, from the last pipeline down.
use Rattle.std.proofs.Common.{◌≡◌, ℕ, zero, suc, ◌+◌, ◌<◌, ◌≤◌, Bool, true, false, true≢false, IsTrue, List, [], ◌∷◌, length, set, ◌==◌, ◌||◌, Option, Some, None, refl, sym, ap, subst, ◌∙◌, arith, inl, inr}
use Rattle.std.proofs.lemmas.Bool.{cases_lt, eq-eqb}
use Rattle.std.proofs.lemmas.List.{get_or-set_same, get_or-set_other}
use Rattle.display_list.specs.ListModel.{ListModel}
use Rattle.list_summary.specs.declared.totals.Totals.{Totals}
use Rattle.list_summary.specs.declared.iframe.Iframe.{Iframe}
use Rattle.list_summary.specs.Shown.{Shown}
use Rattle.list_summary.specs.Totals.{both, no_totals, totals_of_shown}
use Rattle.list_summary.specs.Iframes.{iframe_totals, with_iframes, summary_of}
use Rattle.list_summary.proofs.Sums.{none_totals}
use Rattle.list_summary.proofs.IframeSums.{summaries_tell}
use Rattle.pipelines.specs.Table.{PipelineMap, pipeline_list, AreFit}
use Rattle.scene_limits.specs.Drawn.{AreReached, is_marked, iframes_of, have_iframe_of, names}
use Rattle.scene_limits.specs.Expanded.{shown_list, expanded, list_totals, totals_in}
use Rattle.scene_limits.proofs.Iframes.{or-true, names_above}

-- ---- what agrees where it is named

abbrev pub AgreeAt : {X : Type 0} → (ℕ → X) → (ℕ → X) → List Iframe → Type 0
AgreeAt f g fs = (q : ℕ) → have_iframe_of q fs ≡ true → f q ≡ g q

pub agree_head : {X : Type 0} (f g : ℕ → X) (a : Iframe) (fs : List Iframe) → AgreeAt f g (a ∷ fs) → f a.pipeline ≡ g a.pipeline
agree_head f g a fs h = h a.pipeline (ap (λ (b : Bool). b || have_iframe_of a.pipeline fs) (eq-eqb a.pipeline a.pipeline refl))

pub agree_tail : {X : Type 0} (f g : ℕ → X) (a : Iframe) (fs : List Iframe) → AgreeAt f g (a ∷ fs) → AgreeAt f g fs
agree_tail f g a fs h q k = h q (ap (λ (b : Bool). (a.pipeline == q) || b) k ∙ or-true (a.pipeline == q))

same_sums : (f g : ℕ → Totals) (fs : List Iframe) (sum : Totals) → AgreeAt f g fs → with_iframes f fs sum ≡ with_iframes g fs sum
same_sums f g [] sum h = refl
same_sums f g (a ∷ fs) sum h =
    ap (λ (t : Totals). with_iframes f fs (both sum (iframe_totals a t))) (agree_head f g a fs h) ∙ same_sums f g fs (both sum (iframe_totals a (g a.pipeline))) (agree_tail f g a fs h)

same_list_totals : (f g : ℕ → Totals) (o : Option ListModel) → AgreeAt f g (iframes_of o) → list_totals f o ≡ list_totals g o
same_list_totals f g None h = refl
same_list_totals f g (Some l) h = same_sums f g (summary_of l).iframes (summary_of l).own h

-- the totals of what a list stands for
pub list_totals_are : (below : ℕ → List Shown) (o : Option ListModel) → list_totals (λ q. totals_of_shown (below q)) o ≡ totals_of_shown (shown_list below o)
list_totals_are below None = none_totals
list_totals_are below (Some l) = sym (summaries_tell below l)

-- ---- the table

-- from a pipeline on, where it is reached
abbrev pub IsTable : (ℕ → Bool) → List Totals → PipelineMap → ℕ → Type 0
IsTable reached table ps low = (q : ℕ) → low ≤ q → q < 64 → IsTrue (reached q) → (m : ℕ) → 64 ≤ m + q → totals_in table q ≡ totals_of_shown (expanded m ps q)

pub table_starts : (reached : ℕ → Bool) (table : List Totals) (ps : PipelineMap) (low : ℕ) → 64 ≤ low → IsTable reached table ps low
table_starts reached table ps low h q le lt on m k = absurd (omega arith)

-- what a reached pipeline names is reached, above it
pub reached_above : (ps : PipelineMap) (marks : List Bool) (p q : ℕ) → AreFit ps → AreReached marks ps → p < 64 → is_marked marks p ≡ true → names ps p q ≡ true
    → (p < q) × (q < 64) × (is_marked marks q ≡ true)
reached_above ps marks p q fit are lt on name =
    let above = names_above ps p q fit name in
    let k : q ≤ 63 = above.1 in
    (above.0, omega arith, are.named p q lt on name)

level : (marks : List Bool) (m : ℕ) (ps : PipelineMap) (p : ℕ) (t : Totals) (table : List Totals) → AreFit ps → AreReached marks ps → p < 64 → is_marked marks p ≡ true → 64 ≤ m + p
    → t ≡ list_totals (totals_in table) (pipeline_list ps p) → IsTable (is_marked marks) table ps (p + 1) → t ≡ totals_of_shown (expanded m ps p)
unfolding expanded
level marks zero ps p t table fit are lt on le is_t was = absurd (omega arith)
level marks (suc m) ps p t table fit are lt on le is_t was =
    is_t
    ∙ same_list_totals (totals_in table) (λ q. totals_of_shown (expanded m ps q)) (pipeline_list ps p)
    (λ q name. let k = reached_above ps marks p q fit are lt on name in let up : p < q = k.0 in was q (omega arith) k.1 k.2 m (omega arith))
    ∙ list_totals_are (expanded m ps) (pipeline_list ps p)

pub table_grows : (marks : List Bool) (ps : PipelineMap) (p high : ℕ) (t : Totals) (table : List Totals) → AreFit ps → AreReached marks ps → p < 64 → is_marked marks p ≡ true
    → length table ≡ 64 → high ≡ p + 1 → t ≡ list_totals (totals_in table) (pipeline_list ps p) → IsTable (is_marked marks) table ps high → IsTable (is_marked marks) (set table p t) ps p
table_grows marks ps p high t table fit are lt on size e is_t was q le low here m h =
    elim (cases_lt p q) [
      | inl k ↦ get_or-set_other table p q t no_totals (λ (e : q ≡ p). absurd (omega arith)) ∙ was q (omega arith) low here m h
      | inr k ↦
          (let same : q ≡ p = omega arith in
          ap (totals_in (set table p t)) same ∙ get_or-set_same table p t no_totals (omega arith)
          ∙ level marks m ps p t table fit are lt on (omega arith) is_t (subst (IsTable (is_marked marks) table ps) e was)
          ∙ ap (λ (i : ℕ). totals_of_shown (expanded m ps i)) (sym same))
    ]

-- a pipeline that isn't reached
pub table_stays : (marks : List Bool) (ps : PipelineMap) (p high : ℕ) (table : List Totals) → high ≡ p + 1 → is_marked marks p ≡ false → IsTable (is_marked marks) table ps high
    → IsTable (is_marked marks) table ps p
table_stays marks ps p high table e off was q le low here m h =
    elim (cases_lt p q) [ inl k ↦ was q (omega arith) low here m h | inr k ↦ (let same : q ≡ p = omega arith in absurd (true≢false (sym here ∙ ap (is_marked marks) same ∙ off))) ]
