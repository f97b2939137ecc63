-- Marks of the pipelines that are reached, and those that are drawn.
use Rattle.std.proofs.Common.{zero, suc, ◌≡◌, ℕ, ◌+◌, ◌<◌, ◌≤◌, Bool, true, false, ◌||◌, ◌&&◌, IsTrue, List, length, get_or, set, ◌==◌, refl, sym, ap, ◌∙◌, arith, inl, inr, true≢false}
use Rattle.std.proofs.Math.Bool.{and-true, or-false}
use Rattle.std.proofs.Math.ListN.{replicate}
use Rattle.std.proofs.lemmas.Bool.{eq-eqb, ne_eqb, cases_eq, cases_lt, and_from, and_parts, or_cases}
use Rattle.std.proofs.lemmas.List.{get_or-set_same, get_or-set_other, get_or_past, set_past, get_or-replicate, get_or_default}
use Rattle.pipelines.specs.Table.{PipelineMap, AreFit}
use Rattle.scene_limits.specs.Drawn.{is_marked, is_drawn, has_list, names, AreReached, AreDrawn, IsDrawn, root, named}
use Rattle.scene_limits.proofs.Iframes.{or-true, names_above, namer_listed}

and-false : (b : Bool) → (b && false) ≡ false
and-false true = refl
and-false false = refl

-- ---- one mark

pub marked_same : (marks : List Bool) (p : ℕ) → is_marked (set marks p true) p ≡ true
marked_same marks p =
    elim (cases_lt p (length marks)) [
      | inl lt ↦ get_or-set_same marks p true true lt
      | inr le ↦ ap (λ (ms : List Bool). get_or ms p true) (set_past marks p true le) ∙ get_or_past marks p true le
    ]

pub marked_one : (marks : List Bool) (p q : ℕ) → is_marked (set marks p true) q ≡ (is_marked marks q || (p == q))
marked_one marks p q =
    elim (cases_eq p q) [
      | inl e ↦ ap (λ (i : ℕ). is_marked (set marks p true) i) (sym e) ∙ marked_same marks p
          ∙ sym (ap (λ (b : Bool). is_marked marks q || b) (eq-eqb p q e) ∙ or-true (is_marked marks q))
      | inr ne ↦ get_or-set_other marks p q true true (λ (e : q ≡ p). ne (sym e))
          ∙ sym (ap (λ (b : Bool). is_marked marks q || b) (ne_eqb p q ne) ∙ or-false (is_marked marks q))
    ]

-- ---- all that is named

-- what the marked ones before a pipeline name is marked
abbrev pub AreNamedMarked : List Bool → PipelineMap → ℕ → Type 0
AreNamedMarked marks ps high = (p q : ℕ) → p < high → IsTrue (is_marked marks p) → IsTrue (names ps p q) → IsTrue (is_marked marks q)

abbrev pub Grows : List Bool → List Bool → PipelineMap → ℕ → Type 0
Grows marks grown ps p = (q : ℕ) → is_marked grown q ≡ (is_marked marks q || names ps p q)

-- a marked one before was marked already
was_marked : (ps : PipelineMap) (p i : ℕ) (marks grown : List Bool) → AreFit ps → i ≤ p → Grows marks grown ps p → is_marked grown i ≡ true → is_marked marks i ≡ true
was_marked ps p i marks grown fit le grows on =
    elim (or_cases (is_marked marks i) (names ps p i) (sym (grows i) ∙ on)) [
      | inl m ↦ m
      | inr m ↦ (let above : p < i = (names_above ps p i fit m).0 in absurd (omega arith))
    ]

-- a marked pipeline, when what it names is marked too
pub marks_grow : (ps : PipelineMap) (p high : ℕ) (marks grown : List Bool) → high ≡ p + 1 → AreFit ps → AreNamedMarked marks ps p → Grows marks grown ps p → AreNamedMarked grown ps high
marks_grow ps p high marks grown e fit are grows i q lt on name =
    elim (cases_lt i p) [
      | inl k ↦
          (let was = was_marked ps p i marks grown fit (omega arith) grows on in
          let m : is_marked marks q ≡ true = are i q k was name in
          let r : is_marked grown q ≡ true = grows q ∙ ap (λ (b : Bool). b || names ps p q) m in r)
      | inr k ↦
          (let same : i ≡ p = omega arith in
          let n : names ps p q ≡ true = ap (λ (j : ℕ). names ps j q) (sym same) ∙ name in
          let r : is_marked grown q ≡ true = grows q ∙ ap (λ (b : Bool). is_marked marks q || b) n ∙ or-true (is_marked marks q) in r)
    ]

-- one that isn't marked
pub marks_stay : (ps : PipelineMap) (p high : ℕ) (marks : List Bool) → high ≡ p + 1 → is_marked marks p ≡ false → AreNamedMarked marks ps p → AreNamedMarked marks ps high
marks_stay ps p high marks e off are i q lt on name =
    elim (cases_lt i p) [ inl k ↦ are i q k on name | inr k ↦ (let same : i ≡ p = omega arith in absurd (true≢false (sym on ∙ ap (is_marked marks) same ∙ off))) ]

-- ---- no others

pub drawn_start : (ps : PipelineMap) (n : ℕ) (marks : List Bool) → marks ≡ set (replicate n false) 0 true → n ≡ 64 → AreDrawn marks ps
drawn_start ps n marks e size zero lt on has = root has
drawn_start ps n marks e size (suc q) lt on has =
    absurd (true≢false (sym on ∙ ap (λ (ms : List Bool). is_marked ms (suc q)) e ∙ get_or-set_other (replicate n false) 0 (suc q) true true (λ (z : suc q ≡ 0). absurd (omega arith)) ∙ get_or-replicate n (suc q) false true (omega arith)))

pub drawn_grow : (ps : PipelineMap) (p : ℕ) (marks grown : List Bool) → p < 64 → is_marked marks p ≡ true → AreDrawn marks ps → Grows marks grown ps p → AreDrawn grown ps
drawn_grow ps p marks grown low here are grows q lt on has =
    elim (or_cases (is_marked marks q) (names ps p q) (sym (grows q) ∙ on)) [
      | inl m ↦ are q lt m has
      | inr m ↦ named p q (are p low here (namer_listed ps p q m)) m has
    ]

-- ---- those with a list

-- from a pipeline on all marks, and before it those of pipelines that have a list
abbrev pub IsFiltered : List Bool → List Bool → PipelineMap → ℕ → Type 0
IsFiltered marks drawn ps high =
    (q : ℕ) → q < 64 → (q < high → is_drawn drawn q ≡ (is_marked marks q && has_list ps q)) × (high ≤ q → is_drawn drawn q ≡ is_marked marks q)

pub filter_starts : (ps : PipelineMap) (marks : List Bool) → length marks ≡ 64 → IsFiltered marks marks ps 0
filter_starts ps marks size q lt = (λ h. absurd (omega arith), λ h. get_or_default marks q false true (omega arith))

pub filter_drops : (ps : PipelineMap) (p high : ℕ) (marks drawn : List Bool) → p < 64 → high ≡ p + 1 → length drawn ≡ 64 → has_list ps p ≡ false → IsFiltered marks drawn ps p
    → IsFiltered marks (set drawn p false) ps high
filter_drops ps p high marks drawn low e size none was q lt =
    elim (cases_eq q p) [
      | inl same ↦ (
        λ h. ap (is_drawn (set drawn p false)) same ∙ get_or-set_same drawn p false false (omega arith) ∙ sym (ap (λ (b : Bool). is_marked marks q && b) (ap (has_list ps) same ∙ none) ∙ and-false (is_marked marks q)),
        λ h. absurd (omega arith),
      )
      | inr ne ↦
          (λ h. get_or-set_other drawn p q false false ne ∙ (was q lt).0 (omega arith), λ h. get_or-set_other drawn p q false false ne ∙ (was q lt).1 (omega arith))
    ]

pub filter_keeps : (ps : PipelineMap) (p high : ℕ) (marks drawn : List Bool) → high ≡ p + 1 → has_list ps p ≡ true → IsFiltered marks drawn ps p → IsFiltered marks drawn ps high
filter_keeps ps p high marks drawn e some was q lt =
    elim (cases_eq q p) [
      | inl same ↦
          (λ h. (was q lt).1 (omega arith) ∙ sym (ap (λ (b : Bool). is_marked marks q && b) (ap (has_list ps) same ∙ some) ∙ and-true (is_marked marks q)), λ h. absurd (omega arith))
      | inr ne ↦ (λ h. (was q lt).0 (omega arith), λ h. (was q lt).1 (omega arith))
    ]

pub filter_ends : (ps : PipelineMap) (marks drawn : List Bool) (n q : ℕ) → 64 ≤ n → IsFiltered marks drawn ps n → q < 64 → is_drawn drawn q ≡ (is_marked marks q && has_list ps q)
filter_ends ps marks drawn n q le was lt = (was q lt).0 (omega arith)

-- ---- both ways

pub drawn_low : (ps : PipelineMap) (q : ℕ) → AreFit ps → IsDrawn ps q → q < 64
drawn_low ps q fit (root has) = omega arith
drawn_low ps q fit (named p _ d name has) = let le : q ≤ 63 = (names_above ps p q fit name).1 in omega arith

pub drawn_marked : (ps : PipelineMap) (marks : List Bool) (q : ℕ) → AreFit ps → AreReached marks ps → IsDrawn ps q → is_marked marks q ≡ true
drawn_marked ps marks q fit are (root has) = are.root
drawn_marked ps marks q fit are (named p _ d name has) = are.named p q (drawn_low ps p fit d) (drawn_marked ps marks p fit are d) name

pub drawn_listed : (ps : PipelineMap) (q : ℕ) → IsDrawn ps q → has_list ps q ≡ true
drawn_listed ps q (root has) = has
drawn_listed ps q (named p _ d name has) = has

pub drawn_back : (ps : PipelineMap) (marks drawn : List Bool) (q : ℕ) → AreFit ps → AreReached marks ps → ((q : ℕ) → q < 64 → is_drawn drawn q ≡ (is_marked marks q && has_list ps q))
    → IsDrawn ps q → is_drawn drawn q ≡ true
drawn_back ps marks drawn q fit are filtered d =
    filtered q (drawn_low ps q fit d) ∙ and_from (is_marked marks q) (has_list ps q) (drawn_marked ps marks q fit are d) (drawn_listed ps q d)

pub drawn_there : (ps : PipelineMap) (marks drawn : List Bool) (q : ℕ) → length drawn ≡ 64 → AreDrawn marks ps → ((q : ℕ) → q < 64 → is_drawn drawn q ≡ (is_marked marks q && has_list ps q))
    → is_drawn drawn q ≡ true → IsDrawn ps q
drawn_there ps marks drawn q size are filtered on =
    elim (cases_lt q 64) [
      | inl lt ↦ (let both = and_parts (is_marked marks q) (has_list ps q) (sym (filtered q lt) ∙ on) in are q lt both.0 both.1)
      | inr le ↦ absurd (true≢false (sym on ∙ get_or_past drawn q false (omega arith)))
    ]
