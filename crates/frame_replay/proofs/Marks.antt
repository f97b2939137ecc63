-- Which pipelines are drawn.
use Rattle.std.proofs.Common.{◌≡◌, ◌↔◌, ℕ, zero, suc, ◌+◌, ◌<◌, ◌≤◌, Bool, true, false, true≢false, ◌&&◌, ◌||◌, ◌==◌, IsTrue, List, [], ◌∷◌, ◌++◌, length, Option, refl, sym, ap, subst, ◌∙◌, inl, inr, arith, append_assoc, length-append}
use Rattle.std.specs.List.{flat_map, list_any, range_with_len}
use Rattle.std.proofs.lemmas.Bool.{eqb-true, and_from, and_parts, or_cases}
use Rattle.std.proofs.lemmas.Grind.{flat_map-append}
use Rattle.std.proofs.lemmas.List.Folds.{list_any_at}
use Rattle.std.proofs.lemmas.List.FromFn.{length-range_with_len, get_or-range_with_len}
use Rattle.pipelines.specs.Table.{PipelineMap, AreFit}
use Rattle.scene_limits.specs.Drawn.{IsDrawn, root, named, has_list, is_drawn, names}
use Rattle.scene_limits.proofs.Iframes.{names_above, or-true}
use Rattle.scene_limits.proofs.Marking.{drawn_low}
use Rattle.frame_replay.specs.Drawn.{MarkDrawn, drawn_below, drawn_epoch, entry_bytes, is_drawn_through, is_pipeline_drawn, numbered}

-- one that passes
some_passes : {X : Type 0} (test : X → Bool) (xs : List X) → list_any test xs ≡ true → (x : X) × (test x ≡ true)
some_passes test [] k = absurd (true≢false (sym k))
some_passes test (x ∷ xs) k = elim (or_cases (test x) (list_any test xs) k) [ inl e ↦ (x, e) | inr m ↦ some_passes test xs m ]

-- the root is drawn where it has a list
root_there : (ps : PipelineMap) (p : ℕ) → has_list ps p ≡ true → (p == 0) ≡ true → IsDrawn ps p
root_there ps p has k = let e : p ≡ 0 = eqb-true p 0 k in subst (IsDrawn ps) (sym e) (root (ap (has_list ps) (sym e) ∙ has))

-- a smaller one is drawn through so many Iframes, and names the pipeline
abbrev names_through : ℕ → PipelineMap → ℕ → ℕ → Bool
names_through n ps p q = is_drawn_through n ps q && names ps q p

through_there : (n : ℕ) (ps : PipelineMap) (p : ℕ) → is_drawn_through n ps p ≡ true → IsDrawn ps p
unfolding is_drawn_through
through_there zero ps p on = let both = and_parts (has_list ps p) (p == 0) on in root_there ps p both.0 both.1
through_there (suc n) ps p on =
    let both = and_parts (has_list ps p) ((p == 0) || list_any (names_through n ps p) (range_with_len 0 p)) on in
    elim (or_cases (p == 0) (list_any (names_through n ps p) (range_with_len 0 p)) both.1) [
      | inl k ↦ root_there ps p both.0 k
      | inr k ↦
          (let some = some_passes (names_through n ps p) (range_with_len 0 p) k in
          let parts = and_parts (is_drawn_through n ps some.0) (names ps some.0 p) some.1 in named some.0 p (through_there n ps some.0 parts.0) parts.1 both.0)
    ]

there_through : (ps : PipelineMap) (p n : ℕ) → AreFit ps → p ≤ n → IsDrawn ps p → is_drawn_through n ps p ≡ true
unfolding is_drawn_through
there_through ps p zero fit le (root has) = and_from (has_list ps 0) true has refl
there_through ps p (suc n) fit le (root has) = and_from (has_list ps 0) true has refl
there_through ps p zero fit le (named q _ d name has) = let above : q < p = (names_above ps q p fit name).0 in absurd (omega arith)
there_through ps p (suc n) fit le (named q _ d name has) =
    let above : q < p = (names_above ps q p fit name).0 in
    let one = and_from (is_drawn_through n ps q) (names ps q p) (there_through ps q n fit (omega arith) d) name in
    let same : 0 + q ≡ q = omega arith in
    let low : q < length (range_with_len 0 p) = omega (arith, length-range_with_len 0 p) in
    let some = list_any_at (names_through n ps p) (range_with_len 0 p) q 0 low (ap (names_through n ps p) (get_or-range_with_len 0 p q 0 above ∙ same) ∙ one) in
    and_from (has_list ps p) ((p == 0) || list_any (names_through n ps p) (range_with_len 0 p)) has (ap (λ (b : Bool). (p == 0) || b) some ∙ or-true (p == 0))

pub drawn_both : (ps : PipelineMap) (p : ℕ) → AreFit ps → IsTrue (is_pipeline_drawn ps p) ↔ IsDrawn ps p
unfolding is_pipeline_drawn
drawn_both ps p fit = (through_there 64 ps p, λ d. let low : p < 64 = drawn_low ps p fit d in there_through ps p 64 fit (omega arith) d)

same_truth : (b c : Bool) → (IsTrue b → IsTrue c) → (IsTrue c → IsTrue b) → b ≡ c
same_truth true c f g = sym (f refl)
same_truth false true f g = g refl
same_truth false false f g = refl

-- marks of those that are drawn
pub marks_are : (drawn : List Bool) (ps : PipelineMap) → AreFit ps → ((p : ℕ) → IsTrue (is_drawn drawn p) ↔ IsDrawn ps p) → MarkDrawn drawn ps
marks_are drawn ps fit marks =
    let each = λ (p : ℕ).
    let both = drawn_both ps p fit in same_truth (is_drawn drawn p) (is_pipeline_drawn ps p) (λ m. both.1 ((marks p).0 m)) (λ m. (marks p).1 (both.0 m)) in
    record { each = each }

-- one more pipeline
pub drawn_more : (p : ℕ) (ps : PipelineMap) → drawn_below (p + 1) ps ≡ drawn_below p ps ++ numbered p (drawn_epoch ps p)
unfolding drawn_below
drawn_more p ps = let e : p + 1 ≡ suc p = omega arith in ap (λ (n : ℕ). drawn_below n ps) e

-- the count with one more
pub count_more : (p : ℕ) (ps : PipelineMap) (count one : ℕ) → count ≡ length (drawn_below p ps) → one ≡ length (numbered p (drawn_epoch ps p)) → count + one ≡ length (drawn_below (p + 1) ps)
count_more p ps count one before e =
    ap (λ (n : ℕ). n + one) before ∙ ap (λ (n : ℕ). length (drawn_below p ps) + n) e ∙ sym (length-append (drawn_below p ps) (numbered p (drawn_epoch ps p))) ∙ ap length (sym (drawn_more p ps))

-- the bytes with one more
pub entries_more : (p : ℕ) (ps : PipelineMap) (epoch : Option ℕ) (bytes old new : List ℕ) → epoch ≡ drawn_epoch ps p → old ≡ bytes ++ flat_map entry_bytes (drawn_below p ps)
    → new ≡ old ++ flat_map entry_bytes (numbered p epoch) → new ≡ bytes ++ flat_map entry_bytes (drawn_below (p + 1) ps)
entries_more p ps epoch bytes old new is before e =
    let one = numbered p (drawn_epoch ps p) in
    e ∙ ap (λ (o : Option ℕ). old ++ flat_map entry_bytes (numbered p o)) is ∙ ap (λ (zs : List ℕ). zs ++ flat_map entry_bytes one) before
    ∙ append_assoc bytes (flat_map entry_bytes (drawn_below p ps)) (flat_map entry_bytes one)
    ∙ ap (λ (zs : List ℕ). bytes ++ zs) (sym (flat_map-append entry_bytes (drawn_below p ps) one) ∙ ap (flat_map entry_bytes) (sym (drawn_more p ps)))
