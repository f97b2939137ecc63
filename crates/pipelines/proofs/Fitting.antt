-- Each pipeline's list fits it and its opacities are bytes, after each change too.
use Rattle.std.proofs.Common.{◌≡◌, ◌==◌, ℕ, ◌<◌, ◌^◌, Bool, true, false, cond, Option, Some, None, Result, Ok, Err, OnOk, OnErr, refl, sym, ap, subst, ◌∙◌}
use Rattle.std.specs.Ordering.{nat_cmp, eq_by_cmp}
use Rattle.std.specs.Cmp.{unsigned_tied}
use Rattle.std.proofs.lemmas.Cmp.{nat_cmp_total}
use Rattle.std.specs.FinMap as map
use Rattle.std.specs.FinMap.{get-empty, get-insert, get-remove}
use Rattle.std.proofs.lemmas.Bool.{eqb-true}
use Rattle.std.proofs.lemmas.Option.{none-some, same_Some}
use Rattle.wr_geom.specs.declared.no_memory.NoMemory.{NoMemory}
use Rattle.display_list.specs.ListModel.{ListModel}
use Rattle.pipelines.specs.Listed.{ListedModel}
use Rattle.pipelines.specs.Table.{PipelineMap, blank_pipeline, or_blank, pipeline_at, listed_list, IsListOf, AreByteOpacities, AreFit}
use Rattle.pipelines.specs.Changes.{HasByteOpacity, changed, with_list, with_moves, with_pipeline}
use Rattle.pipelines.specs.declared.change.Change.{Change}
use Rattle.pipelines.specs.declared.change.Change.TheVariants as changes
use Rattle.pipelines.specs.declared.pipeline.Pipeline.{Pipeline}
use Rattle.spatial_tree.specs.Moves.{MovesModel}

-- ---- one entry changed

-- a map after one of its entries was written
entry_written : (m after : PipelineMap) (p k : ℕ) (has new : Pipeline) (change : Pipeline → Pipeline)
    → k ≡ p → Some has ≡ map.get m k → after ≡ map.insert m k new → new ≡ change has → after ≡ with_pipeline p change m
entry_written m after p k has new change same was f e =
    f ∙ ap (map.insert m k) (e ∙ ap (λ (o : Option Pipeline). change (or_blank o)) was) ∙ ap (λ (i : ℕ). with_pipeline i change m) same

pub written_ok : (m after : PipelineMap) (p k : ℕ) (has new : Pipeline) (change : Pipeline → Pipeline) (r : Result (Unit {0}) NoMemory)
    → k ≡ p → Some has ≡ map.get m k → after ≡ map.insert m k new → OnOk r (new ≡ change has) → OnOk r (after ≡ with_pipeline p change m)
written_ok m after p k has new change (Ok x) same was f e = entry_written m after p k has new change same was f e
written_ok m after p k has new change (Err x) same was f e = tt

pub written_err : (m after : PipelineMap) (k : ℕ) (has new : Pipeline) (r : Result (Unit {0}) NoMemory)
    → Some has ≡ map.get m k → map.insert m k has ≡ m → after ≡ map.insert m k new → OnErr r (new ≡ has) → OnErr r (after ≡ m)
written_err m after k has new (Ok x) was again f e = tt
written_err m after k has new (Err x) was again f e = f ∙ ap (map.insert m k) e ∙ again

pub written : (m after : PipelineMap) (p k : ℕ) (has new : Pipeline) (change : Pipeline → Pipeline)
    → k ≡ p → Some has ≡ map.get m k → after ≡ map.insert m k new → new ≡ change has → after ≡ with_pipeline p change m
written m after p k has new change = entry_written m after p k has new change

-- ---- lists that fit

-- the list of what stands in an entry
abbrev list_in : Option Pipeline → Option ListModel
list_in o = listed_list (or_blank o).listed

pub fit_same : (m n : PipelineMap) → n ≡ m → AreFit m → AreFit n
fit_same m n e h = subst AreFit (sym e) h

-- ---- opacities

-- the opacities of what stands in an entry are bytes
abbrev AreBytesIn : Option Pipeline → Type 0
AreBytesIn o = AreByteOpacities (or_blank o).moves

bytes_blank : AreBytesIn None
bytes_blank id opacity h = absurd (none-some opacity (sym (get-empty nat_cmp id) ∙ h))

bytes_put : (m : PipelineMap) (has : Pipeline) (q : ℕ) (b : Bool) → AreFit m → AreByteOpacities has.moves → AreBytesIn (cond b (Some has) (map.get m q))
bytes_put m has q true fit here = here
bytes_put m has q false fit here = fit.opacities q

bytes_left : (m : PipelineMap) (q : ℕ) (b : Bool) → AreFit m → AreBytesIn (cond b None (map.get m q))
bytes_left m q true fit = bytes_blank
bytes_left m q false fit = fit.opacities q

byte_put : (moves : MovesModel) (set q opacity : ℕ) (b : Bool) → set < 2 ^ 8 → AreByteOpacities moves → cond b (Some set) (map.get moves.opacities q) ≡ Some opacity → opacity < 2 ^ 8
byte_put moves set q opacity true lt bytes h = subst (λ (n : ℕ). n < 2 ^ 8) (same_Some set opacity h) lt
byte_put moves set q opacity false lt bytes h = bytes q opacity h

pub bytes_changed : (change : Change) (moves : MovesModel) → HasByteOpacity change → AreByteOpacities moves → AreByteOpacities (changed change moves)
bytes_changed (changes.Scroll sid x y) moves is bytes = bytes
bytes_changed (changes.Offset id x y) moves is bytes = bytes
bytes_changed (changes.Opacity id set) moves is bytes =
    λ q opacity h. byte_put moves set q opacity (eq_by_cmp nat_cmp q id) is bytes (sym (get-insert nat_cmp_total moves.opacities id set q) ∙ h)

-- ---- each entry

pub fit_none : (m : PipelineMap) → m ≡ map.empty → AreFit m
fit_none m e =
    subst AreFit (sym e) (record {
      each = λ p l h. absurd (none-some l (sym (ap list_in (get-empty nat_cmp p)) ∙ h));
      opacities = λ p. subst AreBytesIn (sym (get-empty nat_cmp p)) bytes_blank;
    })

-- a number is p, or another
by_number : (p q : ℕ) (b : Bool) → eq_by_cmp nat_cmp q p ≡ b → (q == p) ≡ b
by_number p q b e = sym (unsigned_tied q p) ∙ e

fit_put : (m : PipelineMap) (p : ℕ) (has : Pipeline) (q : ℕ) (l : ListModel) (b : Bool) → AreFit m
    → ((k : ListModel) → listed_list has.listed ≡ Some k → IsListOf p k) → eq_by_cmp nat_cmp q p ≡ b → list_in (cond b (Some has) (map.get m q)) ≡ Some l → IsListOf q l
fit_put m p has q l true fit here e h = subst (λ (i : ℕ). IsListOf i l) (sym (eqb-true q p (by_number p q true e))) (here l h)
fit_put m p has q l false fit here e h = fit.each q l h

pub fit_inserted : (m : PipelineMap) (p : ℕ) (has : Pipeline) → AreFit m → ((k : ListModel) → listed_list has.listed ≡ Some k → IsListOf p k) → AreByteOpacities has.moves → AreFit (map.insert m p has)
fit_inserted m p has fit here bytes = record {
  each = λ q l h. fit_put m p has q l (eq_by_cmp nat_cmp q p) fit here refl (sym (ap list_in (get-insert nat_cmp_total m p has q)) ∙ h);
  opacities = λ q. subst AreBytesIn (sym (get-insert nat_cmp_total m p has q)) (bytes_put m has q (eq_by_cmp nat_cmp q p) fit bytes);
}

fit_taken : (m : PipelineMap) (q : ℕ) (l : ListModel) (b : Bool) → AreFit m → list_in (cond b None (map.get m q)) ≡ Some l → IsListOf q l
fit_taken m q l true fit h = absurd (none-some l h)
fit_taken m q l false fit h = fit.each q l h

pub fit_removed : (m : PipelineMap) (p : ℕ) → AreFit m → AreFit (map.remove m p)
fit_removed m p fit = record {
  each = λ q l h. fit_taken m q l (eq_by_cmp nat_cmp q p) fit (sym (ap list_in (get-remove nat_cmp_total m p q)) ∙ h);
  opacities = λ q. subst AreBytesIn (sym (get-remove nat_cmp_total m p q)) (bytes_left m q (eq_by_cmp nat_cmp q p) fit);
}

-- moves changed
pub fit_moved : (m : PipelineMap) (p : ℕ) (change : Change) → HasByteOpacity change → AreFit m → AreFit (with_pipeline p (with_moves (changed change)) m)
fit_moved m p change is fit =
    fit_inserted m p (with_moves (changed change) (pipeline_at m p)) fit (λ k h. fit.each p k h) (bytes_changed change (pipeline_at m p).moves is (fit.opacities p))

same_list : (listed : ListedModel) (p : ℕ) (k : ListModel) → IsListOf p listed.list → Some listed.list ≡ Some k → IsListOf p k
same_list listed p k fits e = subst (IsListOf p) (same_Some listed.list k e) fits

-- a list replaced
pub fit_listed : (m : PipelineMap) (p : ℕ) (listed : ListedModel) → IsListOf p listed.list → AreFit m → AreFit (with_pipeline p (with_list listed) m)
fit_listed m p listed fits fit = fit_inserted m p (with_list listed (pipeline_at m p)) fit (λ k h. same_list listed p k fits h) (fit.opacities p)

-- after a call, whether it did its work or not
pub fit_after : (m n made : PipelineMap) (r : Result (Unit {0}) NoMemory) → OnOk r (n ≡ made) → OnErr r (n ≡ m) → AreFit m → AreFit made → AreFit n
fit_after m n made (Ok x) ok err before after = fit_same made n ok after
fit_after m n made (Err x) ok err before after = fit_same m n err before
