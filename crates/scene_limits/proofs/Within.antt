-- Scenes without a fault.
use Rattle.std.proofs.Common.{◌≡◌, ℕ, zero, suc, ◌<◌, Bool, true, false, not, ◌||◌, if◌then◌else◌, List, [], ◌∷◌, length, get_or, Option, Some, None, refl, sym, ap, ◌∙◌, arith}
use Rattle.std.specs.List.{flat_map}
use Rattle.std.proofs.lemmas.Bool.{and_parts}
use Rattle.std.proofs.lemmas.List.Folds.{list_all-append}
use Rattle.std.proofs.lemmas.Option.{none-some}
use Rattle.wr_geom.specs.declared.point.Point.{Point}
use Rattle.wr_io.specs.declared.fault.Code.{Code}
use Rattle.wr_io.specs.declared.fault.Code.TheVariants.{TooDeep, TooManyItems}
use Rattle.display_list.specs.ListModel.{ListModel}
use Rattle.list_summary.specs.declared.iframe.Iframe.{Iframe}
use Rattle.list_summary.specs.Iframes.{summary_of}
use Rattle.pipelines.specs.Table.{PipelineMap, AreFit, pipeline_list, pipeline_at}
use Rattle.spatial_tree.specs.Offsets.{offsets_of}
use Rattle.spatial_tree.proofs.Places.{table-has, table-size}
use Rattle.scene_limits.specs.Expanded.{expanded}
use Rattle.scene_limits.specs.Limits.{goes_deep, is_large, is_point_in_reach, are_in_reach, scene_fault}
use Rattle.scene_limits.specs.Places.{zero_point, iframe_origin, list_places, node_places}
use Rattle.scene_limits.specs.Laws.{NoFaultIsWithin, NodesAreInReach, IframesAreInReach}
use Rattle.scene_limits.proofs.Enough.{places_of_each}

-- ---- no fault

abbrev fault_by : Bool → Bool → Bool → Option Code
fault_by d r l = if d || not r then Some TooDeep else (if l then Some TooManyItems else None)

unbroken : (d r l : Bool) → fault_by d r l ≡ None → (d ≡ false) × (r ≡ true) × (l ≡ false)
unbroken true r l h = absurd (none-some TooDeep (sym h))
unbroken false false l h = absurd (none-some TooDeep (sym h))
unbroken false true true h = absurd (none-some TooManyItems (sym h))
unbroken false true false h = (refl, refl, refl)

faultless : (d r l : Bool) → d ≡ false → r ≡ true → l ≡ false → fault_by d r l ≡ None
faultless d r l e f g = rw (e, f, g) refl

pub no_fault : NoFaultIsWithin
unfolding scene_fault
no_fault ps = (
  λ h. let parts = unbroken (goes_deep (expanded 64 ps 0)) (are_in_reach (node_places 64 ps 0 zero_point)) (is_large (expanded 64 ps 0)) h in record { depth = parts.0; reach = parts.1; size = parts.2 },
  λ h. faultless (goes_deep (expanded 64 ps 0)) (are_in_reach (node_places 64 ps 0 zero_point)) (is_large (expanded 64 ps 0)) h.depth h.reach h.size,
)

-- ---- places in reach

all_at : (xs : List Point) (k : ℕ) (d : Point) → are_in_reach xs ≡ true → k < length xs → is_point_in_reach (get_or xs k d) ≡ true
all_at [] k d h lt = absurd (omega arith)
all_at (x ∷ xs) zero d h lt = (and_parts (is_point_in_reach x) (are_in_reach xs) h).0
all_at (x ∷ xs) (suc k) d h lt = all_at xs k d (and_parts (is_point_in_reach x) (are_in_reach xs) h).1 (omega arith)

iframe_at : (g : Iframe → List Point) (fs : List Iframe) (k : ℕ) (d : Iframe) → are_in_reach (flat_map g fs) ≡ true → k < length fs → are_in_reach (g (get_or fs k d)) ≡ true
iframe_at g [] k d h lt = absurd (omega arith)
iframe_at g (f ∷ fs) zero d h lt = (and_parts (are_in_reach (g f)) (are_in_reach (flat_map g fs)) (sym (list_all-append is_point_in_reach (g f) (flat_map g fs)) ∙ h)).0
iframe_at g (f ∷ fs) (suc k) d h lt = iframe_at g fs k d (and_parts (are_in_reach (g f)) (are_in_reach (flat_map g fs)) (sym (list_all-append is_point_in_reach (g f) (flat_map g fs)) ∙ h)).1 (omega arith)

-- the places of a list, and of what it names
parts_of : (ps : PipelineMap) (p : ℕ) (origin : Point) (l : ListModel) → AreFit ps → pipeline_list ps p ≡ Some l → are_in_reach (node_places 64 ps p origin) ≡ true
    → (are_in_reach (offsets_of l.nodes (pipeline_at ps p).moves origin) ≡ true)
    × (are_in_reach (flat_map (λ f. node_places 64 ps f.pipeline (iframe_origin l.nodes (pipeline_at ps p).moves origin f)) (summary_of l).iframes) ≡ true)
parts_of ps p origin l fit is h =
    let m = (pipeline_at ps p).moves in
    let own = offsets_of l.nodes m origin in
    let others = flat_map (λ f. node_places 64 ps f.pipeline (iframe_origin l.nodes m origin f)) (summary_of l).iframes in
    and_parts (are_in_reach own) (are_in_reach others)
    (sym (list_all-append is_point_in_reach own others)
    ∙ sym (ap are_in_reach (places_of_each ps p origin fit ∙ ap (λ (o : Option ListModel). list_places (node_places 64 ps) m o origin) is)) ∙ h)

pub nodes_in_reach : NodesAreInReach
nodes_in_reach ps p origin l node fit is le h =
    let m = (pipeline_at ps p).moves in
    ap is_point_in_reach (sym (table-has l.nodes m origin node zero_point le))
    ∙ all_at (offsets_of l.nodes m origin) node zero_point (parts_of ps p origin l fit is h).0 (omega (arith, table-size l.nodes m origin))

pub iframes_in_reach : IframesAreInReach
iframes_in_reach ps p origin l k d fit is lt h =
    iframe_at (λ f. node_places 64 ps f.pipeline (iframe_origin l.nodes (pipeline_at ps p).moves origin f)) (summary_of l).iframes k d (parts_of ps p origin l fit is h).1 lt
