-- The limits of a scene without anything in it, and of how many pixels are stored.
use Rattle.std.proofs.Common.{◌≡◌, ℕ, ◌-◌, ◌<◌, ◌≤◌, ◌^◌, min, false, nat_lt, inl, inr, refl, sym, ap, ◌∙◌, arith}
use Rattle.std.proofs.lemmas.Bool.{cases_lt, lt-ltb, le-ltb}
use Rattle.std.proofs.Common.{List, []}
use Rattle.std.proofs.lemmas.List.{nil_from_length}
use Rattle.std.specs.List.{sum_by}
use Rattle.std.specs.Ordering.{nat_cmp}
use Rattle.std.specs.declared.cmp.Ordering.{Ordering}
use Rattle.std.specs.FinMap as map
use Rattle.containers.specs.PairOrder.{pair_cmp}
use Rattle.image_store.specs.Models.{image_area, mask_area}
use Rattle.image_store.specs.StoreModel.{StoreModel, Images, Masks, empty_store, pixel_count, sum_of}
use Rattle.std.proofs.Common.{Option, None}
use Rattle.display_list.specs.ListModel.{ListModel}
use Rattle.pipelines.specs.declared.pipeline.Pipeline.{Pipeline}
use Rattle.pipelines.specs.Table.{listed_list, or_blank, pipeline_list, pipeline_at}
use Rattle.scene_limits.specs.Expanded.{expanded, shown_list}
use Rattle.scene_limits.specs.Places.{zero_point, node_places, list_places}
use Rattle.scene_limits.specs.Limits.{scene_fault}
use Rattle.scene_state.specs.SceneModel.{start}
use Rattle.scene_state.specs.Limits.{is_full, limit_of}

above : (n : ℕ) → 2 ^ 26 < n → nat_lt (2 ^ 26) (min (2 ^ 64 - 1) n) ≡ nat_lt (2 ^ 26) n
above n lt = lt-ltb (2 ^ 26) (min (2 ^ 64 - 1) n) (omega arith) ∙ sym (lt-ltb (2 ^ 26) n lt)

below : (n : ℕ) → n ≤ 2 ^ 26 → nat_lt (2 ^ 26) (min (2 ^ 64 - 1) n) ≡ nat_lt (2 ^ 26) n
below n le = le-ltb (2 ^ 26) (min (2 ^ 64 - 1) n) (omega arith) ∙ sym (le-ltb (2 ^ 26) n le)

-- the count that stands at the last value tells it too
pub full_by_least : (store : StoreModel) (pixels : ℕ) → pixels ≡ min (2 ^ 64 - 1) (pixel_count store) → nat_lt (2 ^ 26) pixels ≡ is_full store
unfolding is_full
full_by_least store pixels e =
    ap (nat_lt (2 ^ 26)) e ∙ elim (cases_lt (2 ^ 26) (pixel_count store)) [ inl lt ↦ above (pixel_count store) lt | inr le ↦ below (pixel_count store) le ]

nothing_stands : {K X : Type 0} (R : K → K → Ordering) → map.entries (map.empty {X = X} {R = R}) ≡ []
nothing_stands {K} {X} R = nil_from_length (map.entries (map.empty {X = X} {R = R})) (sym (map.len-entries (map.empty {X = X} {R = R})) ∙ map.len-empty R X)

sum_of_none : {K X : Type 0} (R : K → K → Ordering) (f : X → ℕ) → sum_of f (map.empty {X = X} {R = R}) ≡ 0
sum_of_none {K} {X} R f = ap (λ (es : List (K × X)). sum_by (λ e. f e.1) es) (nothing_stands R)

empty_is_not_full : is_full empty_store ≡ false
unfolding is_full
empty_is_not_full = rw (sum_of_none {X = Images} nat_cmp (sum_of image_area), sum_of_none {X = Masks} pair_cmp (sum_of mask_area)) refl

-- ---- the start

no_list : (p : ℕ) → pipeline_list map.empty p ≡ None
no_list p = ap (λ (o : Option Pipeline). listed_list (or_blank o).listed) (map.get-empty nat_cmp p)

no_items : expanded 64 map.empty 0 ≡ []
unfolding expanded
no_items = ap (shown_list (expanded 63 map.empty)) (no_list 0)

no_places : node_places 64 map.empty 0 zero_point ≡ []
unfolding node_places
no_places = ap (λ (l : Option ListModel). list_places (node_places 63 map.empty) (pipeline_at map.empty 0).moves l zero_point) (no_list 0)

pub nothing_breaks : scene_fault map.empty ≡ None
unfolding scene_fault
nothing_breaks = rw (no_items, no_places) refl

pub start_breaks_none : limit_of start ≡ None
start_breaks_none = rw (nothing_breaks, empty_is_not_full) refl
