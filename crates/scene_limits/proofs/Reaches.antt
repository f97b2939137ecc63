-- The table of rooms, from the last pipeline down.
use Rattle.std.proofs.Common.{◌≡◌, ℕ, zero, suc, ◌+◌, ◌<◌, ◌≤◌, Bool, true, false, true≢false, ◌&&◌, IsTrue, List, [], ◌∷◌, length, map, set, Option, Some, None, refl, sym, ap, ap₂, subst, ◌∙◌, arith, inl, inr}
use Rattle.std.specs.List.{list_all, flat_map, range_with_len}
use Rattle.std.proofs.lemmas.Int.{ints}
use Rattle.std.proofs.lemmas.Bool.{cases_lt}
use Rattle.std.proofs.lemmas.List.{get_or-set_same, get_or-set_other}
use Rattle.std.proofs.lemmas.List.Folds.{list_all-append, list_all-map}
use Rattle.std.proofs.lemmas.Simd.{map-map}
use Rattle.wr_geom.specs.Points.{point_sum}
use Rattle.wr_geom.specs.declared.point.Point.{Point}
use Rattle.display_list.specs.declared.node.Node.{Node}
use Rattle.display_list.specs.ListModel.{ListModel}
use Rattle.list_summary.specs.declared.iframe.Iframe.{Iframe}
use Rattle.list_summary.specs.Iframes.{summary_of}
use Rattle.pipelines.specs.Table.{PipelineMap, pipeline_list, pipeline_at, IsListOf, AreFit}
use Rattle.spatial_tree.specs.Moves.{MovesModel}
use Rattle.spatial_tree.specs.Offsets.{offset_of, offsets_of}
use Rattle.spatial_tree.proofs.Places.{offset-root, offset-moved, table-has}
use Rattle.scene_limits.specs.declared.room.Room.{Room}
use Rattle.scene_limits.specs.Drawn.{AreReached, is_marked, iframes_of}
use Rattle.scene_limits.specs.Limits.{is_point_in_reach, are_in_reach}
use Rattle.scene_limits.specs.Places.{zero_point, iframe_corner, iframe_origin, list_places, node_places}
use Rattle.scene_limits.specs.Rooms.{room_has, maybe_has, rooms_have, nodes_reach, iframe_shift, iframe_reaches, list_reaches, IsRoomOf}
use Rattle.scene_limits.proofs.Iframes.{AreIframes, list_iframes}
use Rattle.scene_limits.proofs.Levels.{AgreeAt, agree_head, agree_tail, reached_above}

-- ---- points

same_point : {a b : Point} → a.x ≡ b.x → a.y ≡ b.y → a ≡ b
same_point e f = λ i. record { x = e i; y = f i }

sum_zero : (p : Point) → point_sum p zero_point ≡ p
sum_zero p = same_point (omega (arith, ints)) (omega (arith, ints))

sum_assoc : (p q r : Point) → point_sum (point_sum p q) r ≡ point_sum p (point_sum q r)
sum_assoc p q r = same_point (omega (arith, ints)) (omega (arith, ints))

-- a node's offset from an origin, by that from (0, 0)
from_zero : (nodes : List Node) (m : MovesModel) (origin : Point) (node : ℕ) → offset_of nodes m origin node ≡ point_sum origin (offset_of nodes m zero_point node)
from_zero nodes m origin node = ap (λ (o : Point). offset_of nodes m o node) (sym (sum_zero origin)) ∙ offset-moved nodes m origin zero_point node

map_same : {A B : Type 0} (f g : A → B) (xs : List A) → ((x : A) → f x ≡ g x) → map f xs ≡ map g xs
map_same f g [] h = refl
map_same f g (x ∷ xs) h = ap₂ (λ a b. a ∷ b) (h x) (map_same f g xs h)

offsets_from_zero : (nodes : List Node) (m : MovesModel) (origin : Point) → offsets_of nodes m origin ≡ map (point_sum origin) (offsets_of nodes m zero_point)
unfolding offsets_of
offsets_from_zero nodes m origin =
    map_same (offset_of nodes m origin) (λ k. point_sum origin (offset_of nodes m zero_point k)) (range_with_len 0 (length nodes + 1)) (from_zero nodes m origin)
    ∙ sym (map-map (point_sum origin) (offset_of nodes m zero_point) (range_with_len 0 (length nodes + 1)))

-- ---- the root

range_first : (n : ℕ) → range_with_len 0 (n + 1) ≡ 0 ∷ range_with_len 1 n
range_first n = let e : n + 1 ≡ suc n = omega arith in ap (range_with_len 0) e

root_first : (nodes : List Node) (m : MovesModel) → offsets_of nodes m zero_point ≡ zero_point ∷ map (offset_of nodes m zero_point) (range_with_len 1 (length nodes))
unfolding offsets_of
root_first nodes m =
    ap (map (offset_of nodes m zero_point)) (range_first (length nodes))
    ∙ ap (λ (o : Point). o ∷ map (offset_of nodes m zero_point) (range_with_len 1 (length nodes))) (offset-root nodes m zero_point)

and_twice : (a b : Bool) → (a && (a && b)) ≡ (a && b)
and_twice true b = refl
and_twice false b = refl

head_reaches : (origin : Point) (os : List Point) → (is_point_in_reach origin && nodes_reach (zero_point ∷ os) origin) ≡ nodes_reach (zero_point ∷ os) origin
head_reaches origin os =
    let at = is_point_in_reach (point_sum origin zero_point) in
    ap (λ (p : Point). is_point_in_reach p && nodes_reach (zero_point ∷ os) origin) (sym (sum_zero origin)) ∙ and_twice at (nodes_reach os origin)

-- the root is among the nodes
pub root_reaches : (nodes : List Node) (m : MovesModel) (origin : Point)
    → (is_point_in_reach origin && nodes_reach (offsets_of nodes m zero_point) origin) ≡ nodes_reach (offsets_of nodes m zero_point) origin
root_reaches nodes m origin =
    let os = map (offset_of nodes m zero_point) (range_with_len 1 (length nodes)) in
    ap (λ (ps : List Point). is_point_in_reach origin && nodes_reach ps origin) (root_first nodes m)
    ∙ head_reaches origin os
    ∙ ap (λ (ps : List Point). nodes_reach ps origin) (sym (root_first nodes m))

-- ---- a list

-- all places of a pipeline are in reach
abbrev pub reach_below : (ℕ → Point → List Point) → ℕ → Point → Bool
reach_below below q origin = are_in_reach (below q origin)

iframe_from_zero : (nodes : List Node) (m : MovesModel) (origin : Point) (f : Iframe) → f.node ≤ length nodes
    → iframe_origin nodes m origin f ≡ point_sum origin (iframe_shift (offsets_of nodes m zero_point) f)
iframe_from_zero nodes m origin f le =
    ap (λ (o : Point). point_sum o (iframe_corner f)) (from_zero nodes m origin f.node)
    ∙ sum_assoc origin (offset_of nodes m zero_point f.node) (iframe_corner f)
    ∙ ap (λ (o : Point). point_sum origin (point_sum o (iframe_corner f))) (sym (table-has nodes m zero_point f.node zero_point le))

iframes_tell : (own : ℕ) (below : ℕ → Point → List Point) (nodes : List Node) (m : MovesModel) (origin : Point) (fs : List Iframe) → AreIframes own (length nodes + 1) fs
    → are_in_reach (flat_map (λ f. below f.pipeline (iframe_origin nodes m origin f)) fs) ≡ list_all (iframe_reaches (reach_below below) (offsets_of nodes m zero_point) origin) fs
iframes_tell own below nodes m origin [] h = refl
iframes_tell own below nodes m origin (f ∷ fs) h =
    let node : f.node < length nodes + 1 = h.0.node in
    list_all-append is_point_in_reach (below f.pipeline (iframe_origin nodes m origin f)) (flat_map (λ f. below f.pipeline (iframe_origin nodes m origin f)) fs)
    ∙ ap₂ (λ (a b : Bool). a && b)
    (ap (λ (o : Point). are_in_reach (below f.pipeline o)) (iframe_from_zero nodes m origin f (omega arith)))
    (iframes_tell own below nodes m origin fs h.1)

list_tells : (own : ℕ) (below : ℕ → Point → List Point) (m : MovesModel) (o : Option ListModel) (origin : Point) → ((l : ListModel) → o ≡ Some l → IsListOf own l)
    → list_reaches (reach_below below) m o origin ≡ are_in_reach (list_places below m o origin)
list_tells own below m None origin fit = refl
list_tells own below m (Some l) origin fit =
    sym (list_all-append is_point_in_reach (offsets_of l.nodes m origin) (flat_map (λ f. below f.pipeline (iframe_origin l.nodes m origin f)) (summary_of l).iframes)
    ∙ ap₂ (λ (a b : Bool). a && b)
    (ap are_in_reach (offsets_from_zero l.nodes m origin) ∙ list_all-map is_point_in_reach (point_sum origin) (offsets_of l.nodes m zero_point))
    (iframes_tell own below l.nodes m origin (summary_of l).iframes (list_iframes own l (fit l refl))))

-- a room that is narrowed by nodes and then by Iframes
pub listed_room : (rooms : List (Option Room)) (l : ListModel) (m : MovesModel) (ps qs : List Point) (fs : List Iframe) (own r : Room) (origin : Point)
    → ps ≡ offsets_of l.nodes m zero_point → qs ≡ offsets_of l.nodes m zero_point → fs ≡ (summary_of l).iframes
    → room_has own origin ≡ (is_point_in_reach origin && nodes_reach ps origin)
    → room_has r origin ≡ (room_has own origin && list_all (iframe_reaches (rooms_have rooms) qs origin) fs)
    → room_has r origin ≡ list_reaches (rooms_have rooms) m (Some l) origin
listed_room rooms l m ps qs fs own r origin e f g owns is_r =
    let below = rooms_have rooms in
    let os = offsets_of l.nodes m zero_point in
    is_r
    ∙ ap₂ (λ (b : Bool) (ts : List Point). b && list_all (iframe_reaches below ts origin) fs) (owns ∙ ap (λ (ts : List Point). is_point_in_reach origin && nodes_reach ts origin) e ∙ root_reaches l.nodes m origin) f
    ∙ ap (λ (gs : List Iframe). nodes_reach os origin && list_all (iframe_reaches below os origin) gs) g

-- tables that agree at what is named
same_iframes : (f g : ℕ → Point → Bool) (os : List Point) (origin : Point) (fs : List Iframe) → AgreeAt f g fs → list_all (iframe_reaches f os origin) fs ≡ list_all (iframe_reaches g os origin) fs
same_iframes f g os origin [] h = refl
same_iframes f g os origin (a ∷ fs) h =
    ap₂ (λ (s t : Bool). s && t) (ap (λ (b : Point → Bool). b (point_sum origin (iframe_shift os a))) (agree_head f g a fs h)) (same_iframes f g os origin fs (agree_tail f g a fs h))

same_reaches : (f g : ℕ → Point → Bool) (m : MovesModel) (o : Option ListModel) (origin : Point) → AgreeAt f g (iframes_of o) → list_reaches f m o origin ≡ list_reaches g m o origin
same_reaches f g m None origin h = refl
same_reaches f g m (Some l) origin h =
    ap (λ (b : Bool). nodes_reach (offsets_of l.nodes m zero_point) origin && b) (same_iframes f g (offsets_of l.nodes m zero_point) origin (summary_of l).iframes h)

-- ---- the table

-- from a pipeline on, where it is reached
abbrev pub AreRooms : (ℕ → Bool) → List (Option Room) → PipelineMap → ℕ → Type 0
AreRooms reached rooms ps low =
    (q : ℕ) → low ≤ q → q < 64 → IsTrue (reached q) → (m : ℕ) → 64 ≤ m + q → (origin : Point) → rooms_have rooms q origin ≡ are_in_reach (node_places m ps q origin)

pub rooms_start : (reached : ℕ → Bool) (rooms : List (Option Room)) (ps : PipelineMap) (low : ℕ) → 64 ≤ low → AreRooms reached rooms ps low
rooms_start reached rooms ps low h q le lt on m k origin = absurd (omega arith)

level : (marks : List Bool) (m : ℕ) (ps : PipelineMap) (p : ℕ) (r : Option Room) (rooms : List (Option Room)) → AreFit ps → AreReached marks ps → p < 64 → is_marked marks p ≡ true → 64 ≤ m + p
    → IsRoomOf r (rooms_have rooms) (pipeline_at ps p).moves (pipeline_list ps p) → AreRooms (is_marked marks) rooms ps (p + 1) → (origin : Point) → maybe_has r origin ≡ are_in_reach (node_places m ps p origin)
unfolding node_places
level marks zero ps p r rooms fit are lt on le is_r was origin = absurd (omega arith)
level marks (suc m) ps p r rooms fit are lt on le is_r was origin =
    is_r origin
    ∙ same_reaches (rooms_have rooms) (reach_below (node_places m ps)) (pipeline_at ps p).moves (pipeline_list ps p) origin
    (λ q name. let k = reached_above ps marks p q fit are lt on name in let up : p < q = k.0 in λ i. λ at. was q (omega arith) k.1 k.2 m (omega arith) at i)
    ∙ list_tells p (node_places m ps) (pipeline_at ps p).moves (pipeline_list ps p) origin (λ l e. fit.each p l e)

pub rooms_grow : (marks : List Bool) (ps : PipelineMap) (p high : ℕ) (r : Option Room) (rooms : List (Option Room)) → AreFit ps → AreReached marks ps → p < 64 → is_marked marks p ≡ true
    → length rooms ≡ 64 → high ≡ p + 1 → IsRoomOf r (rooms_have rooms) (pipeline_at ps p).moves (pipeline_list ps p) → AreRooms (is_marked marks) rooms ps high
    → AreRooms (is_marked marks) (set rooms p r) ps p
rooms_grow marks ps p high r rooms fit are lt on size e is_r was q le low here m h origin =
    elim (cases_lt p q) [
      | inl k ↦ ap (λ (o : Option Room). maybe_has o origin) (get_or-set_other rooms p q r None (λ (e : q ≡ p). absurd (omega arith))) ∙ was q (omega arith) low here m h origin
      | inr k ↦
          (let same : q ≡ p = omega arith in
          ap (λ (i : ℕ). rooms_have (set rooms p r) i origin) same ∙ ap (λ (o : Option Room). maybe_has o origin) (get_or-set_same rooms p r None (omega arith))
          ∙ level marks m ps p r rooms fit are lt on (omega arith) is_r (subst (AreRooms (is_marked marks) rooms ps) e was) origin
          ∙ ap (λ (i : ℕ). are_in_reach (node_places m ps i origin)) (sym same))
    ]

pub rooms_stay : (marks : List Bool) (ps : PipelineMap) (p high : ℕ) (rooms : List (Option Room)) → high ≡ p + 1 → is_marked marks p ≡ false → AreRooms (is_marked marks) rooms ps high
    → AreRooms (is_marked marks) rooms ps p
rooms_stay marks ps p high rooms e off was q le low here m h origin =
    elim (cases_lt p q) [ inl k ↦ was q (omega arith) low here m h origin | inr k ↦ (let same : q ≡ p = omega arith in absurd (true≢false (sym here ∙ ap (is_marked marks) same ∙ off))) ]
