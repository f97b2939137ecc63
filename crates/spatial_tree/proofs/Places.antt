-- Where nodes are.
use Rattle.std.proofs.Common.{◌≡◌, ℕ, suc, ◌+◌, ◌-◌, ◌*◌, ◌<◌, ◌≤◌, ◌^◌, List, [], ◌∷◌, ◌++◌, length, map, get_or, refl, sym, ap, ap₂, subst, ◌∙◌, arith}
use Rattle.std.specs.Prelude.{fold}
use Rattle.std.specs.List.{range_with_len}
use Rattle.std.proofs.Math.Numerals.{add-one}
use Rattle.std.proofs.lemmas.Int.{ints}
use Rattle.std.proofs.lemmas.List.FromFn.{get_or-map-range_with_len, length-map-range_with_len, map-range_with_len_more}
use Rattle.std.proofs.lemmas.List.Sums.{fold-append}
use Rattle.wr_geom.specs.Points.{point_sum}
use Rattle.wr_geom.specs.declared.point.Point.{Point}
use Rattle.display_list.specs.declared.node.Node.{Node}
use Rattle.display_list.specs.Facts.{IsNode, AreNodes}
use Rattle.display_list.specs.Levels.{parent_of}
use Rattle.spatial_tree.specs.Lineage.{nodes_to}
use Rattle.spatial_tree.specs.Laws.{OffsetFromParent, TableIsNear}
use Rattle.spatial_tree.specs.Moves.{MovesModel, AreNearMoves}
use Rattle.spatial_tree.specs.Offsets.{IsOrigin, IsOffset, shift_of, offset_of, offsets_of}
use Rattle.spatial_tree.proofs.Distances.{within_more, moved_within}
use Rattle.spatial_tree.proofs.Nodes.{AreOrdered, nodes_to-root, nodes_to-step, nodes_to-all, nodes_to-few}

pub offset-root : (nodes : List Node) (m : MovesModel) (origin : Point) → offset_of nodes m origin 0 ≡ origin
unfolding offset_of
offset-root nodes m origin = ap (fold (λ p n. point_sum p (shift_of m n)) origin) (nodes_to-root nodes)

-- a node is moved against its parent
pub offset-step : (nodes : List Node) (m : MovesModel) (origin : Point) (i : ℕ) (d : Node) → AreOrdered nodes → i < length nodes
    → offset_of nodes m origin (suc i) ≡ point_sum (offset_of nodes m origin (parent_of (get_or nodes i d))) (shift_of m (get_or nodes i d))
unfolding offset_of
offset-step nodes m origin i d h w =
    let f = λ (p : Point) (n : Node). point_sum p (shift_of m n) in
    let n = get_or nodes i d in
    ap (fold f origin) (nodes_to-step nodes i d h w) ∙ fold-append f origin (nodes_to nodes (parent_of n)) (n ∷ [])

-- the same of the node that stands one before a number
pub offset-up : (nodes : List Node) (m : MovesModel) (origin : Point) (at : ℕ) (d : Node) → AreOrdered nodes → 0 < at → at ≤ length nodes
    → offset_of nodes m origin at ≡ point_sum (offset_of nodes m origin (parent_of (get_or nodes (at - 1) d))) (shift_of m (get_or nodes (at - 1) d))
offset-up nodes m origin at d h p w =
    let e : at ≡ suc (at - 1) = omega arith in
    ap (offset_of nodes m origin) e ∙ offset-step nodes m origin (at - 1) d h (omega arith)

-- a node's offset from its parent's
pub offset_via : (here nodes : List Node) (m : MovesModel) (origin : Point) (at parent : ℕ) (d : Node) (above own sum : Point) → here ≡ nodes → AreOrdered nodes → 0 < at → at ≤ length nodes
    → parent ≡ parent_of (get_or here (at - 1) d) → above ≡ offset_of nodes m origin parent → own ≡ shift_of m (get_or here (at - 1) d) → sum ≡ point_sum above own
    → sum ≡ offset_of nodes m origin at
offset_via here nodes m origin at parent d above own sum same h p w e f g is =
    let n : Node = get_or here (at - 1) d in
    is
    ∙ ap (λ (q : Point). point_sum above q) g
    ∙ ap (λ (q : Point). point_sum q (shift_of m n)) (f ∙ ap (offset_of nodes m origin) e)
    ∙ ap (λ (ns : List Node). point_sum (offset_of nodes m origin (parent_of (get_or ns (at - 1) d))) (shift_of m (get_or ns (at - 1) d))) same
    ∙ sym (offset-up nodes m origin at d h p w)

pub offset-near : (nodes : List Node) (m : MovesModel) (origin : Point) (node : ℕ) → AreNodes nodes → AreNearMoves m → IsOrigin origin → node ≤ length nodes
    → IsOffset (offset_of nodes m origin node)
unfolding offset_of
offset-near nodes m origin node are near h w =
    let ns = nodes_to nodes node in
    let few = nodes_to-few nodes node are w in
    within_more (2 ^ 28 + 2097152 * length ns) (2 ^ 28 + 2 ^ 27) _ (omega (arith, few)) (moved_within m origin (2 ^ 28) ns near (nodes_to-all IsNode nodes node are.each) h)

-- ---- the table

pub table-has : (nodes : List Node) (m : MovesModel) (origin : Point) (node : ℕ) (d : Point) → node ≤ length nodes → get_or (offsets_of nodes m origin) node d ≡ offset_of nodes m origin node
unfolding offsets_of
table-has nodes m origin node d w = get_or-map-range_with_len (offset_of nodes m origin) 0 (length nodes + 1) node node d (omega arith) (omega arith)

pub table-size : (nodes : List Node) (m : MovesModel) (origin : Point) → length (offsets_of nodes m origin) ≡ length nodes + 1
unfolding offsets_of
table-size nodes m origin = length-map-range_with_len (offset_of nodes m origin) 0 (length nodes + 1)

-- ---- other origins

sum_assoc : (p q r : Point) → point_sum (point_sum p q) r ≡ point_sum p (point_sum q r)
sum_assoc p q r = same (omega (arith, ints)) (omega (arith, ints))
  where
    same : {a b : Point} → a.x ≡ b.x → a.y ≡ b.y → a ≡ b
    same e f = λ i. record { x = e i; y = f i }

fold_moved : (m : MovesModel) (by at : Point) (ns : List Node) → fold (λ p n. point_sum p (shift_of m n)) (point_sum by at) ns ≡ point_sum by (fold (λ p n. point_sum p (shift_of m n)) at ns)
fold_moved m by at [] = refl
fold_moved m by at (n ∷ ns) =
    ap (λ (p : Point). fold (λ p n. point_sum p (shift_of m n)) p ns) (sum_assoc by at (shift_of m n)) ∙ fold_moved m by (point_sum at (shift_of m n)) ns

-- with the origin all nodes are moved
pub offset-moved : (nodes : List Node) (m : MovesModel) (by origin : Point) (node : ℕ) → offset_of nodes m (point_sum by origin) node ≡ point_sum by (offset_of nodes m origin node)
unfolding offset_of
offset-moved nodes m by origin node = fold_moved m by origin (nodes_to nodes node)

-- ---- filling the table

-- the table has a node's parent
pub parent_in : (nodes : List Node) (m : MovesModel) (origin : Point) (table : List Point) (i parent : ℕ) (d : Node) → AreOrdered nodes → i < length nodes
    → parent ≡ parent_of (get_or nodes i d) → table ≡ map (offset_of nodes m origin) (range_with_len 0 (i + 1)) → parent < length table
parent_in nodes m origin table i parent d h w e was =
    let le = h i d w in
    let size = ap (λ (ps : List Point). length ps) was ∙ length-map-range_with_len (offset_of nodes m origin) 0 (i + 1) in
    omega (arith, le, e, size)

pub parent_low : (nodes : List Node) (i parent : ℕ) (d : Node) → AreOrdered nodes → i < length nodes → parent ≡ parent_of (get_or nodes i d) → parent ≤ length nodes
parent_low nodes i parent d h w e = let le = h i d w in omega (arith, le, e)

-- and gives its offset
pub parent_of_table : (nodes : List Node) (m : MovesModel) (origin : Point) (table : List Point) (i parent : ℕ) (d : Node) (above e : Point) → AreOrdered nodes → i < length nodes
    → parent ≡ parent_of (get_or nodes i d) → table ≡ map (offset_of nodes m origin) (range_with_len 0 (i + 1)) → above ≡ get_or table parent e → above ≡ offset_of nodes m origin parent
parent_of_table nodes m origin table i parent d above e h w f was is =
    let le = h i d w in
    is ∙ ap (λ (ps : List Point). get_or ps parent e) was ∙ get_or-map-range_with_len (offset_of nodes m origin) 0 (i + 1) parent parent e (omega (arith, le, f)) (omega arith)

-- one node more
pub table_more : (nodes : List Node) (m : MovesModel) (origin : Point) (table after : List Point) (i parent : ℕ) (d : Node) (above own sum : Point) → AreOrdered nodes → i < length nodes
    → parent ≡ parent_of (get_or nodes i d) → table ≡ map (offset_of nodes m origin) (range_with_len 0 (i + 1)) → above ≡ offset_of nodes m origin parent
    → own ≡ shift_of m (get_or nodes i d) → sum ≡ point_sum above own → after ≡ table ++ sum ∷ [] → after ≡ map (offset_of nodes m origin) (range_with_len 0 (i + 1 + 1))
table_more nodes m origin table after i parent d above own sum h w e was f g is pushed =
    let n : Node = get_or nodes i d in
    let here : sum ≡ offset_of nodes m origin (suc i) =
    is ∙ ap (λ (q : Point). point_sum above q) g ∙ ap (λ (q : Point). point_sum q (shift_of m n)) (f ∙ ap (offset_of nodes m origin) e) ∙ sym (offset-step nodes m origin i d h w) in
    pushed ∙ ap₂ (λ (ps : List Point) (p : Point). ps ++ p ∷ []) was here ∙ sym (map-range_with_len_more (offset_of nodes m origin) 0 (i + 1) (suc i) (omega arith))

pub table_all : (here nodes : List Node) (m : MovesModel) (origin : Point) (table : List Point) (i : ℕ) → here ≡ nodes → i ≤ length here → length here ≤ i
    → table ≡ map (offset_of here m origin) (range_with_len 0 (i + 1)) → table ≡ offsets_of nodes m origin
unfolding offsets_of
table_all here nodes m origin table i same h k was =
    let e : i ≡ length here = omega arith in
    was ∙ ap (λ (n : ℕ). map (offset_of here m origin) (range_with_len 0 (n + 1))) e ∙ ap (λ (ns : List Node). map (offset_of ns m origin) (range_with_len 0 (length ns + 1))) same

-- ---- laws

pub from_parent : OffsetFromParent
from_parent l m origin k d is w = ap (offset_of l.nodes m origin) (add-one k) ∙ offset-step l.nodes m origin k d is.nodes.parents w

pub near_table : TableIsNear
near_table l m origin is near h k d w =
    let low : k ≤ length l.nodes = omega (arith, w, table-size l.nodes m origin) in
    subst IsOffset (sym (table-has l.nodes m origin k d low)) (offset-near l.nodes m origin k is.nodes near h low)
