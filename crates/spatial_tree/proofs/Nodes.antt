-- The way from the root down to a node.
use Rattle.std.proofs.Common.{◌≡◌, ℕ, zero, suc, ◌+◌, ◌-◌, ◌<◌, ◌≤◌, List, [], ◌∷◌, ◌++◌, length, get_or, Option, Some, None, refl, sym, ap, ◌∙◌, arith, pos}
use Rattle.std.specs.Prelude.{All, slice_index}
use Rattle.std.specs.Option.{option_or}
use Rattle.std.proofs.lemmas.List.{length-append}
use Rattle.field_forms.specs.Facts.{IsDefined}
use Rattle.display_list.specs.declared.node.Node.{Node}
use Rattle.display_list.specs.declared.node.Node.TheVariants as node
use Rattle.display_list.specs.Facts.{EachAt, AreNodes}
use Rattle.display_list.specs.Levels.{parent_of, levels_of}
use Rattle.spatial_tree.specs.Lineage.{index_of, nodes_to}
use Rattle.spatial_tree.specs.Homes.{scroll_of, first_scroll, root_scroll_of}
use Rattle.spatial_tree.proofs.Lineages.{HasParentsFirst, lineage-none, lineage-step, lineage-all}
use Rattle.spatial_tree.proofs.Tables.{table-length, table-at, table-before}

abbrev pub parent_index : Node → Option ℕ
parent_index n = index_of (parent_of n)

-- each node's parent has a number that is no greater than the node's index
abbrev pub AreOrdered : List Node → Type 0
AreOrdered nodes = EachAt (λ k n. parent_of n ≤ k) nodes

index_defined : (k n : ℕ) → n ≤ k → IsDefined k (index_of n)
index_defined k zero h = tt
index_defined k (suc n) h = omega arith

parents_first : (nodes : List Node) → AreOrdered nodes → HasParentsFirst parent_index nodes
parents_first nodes h k d w = index_defined k (parent_of (get_or nodes k d)) (h k d w)

-- no node leads to the root
pub nodes_to-root : (nodes : List Node) → nodes_to nodes 0 ≡ []
unfolding nodes_to
nodes_to-root nodes = lineage-none parent_index nodes (length nodes)

-- to a node lead those to its parent, and then itself
pub nodes_to-step : (nodes : List Node) (i : ℕ) (d : Node) → AreOrdered nodes → i < length nodes
    → nodes_to nodes (suc i) ≡ nodes_to nodes (parent_of (get_or nodes i d)) ++ get_or nodes i d ∷ []
unfolding nodes_to
nodes_to-step nodes i d h w = lineage-step parent_index nodes (parents_first nodes h) (length nodes) i d w w

pub nodes_to-all : (P : Node → Type 0) (nodes : List Node) (node : ℕ) → All P nodes → All P (nodes_to nodes node)
unfolding nodes_to
nodes_to-all P nodes node h = lineage-all parent_index nodes P h (length nodes) (index_of node)

-- ---- levels

level-root : (nodes : List Node) → slice_index (levels_of nodes) 0 ≡ 0
unfolding levels_of
level-root nodes = table-before (λ levels n. slice_index levels (parent_of n) + 1) (0 ∷ []) nodes 0 0 (omega arith) (omega arith)

level-step : (nodes : List Node) (i : ℕ) (d : Node) → AreOrdered nodes → i < length nodes
    → slice_index (levels_of nodes) (suc i) ≡ slice_index (levels_of nodes) (parent_of (get_or nodes i d)) + 1
unfolding levels_of
level-step nodes i d h w =
    let f = λ (levels : List ℕ) (n : Node). slice_index levels (parent_of n) + 1 in
    let p = parent_of (get_or nodes i d) in
    let le : p ≤ i = h i d w in
    table-at f (0 ∷ []) nodes i (suc i) d w (omega arith) ∙ ap (λ (k : ℕ). k + 1) (sym (table-before f (0 ∷ []) nodes i p (omega arith) (omega arith)))

level_within : (nodes : List Node) → AreOrdered nodes → (most node : ℕ) → node ≤ most → node ≤ length nodes → length (nodes_to nodes node) ≡ slice_index (levels_of nodes) node
level_within nodes h most zero l w = ap (λ (ns : List Node). length ns) (nodes_to-root nodes) ∙ sym (level-root nodes)
level_within nodes h zero (suc i) l w = absurd (omega arith)
level_within nodes h (suc most) (suc i) l w =
    let d : Node = node.Reference 0 (pos 0) (pos 0) None in
    let n = get_or nodes i d in
    let le : parent_of n ≤ i = h i d w in
    ap (λ (ns : List Node). length ns) (nodes_to-step nodes i d h w)
    ∙ length-append (nodes_to nodes (parent_of n)) (n ∷ [])
    ∙ ap (λ (k : ℕ). k + 1) (level_within nodes h most (parent_of n) (omega arith) (omega arith))
    ∙ sym (level-step nodes i d h w)

-- as many nodes as a node's level lead to it
pub nodes_to-level : (nodes : List Node) (node : ℕ) → AreOrdered nodes → node ≤ length nodes → length (nodes_to nodes node) ≡ slice_index (levels_of nodes) node
nodes_to-level nodes node h w = level_within nodes h node node (omega arith) w

levels-length : (nodes : List Node) → length (levels_of nodes) ≡ 1 + length nodes
unfolding levels_of
levels-length nodes = table-length (λ levels n. slice_index levels (parent_of n) + 1) (0 ∷ []) nodes

-- at most 64 nodes lead to one
pub nodes_to-few : (nodes : List Node) (node : ℕ) → AreNodes nodes → node ≤ length nodes → length (nodes_to nodes node) ≤ 64
nodes_to-few nodes node are w =
    let low = are.levels node 0 (omega (arith, levels-length nodes)) in
    omega (arith, low, nodes_to-level nodes node are.parents w)

-- ---- scroll frames

pub or_assoc : (o p q : Option ℕ) → option_or (option_or o p) q ≡ option_or o (option_or p q)
or_assoc None p q = refl
or_assoc (Some k) p q = refl

or_none : (o : Option ℕ) → option_or o None ≡ o
or_none None = refl
or_none (Some k) = refl

first_scroll-append : (ns ms : List Node) → first_scroll (ns ++ ms) ≡ option_or (first_scroll ns) (first_scroll ms)
first_scroll-append [] ms = refl
first_scroll-append (n ∷ ns) ms = ap (option_or (scroll_of n)) (first_scroll-append ns ms) ∙ sym (or_assoc (scroll_of n) (first_scroll ns) (first_scroll ms))

first_scroll-one : (n : Node) → first_scroll (n ∷ []) ≡ scroll_of n
first_scroll-one n = or_none (scroll_of n)

pub root_scroll-root : (nodes : List Node) → root_scroll_of nodes 0 ≡ None
unfolding root_scroll_of
root_scroll-root nodes = ap first_scroll (nodes_to-root nodes)

-- a node's outermost scroll frame is its parent's, or else perhaps itself
pub root_scroll-step : (nodes : List Node) (i : ℕ) (d : Node) → AreOrdered nodes → i < length nodes
    → root_scroll_of nodes (suc i) ≡ option_or (root_scroll_of nodes (parent_of (get_or nodes i d))) (scroll_of (get_or nodes i d))
unfolding root_scroll_of
root_scroll-step nodes i d h w =
    let n = get_or nodes i d in
    let above = nodes_to nodes (parent_of n) in
    ap first_scroll (nodes_to-step nodes i d h w) ∙ first_scroll-append above (n ∷ []) ∙ ap (option_or (first_scroll above)) (first_scroll-one n)

-- the same of the node that stands one before a number
pub root_scroll-up : (nodes : List Node) (at : ℕ) (d : Node) → AreOrdered nodes → 0 < at → at ≤ length nodes
    → root_scroll_of nodes at ≡ option_or (root_scroll_of nodes (parent_of (get_or nodes (at - 1) d))) (scroll_of (get_or nodes (at - 1) d))
root_scroll-up nodes at d h p w =
    let e : at ≡ suc (at - 1) = omega arith in
    ap (root_scroll_of nodes) e ∙ root_scroll-step nodes (at - 1) d h (omega arith)

-- its parent has a lower number
pub parent_before : (nodes : List Node) (at : ℕ) (d : Node) → AreOrdered nodes → 0 < at → at ≤ length nodes → parent_of (get_or nodes (at - 1) d) < at
parent_before nodes at d h p w = let le = h (at - 1) d (omega arith) in omega (arith, le)

-- one step of a walk from a node to its parent
pub scroll_up : (nodes : List Node) (start at next : ℕ) (outermost own more : Option ℕ) (d : Node) → AreOrdered nodes → 0 < at → at ≤ length nodes
    → next ≡ parent_of (get_or nodes (at - 1) d) → own ≡ scroll_of (get_or nodes (at - 1) d) → more ≡ option_or own outermost
    → option_or (root_scroll_of nodes at) outermost ≡ root_scroll_of nodes start → (next ≤ length nodes) × (option_or (root_scroll_of nodes next) more ≡ root_scroll_of nodes start)
scroll_up nodes start at next outermost own more d h p w e f g was =
    let n = get_or nodes (at - 1) d in
    let less = parent_before nodes at d h p w in (
      omega (arith, less, e),
      ap (option_or (root_scroll_of nodes next)) (g ∙ ap (λ (o : Option ℕ). option_or o outermost) f)
          ∙ ap (λ (k : ℕ). option_or (root_scroll_of nodes k) (option_or (scroll_of n) outermost)) e
          ∙ sym (or_assoc (root_scroll_of nodes (parent_of n)) (scroll_of n) outermost)
          ∙ ap (λ (o : Option ℕ). option_or o outermost) (sym (root_scroll-up nodes at d h p w))
          ∙ was,
    )

pub scroll_done : (nodes : List Node) (start at : ℕ) (outermost : Option ℕ) → at ≤ 0 → option_or (root_scroll_of nodes at) outermost ≡ root_scroll_of nodes start → outermost ≡ root_scroll_of nodes start
scroll_done nodes start at outermost z was =
    let e : at ≡ 0 = omega arith in
    ap (λ (o : Option ℕ). option_or o outermost) (sym (ap (root_scroll_of nodes) e ∙ root_scroll-root nodes)) ∙ was
