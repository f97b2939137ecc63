-- The outermost scroll frame of a node, by its number as a node.
use Rattle.std.proofs.Common.{◌≡◌, ℕ, zero, suc, ◌<◌, ◌≤◌, List, [], ◌∷◌, ◌++◌, length, get_or, Option, Some, None, refl, sym, ap, subst, ◌∙◌, arith}
use Rattle.std.specs.Prelude.{slice_get}
use Rattle.std.specs.Option.{option_or, option_map}
use Rattle.std.proofs.lemmas.Option.{none-some, slice_get-get_or, slice_get_within, get_or_from_slice_get}
use Rattle.display_list.specs.declared.node.Node.{Node}
use Rattle.display_list.specs.Levels.{parent_of}
use Rattle.spatial_tree.specs.Lineage.{after_ancestors, index_of, lineage, nodes_to}
use Rattle.spatial_tree.specs.Homes.{scroll_of, first_scroll, root_scroll_of}
use Rattle.spatial_tree.proofs.Nodes.{AreOrdered, parent_index, or_assoc}
use Rattle.painter.specs.Frames.{own_frame, outer_frame, frame_within, root_frame_of, maybe_scroll, scroll_at}
use Rattle.painter.specs.Laws.{FrameHasRootScroll}

frame-root : (nodes : List Node) (steps : ℕ) → frame_within nodes steps 0 ≡ None
frame-root nodes zero = refl
frame-root nodes (suc steps) = refl

-- ---- what is found is a scroll frame

-- the node with this number is a scroll frame
abbrev HasScroll : List Node → ℕ → Type 0
HasScroll nodes frame = (sid : ℕ) × (scroll_at nodes (Some frame) ≡ Some sid)

own_scroll : (nodes : List Node) (k frame : ℕ) (n : Node) (o : Option ℕ) → slice_get nodes k ≡ Some n → scroll_of n ≡ o → option_map (λ sid. suc k) o ≡ Some frame → HasScroll nodes frame
own_scroll nodes k frame n None e f g = absurd (none-some frame g)
own_scroll nodes k frame n (Some sid) e f g =
    let same : suc k ≡ frame = cc in
    (sid, ap (λ (m : ℕ). scroll_at nodes (Some m)) (sym same) ∙ ap maybe_scroll e ∙ f)

-- the first that is found above, or else the node itself
either_scroll : (nodes : List Node) (k frame : ℕ) (n : Node) (above : Option ℕ) → slice_get nodes k ≡ Some n → ((found : ℕ) → above ≡ Some found → HasScroll nodes found)
    → option_or above (own_frame (suc k) n) ≡ Some frame → HasScroll nodes frame
either_scroll nodes k frame n None e is g = own_scroll nodes k frame n (scroll_of n) e refl g
either_scroll nodes k frame n (Some found) e is g = is frame g

outer_scroll : (nodes : List Node) (k frame : ℕ) (frame_of : ℕ → Option ℕ) (o : Option Node) → slice_get nodes k ≡ o → ((node found : ℕ) → frame_of node ≡ Some found → HasScroll nodes found)
    → outer_frame frame_of (suc k) o ≡ Some frame → HasScroll nodes frame
outer_scroll nodes k frame frame_of None e is f = absurd (none-some frame f)
outer_scroll nodes k frame frame_of (Some n) e is f = either_scroll nodes k frame n (frame_of (parent_of n)) e (is (parent_of n)) f

frame_scrolls : (nodes : List Node) (steps node frame : ℕ) → frame_within nodes steps node ≡ Some frame → HasScroll nodes frame
frame_scrolls nodes zero zero frame e = absurd (none-some frame e)
frame_scrolls nodes (suc steps) zero frame e = absurd (none-some frame e)
frame_scrolls nodes zero (suc k) frame e = absurd (none-some frame e)
frame_scrolls nodes (suc steps) (suc k) frame e = outer_scroll nodes k frame (frame_within nodes steps) (slice_get nodes k) refl (λ node found f. frame_scrolls nodes steps node found f) e

-- so it is a node of the list
scroll_within : (nodes : List Node) (frame : ℕ) → HasScroll nodes frame → frame ≤ length nodes
scroll_within nodes zero has = omega arith
scroll_within nodes (suc k) has = by_node (slice_get nodes k) refl has.1
  where
    by_node : (o : Option Node) → slice_get nodes k ≡ o → maybe_scroll o ≡ Some has.0 → suc k ≤ length nodes
    by_node None e f = absurd (none-some has.0 f)
    by_node (Some n) e f = let w = slice_get_within nodes k n e in omega (arith, w)

pub frame_found : (nodes : List Node) (node frame : ℕ) → root_frame_of nodes node ≡ Some frame → frame ≤ length nodes
unfolding root_frame_of
frame_found nodes node frame e = scroll_within nodes frame (frame_scrolls nodes (length nodes) node frame e)

-- ---- its scroll number moves the node

own_number : (nodes : List Node) (k : ℕ) (n : Node) (o : Option ℕ) → slice_get nodes k ≡ Some n → scroll_of n ≡ o → scroll_at nodes (option_map (λ sid. suc k) o) ≡ o
own_number nodes k n None e f = refl
own_number nodes k n (Some sid) e f = ap maybe_scroll e ∙ f

or_number : (nodes : List Node) (k : ℕ) (n : Node) (above : Option ℕ) → slice_get nodes k ≡ Some n → ((frame : ℕ) → above ≡ Some frame → HasScroll nodes frame)
    → scroll_at nodes (option_or above (own_frame (suc k) n)) ≡ option_or (scroll_at nodes above) (scroll_of n)
or_number nodes k n None e is = own_number nodes k n (scroll_of n) e refl
or_number nodes k n (Some frame) e is = let s = is frame refl in s.1 ∙ ap (λ (o : Option ℕ). option_or o (scroll_of n)) (sym s.1)

-- the scroll numbers on a way that goes on
or_assoc_scroll : (ns ms : List Node) → first_scroll (ns ++ ms) ≡ option_or (first_scroll ns) (first_scroll ms)
or_assoc_scroll [] ms = refl
or_assoc_scroll (n ∷ ns) ms = ap (option_or (scroll_of n)) (or_assoc_scroll ns ms) ∙ sym (or_assoc (scroll_of n) (first_scroll ns) (first_scroll ms))

or_none : (o : Option ℕ) → option_or o None ≡ o
or_none None = refl
or_none (Some k) = refl

number_found : (nodes : List Node) (k : ℕ) (frame_of : ℕ → Option ℕ) (above : Option ℕ → List Node) (o : Option Node) → slice_get nodes k ≡ o
    → ((node found : ℕ) → frame_of node ≡ Some found → HasScroll nodes found) → ((node : ℕ) → scroll_at nodes (frame_of node) ≡ first_scroll (above (index_of node)))
    → scroll_at nodes (outer_frame frame_of (suc k) o) ≡ first_scroll (after_ancestors parent_index above o)
number_found nodes k frame_of above None e is same = refl
number_found nodes k frame_of above (Some n) e is same =
    or_number nodes k n (frame_of (parent_of n)) e (is (parent_of n))
    ∙ ap (λ (o : Option ℕ). option_or o (scroll_of n)) (same (parent_of n))
    ∙ ap (option_or (first_scroll (above (parent_index n)))) (sym (or_none (scroll_of n)))
    ∙ sym (or_assoc_scroll (above (parent_index n)) (n ∷ []))

number_within : (nodes : List Node) (steps node : ℕ) → scroll_at nodes (frame_within nodes steps node) ≡ first_scroll (lineage parent_index nodes steps (index_of node))
number_within nodes zero zero = refl
number_within nodes (suc steps) zero = refl
number_within nodes zero (suc k) = refl
number_within nodes (suc steps) (suc k) =
    number_found nodes k (frame_within nodes steps) (lineage parent_index nodes steps) (slice_get nodes k) refl (λ node found f. frame_scrolls nodes steps node found f) (λ node. number_within nodes steps node)

pub frame_number : FrameHasRootScroll
unfolding root_frame_of root_scroll_of nodes_to
frame_number nodes node = number_within nodes (length nodes) node

-- ---- from a node to its parent

-- as many steps as a node's number are enough
enough_outer : (nodes : List Node) (k : ℕ) (f g : ℕ → Option ℕ) (o : Option Node) → AreOrdered nodes → k < length nodes → ((node : ℕ) → node ≤ k → f node ≡ g node) → slice_get nodes k ≡ o
    → outer_frame f (suc k) o ≡ outer_frame g (suc k) o
enough_outer nodes k f g None ordered w same e = refl
enough_outer nodes k f g (Some x) ordered w same e =
    let is : get_or nodes k x ≡ x = get_or_from_slice_get nodes k x x e in
    let before : parent_of (get_or nodes k x) ≤ k = ordered k x w in
    ap (λ (h : Option ℕ). option_or h (own_frame (suc k) x)) (same (parent_of x) (subst (λ (n : Node). parent_of n ≤ k) is before))

enough_steps : (nodes : List Node) (m n node : ℕ) → AreOrdered nodes → node ≤ length nodes → node ≤ m → node ≤ n → frame_within nodes m node ≡ frame_within nodes n node
enough_steps nodes m n zero ordered w low less = frame-root nodes m ∙ sym (frame-root nodes n)
enough_steps nodes zero n (suc k) ordered w low less = absurd (omega arith)
enough_steps nodes (suc m) zero (suc k) ordered w low less = absurd (omega arith)
enough_steps nodes (suc m) (suc n) (suc k) ordered w low less =
    enough_outer nodes k (frame_within nodes m) (frame_within nodes n) (slice_get nodes k) ordered (omega arith)
    (λ node le. enough_steps nodes m n node ordered (omega (arith, le)) (omega (arith, le)) (omega (arith, le))) refl

step_of : (nodes : List Node) (steps k : ℕ) (d : Node) → AreOrdered nodes → length nodes ≡ steps → k < length nodes
    → frame_within nodes steps (suc k) ≡ option_or (frame_within nodes steps (parent_of (get_or nodes k d))) (own_frame (suc k) (get_or nodes k d))
step_of nodes zero k d ordered all w = absurd (omega (arith, all, w))
step_of nodes (suc steps) k d ordered all w =
    let n = get_or nodes k d in
    let before : parent_of n ≤ k = ordered k d w in
    ap (outer_frame (frame_within nodes steps) (suc k)) (slice_get-get_or nodes k d w)
    ∙ ap (λ (f : Option ℕ). option_or f (own_frame (suc k) n)) (enough_steps nodes steps (suc steps) (parent_of n) ordered (omega (arith, before, w)) (omega (arith, before, w, all)) (omega (arith, before, w, all)))

-- a node's outermost scroll frame is its parent's, or else perhaps itself
pub root_frame-step : (nodes : List Node) (k : ℕ) (d : Node) → AreOrdered nodes → k < length nodes
    → root_frame_of nodes (suc k) ≡ option_or (root_frame_of nodes (parent_of (get_or nodes k d))) (own_frame (suc k) (get_or nodes k d))
unfolding root_frame_of
root_frame-step nodes k d ordered w = step_of nodes (length nodes) k d ordered refl w

pub root_frame-root : (nodes : List Node) → root_frame_of nodes 0 ≡ None
unfolding root_frame_of
root_frame-root nodes = frame-root nodes (length nodes)
