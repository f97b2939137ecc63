-- From a node up to its outermost scroll frame.
use Rattle.std.proofs.Common.{◌≡◌, ℕ, suc, ◌-◌, ◌<◌, ◌≤◌, List, length, get_or, Option, Some, None, refl, sym, ap, ◌∙◌, arith}
use Rattle.std.specs.Option.{option_map, option_or}
use Rattle.display_list.specs.declared.node.Node.{Node}
use Rattle.display_list.specs.Levels.{parent_of}
use Rattle.spatial_tree.proofs.Nodes.{AreOrdered, or_assoc}
use Rattle.painter.specs.Frames.{own_frame, root_frame_of}
use Rattle.painter.proofs.Frames.{root_frame-root, root_frame-step}

pub map_or : {A B : Type 0} (f : A → B) (o p : Option A) → option_map f (option_or o p) ≡ option_or (option_map f o) (option_map f p)
map_or f None p = refl
map_or f (Some x) p = refl

frame_at_number : (nodes : List Node) (at : ℕ) (d : Node) → AreOrdered nodes → 0 < at → at ≤ length nodes
    → root_frame_of nodes at ≡ option_or (root_frame_of nodes (parent_of (get_or nodes (at - 1) d))) (own_frame at (get_or nodes (at - 1) d))
frame_at_number nodes at d ordered p w =
    let e : at ≡ suc (at - 1) = omega arith in
    let n = get_or nodes (at - 1) d in
    ap (root_frame_of nodes) e
    ∙ root_frame-step nodes (at - 1) d ordered (omega arith)
    ∙ ap (λ (k : ℕ). option_or (root_frame_of nodes (parent_of n)) (own_frame k n)) (sym e)

-- one step of a walk from a node to its parent
pub frame_up : (nodes : List Node) (start at next : ℕ) (outermost own more : Option ℕ) (d : Node) → AreOrdered nodes → 0 < at → at ≤ length nodes
    → next ≡ parent_of (get_or nodes (at - 1) d) → own ≡ own_frame at (get_or nodes (at - 1) d) → more ≡ option_or own outermost
    → option_or (root_frame_of nodes at) outermost ≡ root_frame_of nodes start → option_or (root_frame_of nodes next) more ≡ root_frame_of nodes start
frame_up nodes start at next outermost own more d ordered p w e f g was =
    let n = get_or nodes (at - 1) d in
    ap (option_or (root_frame_of nodes next)) (g ∙ ap (λ (o : Option ℕ). option_or o outermost) f)
    ∙ ap (λ (k : ℕ). option_or (root_frame_of nodes k) (option_or (own_frame at n) outermost)) e
    ∙ sym (or_assoc (root_frame_of nodes (parent_of n)) (own_frame at n) outermost)
    ∙ ap (λ (o : Option ℕ). option_or o outermost) (sym (frame_at_number nodes at d ordered p w))
    ∙ was

pub frame_done : (nodes : List Node) (start at : ℕ) (outermost : Option ℕ) → at ≤ 0 → option_or (root_frame_of nodes at) outermost ≡ root_frame_of nodes start → outermost ≡ root_frame_of nodes start
frame_done nodes start at outermost z was =
    let e : at ≡ 0 = omega arith in
    ap (λ (o : Option ℕ). option_or o outermost) (sym (ap (root_frame_of nodes) e ∙ root_frame-root nodes)) ∙ was
