-- The tables of a list where it is drawn: its nodes' points, and its chains as far as they are known.
use Rattle.std.proofs.Common.{◌≡◌, ℕ, ◌+◌, ◌<◌, List, [], length, map, get_or, set, Option, Some, None, inl, inr, refl, sym, ap, ◌∙◌, arith}
use Rattle.std.proofs.lemmas.Bool.{cases_eq}
use Rattle.std.proofs.lemmas.Grind.{get_or-set_at}
use Rattle.std.proofs.lemmas.List.{length-set, get_or-set_other}
use Rattle.std.specs.Prelude.{All, slice_get}
use Rattle.std.proofs.lemmas.Option.{none-some, slice_get-get_or, slice_get_within, get_or_from_slice_get}
use Rattle.wr_geom.specs.declared.point.Point.{Point}
use Rattle.display_list.specs.declared.node.ClipDef.{ClipDef}
use Rattle.display_list.specs.ListModel.{ListModel}
use Rattle.spatial_tree.specs.Homes.{root_scroll_of, homes_of}
use Rattle.spatial_tree.proofs.Chains.{clips_none}
use Rattle.spatial_tree.proofs.Places.{table-has}
use Rattle.clip_tree.specs.Placed.{placed_clips, in_table}
use Rattle.clip_tree.proofs.Clips.{placed_by_table}
use Rattle.painter.specs.PlacedList.{PlacedList, node_point, chain_clips}
use Rattle.scene_flatten.specs.declared.chains.PlacedChain.{PlacedChain}
use Rattle.scene_flatten.specs.Chains.{IsChainTable, IsResolved, placed_chain}
use Rattle.scene_flatten.specs.Facts.{IsNearList, HasPoints}

-- ---- points

pub point_index : (l : PlacedList) (points : List Point) (node : ℕ) → HasPoints l points → node < length l.list.nodes + 1 → node < length points
point_index l points node has lt = omega (arith, has.count, lt)

pub point_at : (l : PlacedList) (points : List Point) (node : ℕ) (d : Point) → HasPoints l points → node < length l.list.nodes + 1 → get_or points node d ≡ node_point l node
point_at l points node d has lt = ap (λ (ps : List Point). get_or ps node d) has.table ∙ table-has l.list.nodes l.moves l.origin node d (omega (arith, lt))

-- the same of a slice of the table
pub point_in : (l : PlacedList) (here points : List Point) (node : ℕ) (d : Point) → here ≡ points → HasPoints l points → node < length l.list.nodes + 1 → get_or here node d ≡ node_point l node
point_in l here points node d e has lt = ap (λ (ps : List Point). get_or ps node d) e ∙ point_at l points node d has lt

pub clips_at : (l : PlacedList) (points : List Point) (chain : Option ℕ) → IsNearList l → HasPoints l points → placed_clips l.list (in_table points) chain ≡ chain_clips l chain
clips_at l points chain near has =
    ap (λ (ps : List Point). placed_clips l.list (in_table ps) chain) has.table ∙ placed_by_table l.list l.moves l.origin chain near.list

-- ---- chains

pub nothing_known : (l : PlacedList) (table : List (Option PlacedChain)) → length table ≡ length l.list.chains → All (λ o. o ≡ None) table → IsChainTable l table
nothing_known l table count all = record {
  all = count;
  each = λ k c e. absurd (none-some c (sym (all k (Some c) (slice_get_within table k (Some c) e)) ∙ get_or_from_slice_get table k (Some c) (Some c) e));
}

pub known_index : (table : List (Option PlacedChain)) (chain : ℕ) → IsResolved table chain → chain < length table
known_index table chain known = slice_get_within table chain (Some known.0) known.1

-- what is there is the chain
pub known_is : (l : PlacedList) (table : List (Option PlacedChain)) (chain : ℕ) (d : Option PlacedChain) (c : PlacedChain) → IsChainTable l table → chain < length l.list.chains → get_or table chain d ≡ Some c
    → slice_get table chain ≡ Some (Some (placed_chain l (Some chain)))
known_is l table chain d c is lt e =
    let there : slice_get table chain ≡ Some (Some c) = slice_get-get_or table chain d (omega (arith, is.all, lt)) ∙ ap (λ (o : Option PlacedChain). (let p : Option (Option PlacedChain) = Some o in p)) e in
    there ∙ ap (λ (x : PlacedChain). (let p : Option (Option PlacedChain) = Some (Some x) in p)) (is.each chain c there)

-- one chain more is known
pub known_set : (l : PlacedList) (table : List (Option PlacedChain)) (chain : ℕ) (c : PlacedChain) → IsChainTable l table → chain < length l.list.chains → c ≡ placed_chain l (Some chain) → IsChainTable l (set table chain (Some c))
known_set l table chain c is lt e = record {
  all = length-set table chain (Some c) ∙ is.all;
  each = λ k x f. elim (cases_eq k chain) [
    | inl same ↦ (let here : Some c ≡ Some x = sym (get_or-set_at table chain k (Some c) (Some x) same (omega (arith, is.all, lt))) ∙ get_or_from_slice_get (set table chain (Some c)) k (Some x) (Some x) f in
        let it : c ≡ x = cc in
        sym it ∙ e ∙ ap (λ (n : ℕ). placed_chain l (Some n)) (sym same))
    | inr other ↦ (let w : k < length (set table chain (Some c)) = slice_get_within (set table chain (Some c)) k (Some x) f in
        let v : k < length table = omega (arith, w, length-set table chain (Some c)) in
        let there : get_or table k (Some x) ≡ Some x = sym (get_or-set_other table chain k (Some c) (Some x) other) ∙ get_or_from_slice_get (set table chain (Some c)) k (Some x) (Some x) f in
        is.each k x (slice_get-get_or table k (Some x) v ∙ ap (λ (o : Option PlacedChain). (let p : Option (Option PlacedChain) = Some o in p)) there))
  ];
}

pub known_there : (l : PlacedList) (table : List (Option PlacedChain)) (chain : ℕ) (c : PlacedChain) → IsChainTable l table → chain < length l.list.chains → c ≡ placed_chain l (Some chain)
    → slice_get (set table chain (Some c)) chain ≡ Some (Some (placed_chain l (Some chain)))
known_there l table chain c is lt e =
    let all = set table chain (Some c) in
    slice_get-get_or all chain None (omega (arith, length-set table chain (Some c), is.all, lt))
    ∙ ap (λ (o : Option PlacedChain). (let p : Option (Option PlacedChain) = Some o in p)) (get_or-set_at table chain chain (Some c) None refl (omega (arith, is.all, lt)) ∙ ap (λ (x : PlacedChain). (let o : Option PlacedChain = Some x in o)) e)

-- ---- without a chain

pub no_homes : (l : ListModel) → homes_of l None ≡ []
unfolding homes_of
no_homes l = ap (map (λ (c : ClipDef). root_scroll_of l.nodes c.node)) (clips_none l)
