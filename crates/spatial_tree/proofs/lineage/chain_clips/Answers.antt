use Rattle.std.proofs.Common.{◌++◌, List, length, reverse, ℕ, sym, ap, ◌∙◌, arith}
use Rattle.std.proofs.lemmas.List.{length-append, length-reverse}
use Rattle.display_list.specs.declared.node.ChainDef.{ChainDef}
use Rattle.spatial_tree.specs.Lineage.{clip_numbers}
use Rattle.spatial_tree.proofs.Chains.{clip_numbers-few, chain_up_in, gathered_more, gathered_all}
use Rattle.spatial_tree.proofs.lineage.chain_clips.Goals as goal

pub push_reversed-requires : goal.push_reversed-requires
push_reversed-requires c =
    let same = ap (λ (cs : List ChainDef). length (clip_numbers cs c.args.chain)) c.chains-chains.ensures.value in
    let few = clip_numbers-few _ c.args.list.now.chains c.args.chain c.chains-chains.ensures.list.chains c.requires in
    let k = chain_up_in c.chains-chains.result.now c.args.list.now c.up.next c.in-Some.number c.index-chains-number.result c.chains-chains.ensures.value c.chains-chains.ensures.list c.up.invariant.0 c.in-Some.is c.index-chains-number.is in
    let size = ap (λ (ns : List ℕ). length ns) k.1 ∙ length-append (clip_numbers c.chains-chains.result.now c.index-chains-number.result.parent) c.index-chains-number.result.clips in
    let all = sym (length-append (clip_numbers c.chains-chains.result.now c.up.next) (reverse c.up.numbers.items)) ∙ ap (λ (ns : List ℕ). length ns) c.up.invariant.1 in
    omega (arith, same, few, size, all, length-reverse c.up.numbers.items, ap (λ (ns : List ℕ). length ns) c.as_slice.ensures)

pub up-preserved : goal.up-preserved
up-preserved c =
    let k = chain_up_in c.chains-chains.result.now c.args.list.now c.up.next c.in-Some.number c.index-chains-number.result c.chains-chains.ensures.value c.chains-chains.ensures.list c.up.invariant.0 c.in-Some.is c.index-chains-number.is in (
      k.0,
      gathered_more (clip_numbers c.chains-chains.result.now c.index-chains-number.result.parent) c.index-chains-number.result.clips c.up.numbers.items c.push_reversed.new.numbers.items _
          (c.push_reversed.ensures ∙ ap (λ (ns : List ℕ). c.up.numbers.items ++ reverse ns) c.as_slice.ensures)
          (ap (λ (ns : List ℕ). ns ++ reverse c.up.numbers.items) (sym k.1) ∙ c.up.invariant.1),
    )

pub returns : goal.returns
returns c =
    gathered_all c.chains-chains.result.now c.up.next c.up.numbers.items c.turn.new.numbers.items _ c.in_default.is c.up.invariant.1 c.turn.ensures
    ∙ ap (λ (cs : List ChainDef). clip_numbers cs c.args.chain) c.chains-chains.ensures.value
