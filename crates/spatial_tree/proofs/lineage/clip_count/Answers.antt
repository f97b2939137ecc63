use Rattle.std.proofs.Common.{List, length, ℕ, ap, ◌∙◌, arith}
use Rattle.std.proofs.lemmas.List.{length-append}
use Rattle.display_list.specs.declared.node.ChainDef.{ChainDef}
use Rattle.spatial_tree.specs.Lineage.{clip_numbers}
use Rattle.spatial_tree.proofs.Chains.{clip_numbers-none, clip_numbers-few, chain_up_in}
use Rattle.spatial_tree.proofs.lineage.clip_count.Goals as goal

pub overflow_add-count : goal.overflow_add-count
overflow_add-count c =
    let same = ap (λ (cs : List ChainDef). length (clip_numbers cs c.args.chain)) c.chains-chains.ensures.value in
    let few = clip_numbers-few _ c.args.list.now.chains c.args.chain c.chains-chains.ensures.list.chains c.requires in
    let k = chain_up_in c.chains-chains.result.now c.args.list.now c.up.next c.in-Some.number c.index-chains-number.result c.chains-chains.ensures.value c.chains-chains.ensures.list c.up.invariant.0 c.in-Some.is c.index-chains-number.is in
    let size = ap (λ (ns : List ℕ). length ns) k.1 ∙ length-append (clip_numbers c.chains-chains.result.now c.index-chains-number.result.parent) c.index-chains-number.result.clips in
    omega (arith, same, few, size, c.up.invariant.1, c.len-count.ensures)

pub up-preserved : goal.up-preserved
up-preserved c =
    let k = chain_up_in c.chains-chains.result.now c.args.list.now c.up.next c.in-Some.number c.index-chains-number.result c.chains-chains.ensures.value c.chains-chains.ensures.list c.up.invariant.0 c.in-Some.is c.index-chains-number.is in
    let size = ap (λ (ns : List ℕ). length ns) k.1 ∙ length-append (clip_numbers c.chains-chains.result.now c.index-chains-number.result.parent) c.index-chains-number.result.clips in
    (k.0, omega (arith, size, c.up.invariant.1, c.len-count.ensures))

pub returns-clause-count : goal.returns-clause-count
returns-clause-count c =
    let same = ap (λ (cs : List ChainDef). length (clip_numbers cs c.args.chain)) c.chains-chains.ensures.value in
    let none = ap (λ (ns : List ℕ). length ns) (ap (clip_numbers c.chains-chains.result.now) c.in_default.is ∙ clip_numbers-none c.chains-chains.result.now) in
    omega (arith, same, none, c.up.invariant.1)

pub returns-clause-most : goal.returns-clause-most
returns-clause-most c =
    let few = clip_numbers-few _ c.args.list.now.chains c.args.chain c.chains-chains.ensures.list.chains c.requires in
    omega (arith, few, returns-clause-count c)
