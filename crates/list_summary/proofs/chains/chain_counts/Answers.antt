use Rattle.std.proofs.Common.{◌≡◌, ap, ◌∙◌, arith}
use Rattle.display_list.specs.Levels.{inherited}
use Rattle.list_summary.specs.Shown.{chain_clip_count}
use Rattle.list_summary.proofs.ChainCounts.{begun, next_is, clips_inherited}
use Rattle.list_summary.proofs.chains.chain_counts.Goals as goal

pub loop-chain-init : goal.loop-chain-init
loop-chain-init c = begun c.args.list.now _ _ c.new-counts.ensures.items c.chains-chain-items.ensures.value c.chains-chain-items.ensures.list

pub overflow_cast-len : goal.overflow_cast-len
overflow_cast-len c =
    let h = next_is c.loop-chain.counts.items c.chains-chain-items.result.now c.loop-chain.chain-index c.chain-item.result c.loop-chain-test.true c.chain-item.is c.loop-chain.invariant.1 in
    omega (arith, h, c.len.ensures)

pub overflow_add-inherited : goal.overflow_add-inherited
overflow_add-inherited c =
    let h = next_is c.loop-chain.counts.items c.chains-chain-items.result.now c.loop-chain.chain-index c.chain-item.result c.loop-chain-test.true c.chain-item.is c.loop-chain.invariant.1 in
    let e : c.chain_clip_count-inherited.result ≡ inherited c.loop-chain.counts.items c.chain-item.result.parent =
    c.chain_clip_count-inherited.ensures ∙ ap (λ counts. chain_clip_count counts c.chain-item.result.parent) c.deref.ensures.value ∙ clips_inherited c.loop-chain.counts.items c.chain-item.result.parent in
    omega (arith, h, e, c.len.ensures)
