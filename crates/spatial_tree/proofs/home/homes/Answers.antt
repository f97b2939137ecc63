use Rattle.std.proofs.Common.{List, map, ap₂, ◌∙◌, arith}
use Rattle.display_list.specs.declared.node.ClipDef.{ClipDef}
use Rattle.spatial_tree.specs.Lineage.{members_at, clips_of}
use Rattle.spatial_tree.specs.Homes.{root_scroll_of, homes_of}
use Rattle.spatial_tree.proofs.Chains.{made_more, made_all, gathered_within, clip_within}
use Rattle.spatial_tree.proofs.home.homes.Goals as goal

pub bounds-clips-number : goal.bounds-clips-number
bounds-clips-number c =
    gathered_within c.clips-clips.result.now c.args.list.now c.args.chain c.as_slice-numbers.result.now c.chain_clips-gathered.result.items c.loop-number.number-index c.clips-clips.ensures.value c.clips-clips.ensures.list c.as_slice-numbers.ensures.value c.chain_clips-gathered.ensures c.loop-number-test.true

pub bounds-clips-number-in-loop-number : goal.bounds-clips-number-in-loop-number
bounds-clips-number-in-loop-number c =
    gathered_within c.clips-clips.result.now c.args.list.now c.args.chain c.as_slice-numbers.result.now c.chain_clips-gathered.result.items c.loop-number.number-index c.clips-clips.ensures.value c.clips-clips.ensures.list c.as_slice-numbers.ensures.value c.chain_clips-gathered.ensures c.loop-number-test.true

pub root_scroll-requires : goal.root_scroll-requires
root_scroll-requires c =
    let within = gathered_within c.clips-clips.result.now c.args.list.now c.args.chain c.as_slice-numbers.result.now c.chain_clips-gathered.result.items c.loop-number.number-index c.clips-clips.ensures.value c.clips-clips.ensures.list c.as_slice-numbers.ensures.value c.chain_clips-gathered.ensures c.loop-number-test.true in
    let is = clip_within c.clips-clips.result.now c.args.list.now _ c.index-clips-number.result c.clips-clips.ensures.value c.clips-clips.ensures.list within in
    omega (arith, is.node.defined)

pub loop-number-preserved : goal.loop-number-preserved
loop-number-preserved c =
    let within = gathered_within c.clips-clips.result.now c.args.list.now c.args.chain c.as_slice-numbers.result.now c.chain_clips-gathered.result.items c.loop-number.number-index c.clips-clips.ensures.value c.clips-clips.ensures.list c.as_slice-numbers.ensures.value c.chain_clips-gathered.ensures c.loop-number-test.true in
    made_more (λ (d : ClipDef). root_scroll_of c.args.list.now.nodes d.node) c.clips-clips.result.now c.as_slice-numbers.result.now c.loop-number.number-index c.index-clips-number.result c.root_scroll.result c.loop-number.homes.items c.push.new.self.items
    c.loop-number-test.true within c.root_scroll.ensures c.loop-number.invariant c.in_ok-push.ensures.items

pub returns : goal.returns
unfolding homes_of clips_of
returns c =
    let f = λ (d : ClipDef). root_scroll_of c.args.list.now.nodes d.node in
    made_all f c.clips-clips.result.now c.as_slice-numbers.result.now c.loop-number.number-index c.loop-number.homes.items c.loop-number-test.false c.loop-number.invariant
    ∙ ap₂ (λ (cs : List ClipDef) ks. map f (members_at cs ks)) c.clips-clips.ensures.value (c.as_slice-numbers.ensures.value ∙ c.chain_clips-gathered.ensures)
