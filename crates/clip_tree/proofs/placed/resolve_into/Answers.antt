use Rattle.std.proofs.Common.{◌+◌, ◌++◌, List, length, map, refl, subst, sym, ap, ap₂, ◌∙◌, arith}
use Rattle.display_list.specs.declared.node.ClipDef.{ClipDef}
use Rattle.display_list.specs.Facts.{IsClip}
use Rattle.spatial_tree.specs.Lineage.{members_at, clips_of}
use Rattle.spatial_tree.proofs.Chains.{gathered_within, clip_within, made_all}
use Rattle.clip_tree.specs.Placed.{placed_clip, placed_clips, in_table}
use Rattle.clip_tree.proofs.Clips.{clip_of_more, few_nodes, placed_in_table}
use Rattle.clip_tree.proofs.Folds.{appended_more}
use Rattle.clip_tree.proofs.placed.resolve_into.Goals as goal

pub bounds-defined-number : goal.bounds-defined-number
bounds-defined-number c =
    gathered_within c.clips-defined.result.now c.args.list.now c.args.chain c.as_slice-numbers.result.now c.chain_clips-gathered.result.items c.loop-number.number-index c.clips-defined.ensures.value c.clips-defined.ensures.list c.as_slice-numbers.ensures.value c.chain_clips-gathered.ensures c.loop-number-test.true

-- the clip meets its checks
pub bounds-offsets-clip : goal.bounds-offsets-clip
bounds-offsets-clip c =
    let within = gathered_within c.clips-defined.result.now c.args.list.now c.args.chain c.as_slice-numbers.result.now c.chain_clips-gathered.result.items c.loop-number.number-index c.clips-defined.ensures.value c.clips-defined.ensures.list c.as_slice-numbers.ensures.value c.chain_clips-gathered.ensures c.loop-number-test.true in
    let is = subst (IsClip (length c.args.list.now.nodes + 1)) (sym c.index-defined-number.is) (clip_within c.clips-defined.result.now c.args.list.now _ c.index-defined-number.result c.clips-defined.ensures.value c.clips-defined.ensures.list within) in
    omega (arith, is.node.defined, c.requires.table)

pub placed-placed-requires-clause-clip : goal.placed-placed-requires-clause-clip
placed-placed-requires-clause-clip c =
    let within = gathered_within c.clips-defined.result.now c.args.list.now c.args.chain c.as_slice-numbers.result.now c.chain_clips-gathered.result.items c.loop-number.number-index c.clips-defined.ensures.value c.clips-defined.ensures.list c.as_slice-numbers.ensures.value c.chain_clips-gathered.ensures c.loop-number-test.true in
    let is = subst (IsClip (length c.args.list.now.nodes + 1)) (sym c.index-defined-number.is) (clip_within c.clips-defined.result.now c.args.list.now _ c.index-defined-number.result c.clips-defined.ensures.value c.clips-defined.ensures.list within) in
    clip_of_more (length c.args.list.now.nodes + 1) 65535 c.index-defined-number.result (few_nodes c.args.list.now c.clips-defined.ensures.list) is

pub loop-number-preserved : goal.loop-number-preserved
loop-number-preserved c =
    let within = gathered_within c.clips-defined.result.now c.args.list.now c.args.chain c.as_slice-numbers.result.now c.chain_clips-gathered.result.items c.loop-number.number-index c.clips-defined.ensures.value c.clips-defined.ensures.list c.as_slice-numbers.ensures.value c.chain_clips-gathered.ensures c.loop-number-test.true in
    let is = subst (IsClip (length c.args.list.now.nodes + 1)) (sym c.index-defined-number.is) (clip_within c.clips-defined.result.now c.args.list.now _ c.index-defined-number.result c.clips-defined.ensures.value c.clips-defined.ensures.list within) in
    let here = placed_in_table c.args.offsets.now _ c.index-defined-number.result c.placed-placed.result (omega (arith, is.node.defined, c.requires.table)) c.placed-placed.ensures in
    appended_more (placed_clip (in_table c.args.offsets.now)) c.clips-defined.result.now c.as_slice-numbers.result.now c.loop-number.number-index c.index-defined-number.result c.placed-placed.result c.args.out.now.items c.loop-number.out.items c.push.new.self.items
    c.loop-number-test.true within (here ∙ ap (placed_clip (in_table c.args.offsets.now)) c.index-defined-number.is) c.loop-number.invariant c.in_default.ensures.items

pub returns-clause-ok : goal.returns-clause-ok
unfolding placed_clips clips_of
returns-clause-ok c =
    let f = placed_clip (in_table c.args.offsets.now) in
    c.loop-number.invariant
    ∙ ap (λ cs. c.args.out.now.items ++ cs) (
    made_all f c.clips-defined.result.now c.as_slice-numbers.result.now c.loop-number.number-index _ c.loop-number-test.false refl
    ∙ ap₂ (λ (cs : List ClipDef) ks. map f (members_at cs ks)) c.clips-defined.ensures.value (c.as_slice-numbers.ensures.value ∙ c.chain_clips-gathered.ensures)
    )
