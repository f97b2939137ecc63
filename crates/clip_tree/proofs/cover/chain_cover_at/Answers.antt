use Rattle.std.proofs.Common.{◌+◌, List, length, map, refl, subst, sym, ap, ap₂, ◌∙◌, arith}
use Rattle.std.proofs.lemmas.Int.{to_z-of_z}
use Rattle.display_list.specs.declared.node.ClipDef.{ClipDef}
use Rattle.display_list.specs.Facts.{IsClip}
use Rattle.clip_masks.proofs.Chains.{chain_none}
use Rattle.blend_rules.specs.Colour.{product}
use Rattle.clip_masks.specs.Clips.{shifted_clip}
use Rattle.clip_masks.specs.Coverage.{chain_coverage}
use Rattle.spatial_tree.specs.Lineage.{members_at, clips_of}
use Rattle.spatial_tree.specs.Offsets.{offset_of}
use Rattle.spatial_tree.proofs.Chains.{gathered_within, clip_within, made_all}
use Rattle.clip_tree.specs.Placed.{clip_of, placed_clip, placed_clips}
use Rattle.clip_tree.proofs.Clips.{clip_of_more, few_nodes}
use Rattle.clip_tree.proofs.Folds.{cover_more}
use Rattle.clip_tree.proofs.cover.chain_cover_at.Goals as goal

pub loop-number-init : goal.loop-number-init
loop-number-init c = sym (chain_none c.args.outer _ _)

pub bounds-defined-number : goal.bounds-defined-number
bounds-defined-number c =
    gathered_within c.clips-defined.result.now c.args.list.now c.args.chain c.as_slice-numbers.result.now c.chain_clips-gathered.result.items c.loop-number.number-index c.clips-defined.ensures.value c.clips-defined.ensures.list c.as_slice-numbers.ensures.value c.chain_clips-gathered.ensures c.loop-number-test.true

pub node_offset-requires-clause-node : goal.node_offset-requires-clause-node
node_offset-requires-clause-node c =
    let within = gathered_within c.clips-defined.result.now c.args.list.now c.args.chain c.as_slice-numbers.result.now c.chain_clips-gathered.result.items c.loop-number.number-index c.clips-defined.ensures.value c.clips-defined.ensures.list c.as_slice-numbers.ensures.value c.chain_clips-gathered.ensures c.loop-number-test.true in
    let is = subst (IsClip (length c.args.list.now.nodes + 1)) (sym c.index-defined-number.is) (clip_within c.clips-defined.result.now c.args.list.now _ c.index-defined-number.result c.clips-defined.ensures.value c.clips-defined.ensures.list within) in
    omega (arith, is.node.defined)

pub placed-placed-requires-clause-clip : goal.placed-placed-requires-clause-clip
placed-placed-requires-clause-clip c =
    let within = gathered_within c.clips-defined.result.now c.args.list.now c.args.chain c.as_slice-numbers.result.now c.chain_clips-gathered.result.items c.loop-number.number-index c.clips-defined.ensures.value c.clips-defined.ensures.list c.as_slice-numbers.ensures.value c.chain_clips-gathered.ensures c.loop-number-test.true in
    let is = subst (IsClip (length c.args.list.now.nodes + 1)) (sym c.index-defined-number.is) (clip_within c.clips-defined.result.now c.args.list.now _ c.index-defined-number.result c.clips-defined.ensures.value c.clips-defined.ensures.list within) in
    clip_of_more (length c.args.list.now.nodes + 1) 65535 c.index-defined-number.result (few_nodes c.args.list.now c.clips-defined.ensures.list) is

pub loop-number-preserved : goal.loop-number-preserved
loop-number-preserved c =
    let within = gathered_within c.clips-defined.result.now c.args.list.now c.args.chain c.as_slice-numbers.result.now c.chain_clips-gathered.result.items c.loop-number.number-index c.clips-defined.ensures.value c.clips-defined.ensures.list c.as_slice-numbers.ensures.value c.chain_clips-gathered.ensures c.loop-number-test.true in
    let f = placed_clip (offset_of c.args.list.now.nodes c.args.moves.now c.args.origin) in
    let clip = c.placed-placed.ensures ∙ ap (shifted_clip (clip_of c.index-defined-number.result)) c.node_offset.ensures.value ∙ ap f c.index-defined-number.is in
    cover_more f c.clips-defined.result.now c.as_slice-numbers.result.now c.loop-number.number-index c.index-defined-number.result c.placed-placed.result c.args.outer c.loop-number.cover c.mul-cover.result _ _
    c.loop-number-test.true within clip c.loop-number.invariant (c.mul-cover.ensures.value ∙ ap (product c.loop-number.cover) c.cover.ensures)

pub returns : goal.returns
unfolding placed_clips clips_of
returns c =
    let fits_x = c.ranges.x in
    let fits_y = c.ranges.y in
    let f = placed_clip (offset_of c.args.list.now.nodes c.args.moves.now c.args.origin) in
    let made = made_all f c.clips-defined.result.now c.as_slice-numbers.result.now c.loop-number.number-index _ c.loop-number-test.false refl in
    let same = ap₂ (λ (cs : List ClipDef) ks. map f (members_at cs ks)) c.clips-defined.ensures.value (c.as_slice-numbers.ensures.value ∙ c.chain_clips-gathered.ensures) in
    (simp to_z-of_z at c.loop-number.invariant) ∙ ap (λ cs. chain_coverage cs c.args.outer c.args.x c.args.y) (made ∙ same)
