use Rattle.std.proofs.Common.{◌≡◌, ℕ, List, pos, ◌+ℤ◌, get_or, take, sym, ap, ◌∙◌, arith}
use Rattle.std.proofs.lemmas.Int.{to_z-of_z}
use Rattle.std.proofs.lemmas.Grind.{common_steps}
use Rattle.blend_rules.specs.Colour.{product}
use Rattle.clip_masks.specs.Coverage.{coverage, chain_coverage}
use Rattle.clip_masks.specs.declared.clip.Clip.{Clip}
use Rattle.clip_masks.proofs.Chains.{chain_none, chain_more, take_all}
use Rattle.clip_masks.proofs.chain.cover_row.Goals as goal

pub loop-clip-init : goal.loop-clip-init
loop-clip-init c k h =
    let filled : get_or c.fill.new.self k 0 ≡ c.args.outer = grind (arith, common_steps) in
    filled ∙ sym (chain_none c.args.outer _ _)

pub loop-clip-preserved : goal.loop-clip-preserved
loop-clip-preserved c k h =
    let fits_x0 = c.ranges.x0 in
    let fits_y = c.ranges.y in
    let i = c.loop-clip.clip-index in
    let clips = c.args.clips.now in
    let item = c.clip-item.result in
    let x = c.args.x0 +ℤ pos k in
    let y = c.args.y in
    let scaled = simp to_z-of_z at (c.scale_row.ensures k h) in
    let was = simp to_z-of_z at (c.loop-clip.invariant k (omega arith)) in
    let more = chain_more clips i item c.args.outer x y c.loop-clip-test.true in
    simp to_z-of_z (scaled ∙ ap (λ (n : ℕ). product n (coverage item x y)) was ∙ ap (λ (d : Clip). product (chain_coverage (take i clips) c.args.outer x y) (coverage d x y)) c.clip-item.is ∙ sym more)

pub returns : goal.returns
returns c k h =
    let fits_x0 = c.ranges.x0 in
    let fits_y = c.ranges.y in
    let all : take c.loop-clip.clip-index c.args.clips.now ≡ c.args.clips.now = take_all c.loop-clip.clip-index c.args.clips.now c.loop-clip-test.false in
    (simp to_z-of_z at (c.loop-clip.invariant k h)) ∙ ap (λ (cs : List Clip). chain_coverage cs c.args.outer (c.args.x0 +ℤ pos k) c.args.y) all
