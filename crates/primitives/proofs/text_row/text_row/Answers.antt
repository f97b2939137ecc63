use Rattle.std.proofs.Common.{◌≡◌, take, arith}
use Rattle.std.proofs.lemmas.Int.{to_z-of_z}
use Rattle.std.proofs.lemmas.List.{get_or_default, take_all}
use Rattle.primitives.proofs.Rows.{glyph_more}
use Rattle.primitives.proofs.text_row.text_row.Goals as goal

pub loop-g-preserved : goal.loop-g-preserved
loop-g-preserved c k lt =
    let long = c.loop-g.auto.out in
    glyph_more c.args.store.now c.know_store.ensures c.args.pipeline c.args.font c.args.colour c.requires c.args.glyphs.now c.loop-g.g-index _ c.loop-g-test.true (λ d. get_or_default c.args.glyphs.now c.loop-g.g-index _ d c.loop-g-test.true) c.args.p _ _ _ _
    (c.glyph_use_row.ensures k (omega arith)) (c.loop-g.invariant k lt)

pub returns : goal.returns
returns c i lt =
    let fits_y = c.ranges.y in
    let fits_x0 = c.ranges.x0 in
    let long = c.loop-g.auto.out in
    let test = c.loop-g-test.false in
    let all : take c.loop-g.g-index c.args.glyphs.now ≡ c.args.glyphs.now = take_all c.loop-g.g-index c.args.glyphs.now (omega arith) in
    simp to_z-of_z at (rw all at (c.loop-g.invariant i (omega arith)))
