use Rattle.clip_masks.proofs.Chains.{cut_inside, within_cut}
use Rattle.tile_raster.specs.Spans.{x_of}
use Rattle.tile_raster.proofs.opaque.take_part.Goals as goal

pub take_strip-requires-clause-inside : goal.take_strip-requires-clause-inside
take_strip-requires-clause-inside c k h =
    let p = c.args.noted.primitive.now in
    let first = c.args.strip.first in
    cut_inside p.rect p.clips (x_of first k) first.y (c.requires.shown k h)

pub take_strip-requires-clause-whole : goal.take_strip-requires-clause-whole
take_strip-requires-clause-whole c k h =
    let p = c.args.noted.primitive.now in
    let first = c.args.strip.first in
    within_cut p.rect p.clips 255 (x_of first k) first.y (c.requires.noted.whole c.if-noted.true) (c.requires.shown k h)

pub take_runs-requires-clause-inside : goal.take_runs-requires-clause-inside
take_runs-requires-clause-inside c k h =
    let p = c.args.noted.primitive.now in
    let first = c.args.strip.first in
    cut_inside p.rect p.clips (x_of first k) first.y (c.requires.shown k h)
