use Rattle.std.proofs.Common.{◌<◌, ◌^◌, pos, ◌+ℤ◌, ◌-ℤ◌, get_or, None, rules}
use Rattle.blend_rules.specs.Planes.{channel}
use Rattle.primitives.proofs.Rows.{channel_byte, row_beside, coverage_none}
use Rattle.primitives.proofs.text_row.glyph_row.Goals as goal

pub returns-in_default : goal.returns-in_default
returns-in_default c i lt =
    let byte : get_or c.args.out.now i 0 < 2 ^ 8 = search rules in
    rw c.in_default.is (row_beside None (channel c.args.p c.args.colour) c.args.colour.a (c.args.x0 +ℤ pos i -ℤ c.args.at.x) (c.args.y -ℤ c.args.at.y) (get_or c.args.out.now i 0) (channel_byte c.args.p c.args.colour c.requires) c.requires.byte byte (coverage_none _ _))
