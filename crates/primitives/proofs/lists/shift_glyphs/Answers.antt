use Rattle.std.proofs.Common.{◌<◌, length, set, get_or, pos, None, ap, ◌∙◌, arith}
use Rattle.std.proofs.lemmas.List.{get_or_default}
use Rattle.std.proofs.lemmas.List.Edits.{map_over_more}
use Rattle.primitives.specs.declared.kind.GlyphUse.{GlyphUse}
use Rattle.primitives.specs.Moves.{shifted_glyph}
use Rattle.primitives.proofs.lists.shift_glyphs.Goals as goal

pub loop-g-preserved : goal.loop-g-preserved
loop-g-preserved c =
    let f = λ (g : GlyphUse). shifted_glyph g c.args.by in
    let i = c.loop-g.g-index in
    let long = c.loop-g.auto.glyphs in
    let test = c.loop-g-test.true in
    let within : i < length c.loop-g.glyphs = omega arith in
    let none : GlyphUse = record { glyph = 0; x = pos 0; y = pos 0; generation = None } in
    let item = get_or c.loop-g.glyphs i none in
    ap (set c.loop-g.glyphs i) c.shifted_glyph.ensures
    ∙ map_over_more f c.args.glyphs.now c.loop-g.glyphs i item test c.loop-g.invariant (get_or_default c.loop-g.glyphs i none item within)
