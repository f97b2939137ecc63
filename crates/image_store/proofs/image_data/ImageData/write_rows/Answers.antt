use Rattle.std.proofs.Common.{◌≡◌, ◌+◌, ◌*◌, ◌↔◌, take, drop, subst, sym, ap, ◌∙◌, arith}
use Rattle.blend_rules.specs.Pixels.{pixels}
use Rattle.image_store.specs.Bands.{HasPixels, with_row}
use Rattle.image_store.proofs.Patching.{AreRowsIn, row_in, max_split, max_join, patched_all, sound_all}
use Rattle.image_store.proofs.image_data.ImageData.write_rows.Goals as goal

pub loop-row-preserved : goal.loop-row-preserved
loop-row-preserved c =
    let p = c.args.patch in
    let w = c.in_ok-write_row.ensures in
    let line : c.split_at.result.0.now ≡ take (4 * p.w) c.loop-row.rest.now = c.split_at.ensures.front ∙ ap (λ n. take (4 * n) c.loop-row.rest.now) c.from-size.ensures in
    let left : c.split_at.result.1.now ≡ drop (4 * p.w) c.loop-row.rest.now = c.split_at.ensures.back ∙ ap (λ n. drop (4 * n) c.loop-row.rest.now) c.from-size.ensures in
    subst (λ r. AreRowsIn p c.args.self.now c.args.bytes.now (c.loop-row.row + 1) c.write_row.new.self r c.max-over.result) (sym left)
    (row_in p c.args.self.now c.args.bytes.now c.loop-row.row c.loop-row.self c.loop-row.rest.now c.loop-row.over c.loop-row.invariant c.requires.texels c.requires.right c.requires.below c.loop-row-test.true
    c.write_row.new.self c.in_ok-write_row.field-0 c.max-over.result w.wide w.high
    (λ h. w.row (subst (λ b. HasPixels (pixels b)) (sym line) h) ∙ ap (λ b. with_row p.x (p.y + c.loop-row.row) (pixels b) c.loop-row.self) line)
    (subst (λ b. (c.in_ok-write_row.field-0 ≡ 0) ↔ HasPixels (pixels b)) line w.over)
    (λ e. max_split c.loop-row.over c.in_ok-write_row.field-0 (sym c.max-over.ensures ∙ e))
    (λ e f. c.max-over.ensures ∙ max_join c.loop-row.over c.in_ok-write_row.field-0 e f))

pub returns : goal.returns
returns c =
    let e : c.loop-row.row ≡ c.args.patch.h = omega arith in
    let d : AreRowsIn c.args.patch c.args.self.now c.args.bytes.now c.args.patch.h c.loop-row.self c.loop-row.rest.now c.loop-row.over =
    subst (λ n. AreRowsIn c.args.patch c.args.self.now c.args.bytes.now n c.loop-row.self c.loop-row.rest.now c.loop-row.over) e c.loop-row.invariant in
    record {
      patched = λ p. patched_all c.args.patch c.args.self.now c.loop-row.self c.args.bytes.now c.loop-row.rest.now (d.patched p);
      over = ((λ z. sound_all c.args.patch c.args.bytes.now c.requires.texels (d.sound z)), d.exact);
    }
