use Rattle.std.proofs.Common.{sym}
use Rattle.std.proofs.lemmas.Int.{to_z-of_z}
use Rattle.std.proofs.lemmas.Bool.{not-true, not-false}
use Rattle.clip_masks.specs.Corners.{HasPixel}
use Rattle.clip_masks.proofs.Points.{has_pixel, samples_beside, samples_whole, samples_gone, samples_by_rows}
use Rattle.clip_masks.proofs.shape.Rounded.samples.Goals as goal

pub returns-then-not-contains-clause-value : goal.returns-then-not-contains-clause-value
returns-then-not-contains-clause-value c =
    let fits_x = c.ranges.x in
    let fits_y = c.ranges.y in
    let miss = simp to_z-of_z at (rw c.rect.ensures at c.if-not-contains.ensures) in
    sym (samples_beside c.args.self.now c.args.x c.args.y (sym miss))

pub keeps_box-requires-clause-pixel : goal.keeps_box-requires-clause-pixel
keeps_box-requires-clause-pixel c = has_pixel _ _ _ (sym (rw c.rect.ensures at c.if-not-contains.ensures))

pub keeps_box-requires-2-clause-pixel : goal.keeps_box-requires-2-clause-pixel
keeps_box-requires-2-clause-pixel c = has_pixel _ _ _ (sym (rw c.rect.ensures at c.if-not-contains.ensures))

pub kept_of_four-requires-clause-pixel : goal.kept_of_four-requires-clause-pixel
kept_of_four-requires-clause-pixel c = has_pixel _ _ _ (sym (rw c.rect.ensures at c.if-not-contains.ensures))

pub kept_of_four-requires-2-clause-pixel : goal.kept_of_four-requires-2-clause-pixel
kept_of_four-requires-2-clause-pixel c = has_pixel _ _ _ (sym (rw c.rect.ensures at c.if-not-contains.ensures))

pub kept_of_four-requires-3-clause-pixel : goal.kept_of_four-requires-3-clause-pixel
kept_of_four-requires-3-clause-pixel c = has_pixel _ _ _ (sym (rw c.rect.ensures at c.if-not-contains.ensures))

pub kept_of_four-requires-4-clause-pixel : goal.kept_of_four-requires-4-clause-pixel
kept_of_four-requires-4-clause-pixel c = has_pixel _ _ _ (sym (rw c.rect.ensures at c.if-not-contains.ensures))

pub returns-then-keeps_box-clause-value : goal.returns-then-keeps_box-clause-value
returns-then-keeps_box-clause-value c =
    let fits_x = c.ranges.x in
    let fits_y = c.ranges.y in
    let pixel : HasPixel c.args.self.now.rect c.args.x c.args.y = has_pixel _ _ _ (sym (simp to_z-of_z at (rw c.rect.ensures at c.if-not-contains.ensures))) in
    sym (samples_whole c.args.self.now c.args.x c.args.y pixel (not-true _ (sym (simp to_z-of_z at c.if-keeps_box.ensures))))

pub returns-then-not-keeps_box-clause-value : goal.returns-then-not-keeps_box-clause-value
returns-then-not-keeps_box-clause-value c =
    let fits_x = c.ranges.x in
    let fits_y = c.ranges.y in
    let pixel : HasPixel c.args.self.now.rect c.args.x c.args.y = has_pixel _ _ _ (sym (simp to_z-of_z at (rw c.rect.ensures at c.if-not-contains.ensures))) in
    sym (samples_gone c.args.self.now c.args.x c.args.y pixel (not-false _ (sym (simp to_z-of_z at c.if-not-keeps_box.ensures))))

pub returns-clause-value : goal.returns-clause-value
returns-clause-value c =
    let fits_x = c.ranges.x in
    let fits_y = c.ranges.y in
    samples_by_rows c.args.self.now c.args.x c.args.y _ _ _ _ (simp to_z-of_z at c.kept_of_four.ensures.value) (simp to_z-of_z at c.kept_of_four-2.ensures.value) (simp to_z-of_z at c.kept_of_four-3.ensures.value) (simp to_z-of_z at c.kept_of_four-4.ensures.value)
