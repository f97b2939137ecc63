use Rattle.std.proofs.lemmas.Int.{to_z-of_z}
use Rattle.primitives.proofs.image_row.row_of_image.Goals as goal

pub returns-in-Some : goal.returns-in-Some
returns-in-Some c i lt =
    let fits_x0 = c.ranges.x0 in
    let fits_y = c.ranges.y in
    rw c.in-Some.is (simp to_z-of_z at (c.image_row.ensures i lt))
