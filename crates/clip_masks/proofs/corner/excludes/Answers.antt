use Rattle.std.proofs.Common.{arith, ◌≡◌, ◌+ℤ◌, ◌*ℤ◌, ◌*◌, pos, to_z, of_z, w64}
use Rattle.std.proofs.lemmas.Int.{ints}
use Rattle.clip_masks.proofs.Points.{excludes_far, gt_is}
use Rattle.clip_masks.proofs.corner.excludes.Goals as goal

pub returns : goal.returns
returns c =
    let r = c.args.radii in
    let x : to_z w64 (of_z w64 (to_z w64 (of_z w64 c.args.across) +ℤ to_z w64 (of_z w64 (pos 8 *ℤ to_z w64 r.0)))) ≡ c.args.across +ℤ pos (8 * r.0) = omega (arith, ints) in
    let y : to_z w64 (of_z w64 (to_z w64 (of_z w64 c.args.down) +ℤ to_z w64 (of_z w64 (pos 8 *ℤ to_z w64 r.1)))) ≡ c.args.down +ℤ pos (8 * r.1) = omega (arith, ints) in
    let across = gt_is (c.args.across +ℤ pos (8 * r.0)) (pos 0) (rw x at c.if-dx-le0.false) in
    let down = gt_is (c.args.down +ℤ pos (8 * r.1)) (pos 0) (rw y at c.if-dy-le0.false) in
    excludes_far r (c.args.across +ℤ pos (8 * r.0)) (c.args.down +ℤ pos (8 * r.1)) _ _ _ across down (omega (arith, ints)) (omega (arith, ints)) c.is_beyond.ensures
