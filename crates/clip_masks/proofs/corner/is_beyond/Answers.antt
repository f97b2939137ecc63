use Rattle.std.proofs.Common.{arith, ◌≤◌, ◌*◌, ◌^◌}
use Rattle.std.proofs.Math.Nat.{mul-le-mul}
use Rattle.clip_masks.proofs.corner.is_beyond.Goals as goal

pub overflow_add-result : goal.overflow_add-result
overflow_add-result c =
    let wide : c.args.dx ≤ 2 ^ 15 = omega arith in
    let high : c.args.dy ≤ 2 ^ 15 = omega arith in
    let x : c.args.dx * c.args.dx ≤ 2 ^ 15 * 2 ^ 15 = mul-le-mul wide wide in
    let y : c.args.dy * c.args.dy ≤ 2 ^ 15 * 2 ^ 15 = mul-le-mul high high in
    let w : c.args.rx * c.args.rx ≤ 2 ^ 15 * 2 ^ 15 = mul-le-mul c.requires.across c.requires.across in
    let h : c.args.ry * c.args.ry ≤ 2 ^ 15 * 2 ^ 15 = mul-le-mul c.requires.down c.requires.down in
    let first : c.args.dx * c.args.dx * (c.args.ry * c.args.ry) ≤ 2 ^ 15 * 2 ^ 15 * (2 ^ 15 * 2 ^ 15) = mul-le-mul x h in
    let second : c.args.dy * c.args.dy * (c.args.rx * c.args.rx) ≤ 2 ^ 15 * 2 ^ 15 * (2 ^ 15 * 2 ^ 15) = mul-le-mul y w in
    omega arith
