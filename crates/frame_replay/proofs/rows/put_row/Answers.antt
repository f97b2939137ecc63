use Rattle.std.proofs.Common.{◌≡◌, ◌+◌, ◌*◌, ◌-◌, ◌++◌, ℕ, List, take, replicate, length, ap, ◌∙◌, arith, rules}
use Rattle.frame_replay.proofs.Weaves.{woven_row, put_behind}
use Rattle.frame_replay.proofs.rows.put_row.Goals as goal

pub returns : goal.returns
returns c =
    let planes = c.args.planes.now in
    let old = c.args.out.now.items in
    let row = c.rows-row.result in
    let is = c.rows-row.ensures in
    let start = c.len-start.result in
    let end = start + 4 * planes.width in
    let filled = c.resize.new.self.items in
    let woven = c.weave_row.new.out in
    let made : filled ≡ take end old ++ replicate (end - length old) 0 = search rules in
    let long : length woven ≡ end - start = search rules in
    put_behind old filled woven start end c.resize.new.self.len (search rules) (omega arith) made long (omega (arith, c.resize.new.self.ok.0))
    ∙ ap (λ (bytes : List ℕ). old ++ bytes) (c.weave_row.ensures ∙ woven_row planes c.args.y row.b.now row.g.now row.r.now row.a.now is.blue is.green is.red is.alpha is.len.0 is.len.1 is.len.2 is.len.3)
