use Rattle.std.proofs.Common.{ℕ, ℤ, ◌≡◌, ◌+◌, ◌-◌, pos, ◌+ℤ◌, ap, ap₂, ◌∙◌, arith, w32, length, take, drop, rules}
use mir.Val.{SFits}
use Rattle.std.proofs.lemmas.Int.{ints, to_z-of_z}
use Rattle.blend_rules.specs.Planes.{channel}
use Rattle.primitives.specs.Colours.{kind_colour}
use Rattle.primitives.proofs.Rows.{part_inside, part_after, pixel_same}
use Rattle.primitives.proofs.row.kind_part.Goals as goal

pub kind_row-requires-clause-first : goal.kind_row-requires-clause-first
kind_row-requires-clause-first c =
    let fits_x0 = c.ranges.x0 in
    let fits_y = c.ranges.y in
    let fits_first : SFits w32 c.pixel_at-first.result = search rules in
    let first = simp to_z-of_z at c.pixel_at-first.ensures in
    pixel_same c.args.rect (to_z-of_z w32 c.pixel_at-first.result fits_first ∙ first) (to_z-of_z w32 c.args.y fits_y) (c.requires.pixels c.args.from (omega arith) c.requires.some)

pub kind_row-requires-clause-pixels : goal.kind_row-requires-clause-pixels
kind_row-requires-clause-pixels c i lt =
    let fits_x0 = c.ranges.x0 in
    let fits_y = c.ranges.y in
    let fits_first : SFits w32 c.pixel_at-first.result = search rules in
    let first = simp to_z-of_z at c.pixel_at-first.ensures in
    let within = c.requires.within in
    let long : length (take (c.args.to - c.args.from) (drop c.args.from c.args.out.now)) ≡ c.args.to - c.args.from = search rules in
    let here : (c.args.x0 +ℤ pos c.args.from) +ℤ pos i ≡ c.args.x0 +ℤ pos (c.args.from + i) = omega (arith, ints) in
    pixel_same c.args.rect (ap (λ (x : ℤ). x +ℤ pos i) (to_z-of_z w32 c.pixel_at-first.result fits_first ∙ first) ∙ here) (to_z-of_z w32 c.args.y fits_y) (c.requires.pixels (c.args.from + i) (omega arith) (omega arith))

pub returns-clause-inside : goal.returns-clause-inside
returns-clause-inside c k low high =
    let fits_x0 = c.ranges.x0 in
    let fits_y = c.ranges.y in
    let fits_first : SFits w32 c.pixel_at-first.result = search rules in
    let first = simp to_z-of_z at c.pixel_at-first.ensures in
    let i : ℕ = k - c.args.from in
    let within = c.requires.within in
    let long : length c.kind_row.new.out ≡ c.args.to - c.args.from = search rules in
    let here : (c.args.x0 +ℤ pos c.args.from) +ℤ pos i ≡ c.args.x0 +ℤ pos k = omega (arith, ints) in
    part_inside c.args.from (c.args.to - c.args.from) c.args.out.now c.kind_row.new.out k (omega arith) long low (omega arith)
    ∙ c.kind_row.ensures i (omega arith)
    ∙ ap₂ (λ (x y : ℤ). channel c.args.p (kind_colour c.args.store.now c.args.rect c.args.kind.now x y)) (ap (λ (x : ℤ). x +ℤ pos i) (to_z-of_z w32 c.pixel_at-first.result fits_first ∙ first) ∙ here) (to_z-of_z w32 c.args.y fits_y)

pub returns-clause-after : goal.returns-clause-after
returns-clause-after c k low =
    let within = c.requires.within in
    let some = c.requires.some in
    let long : length c.kind_row.new.out ≡ c.args.to - c.args.from = search rules in
    part_after c.args.from (c.args.to - c.args.from) c.args.out.now c.kind_row.new.out k (omega arith) long (omega arith)
