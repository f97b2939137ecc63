use Rattle.std.proofs.Common.{arith, ◌≡◌, ℤ, to_z, of_z, w64, true, false, not, refl, ap}
use Rattle.std.proofs.lemmas.Int.{ints, to_z-of_z}
use Rattle.wr_geom.specs.declared.sides.Radii.{Radii}
use Rattle.clip_masks.proofs.Points.{tips_are, answer_at}
use Rattle.clip_masks.specs.Corners.{IsInward}
use Rattle.clip_masks.proofs.shape.Rounded.keeps_tips.Goals as goal

-- a distance inward keeps its value as a number of 64 bits
kept : (z : ℤ) → IsInward z → to_z w64 (of_z w64 z) ≡ z
kept z h = omega (arith, ints, h.low, h.high)

pub returns-then-excludes : goal.returns-then-excludes
returns-then-excludes c =
    let s = c.args.self.now in
    let o = c.outward_of-outward.result in
    let n = c.radii-radii.result in
    let fits_a = c.ranges.a in
    let fits_b = c.ranges.b in
    let fits_c = c.ranges.c in
    let fits_d = c.ranges.d in
    let is = simp to_z-of_z at (rw c.rect.ensures at c.outward_of-outward.ensures) in
    let tl = answer_at n.tl s.radii.tl _ _ o.left o.top _ true c.excludes.ensures c.if-excludes.true (ap (λ (r : Radii). r.tl) c.radii-radii.ensures.value) (kept o.left is.beside) (kept o.top is.above) in
    ap not (tips_are s c.args.a c.args.b c.args.c c.args.d o true _ _ _ is tl refl refl refl)

pub returns-then-excludes-2 : goal.returns-then-excludes-2
returns-then-excludes-2 c =
    let s = c.args.self.now in
    let o = c.outward_of-outward.result in
    let n = c.radii-radii.result in
    let fits_a = c.ranges.a in
    let fits_b = c.ranges.b in
    let fits_c = c.ranges.c in
    let fits_d = c.ranges.d in
    let is = simp to_z-of_z at (rw c.rect.ensures at c.outward_of-outward.ensures) in
    let tl = answer_at n.tl s.radii.tl _ _ o.left o.top _ false c.excludes.ensures c.if-excludes.false (ap (λ (r : Radii). r.tl) c.radii-radii.ensures.value) (kept o.left is.beside) (kept o.top is.above) in
    let tr = answer_at n.tr s.radii.tr _ _ o.right o.top _ true c.excludes-2.ensures c.if-excludes-2.true (ap (λ (r : Radii). r.tr) c.radii-radii.ensures.value) (kept o.right is.beyond) (kept o.top is.above) in
    ap not (tips_are s c.args.a c.args.b c.args.c c.args.d o false true _ _ is tl tr refl refl)

pub returns-then-excludes-3 : goal.returns-then-excludes-3
returns-then-excludes-3 c =
    let s = c.args.self.now in
    let o = c.outward_of-outward.result in
    let n = c.radii-radii.result in
    let fits_a = c.ranges.a in
    let fits_b = c.ranges.b in
    let fits_c = c.ranges.c in
    let fits_d = c.ranges.d in
    let is = simp to_z-of_z at (rw c.rect.ensures at c.outward_of-outward.ensures) in
    let tl = answer_at n.tl s.radii.tl _ _ o.left o.top _ false c.excludes.ensures c.if-excludes.false (ap (λ (r : Radii). r.tl) c.radii-radii.ensures.value) (kept o.left is.beside) (kept o.top is.above) in
    let tr = answer_at n.tr s.radii.tr _ _ o.right o.top _ false c.excludes-2.ensures c.if-excludes-2.false (ap (λ (r : Radii). r.tr) c.radii-radii.ensures.value) (kept o.right is.beyond) (kept o.top is.above) in
    let br = answer_at n.br s.radii.br _ _ o.right o.bottom _ true c.excludes-3.ensures c.if-excludes-3.true (ap (λ (r : Radii). r.br) c.radii-radii.ensures.value) (kept o.right is.beyond) (kept o.bottom is.below) in
    ap not (tips_are s c.args.a c.args.b c.args.c c.args.d o false false true _ is tl tr br refl)

pub returns : goal.returns
returns c =
    let s = c.args.self.now in
    let o = c.outward_of-outward.result in
    let n = c.radii-radii.result in
    let fits_a = c.ranges.a in
    let fits_b = c.ranges.b in
    let fits_c = c.ranges.c in
    let fits_d = c.ranges.d in
    let is = simp to_z-of_z at (rw c.rect.ensures at c.outward_of-outward.ensures) in
    let tl = answer_at n.tl s.radii.tl _ _ o.left o.top _ false c.excludes.ensures c.if-excludes.false (ap (λ (r : Radii). r.tl) c.radii-radii.ensures.value) (kept o.left is.beside) (kept o.top is.above) in
    let tr = answer_at n.tr s.radii.tr _ _ o.right o.top _ false c.excludes-2.ensures c.if-excludes-2.false (ap (λ (r : Radii). r.tr) c.radii-radii.ensures.value) (kept o.right is.beyond) (kept o.top is.above) in
    let br = answer_at n.br s.radii.br _ _ o.right o.bottom _ false c.excludes-3.ensures c.if-excludes-3.false (ap (λ (r : Radii). r.br) c.radii-radii.ensures.value) (kept o.right is.beyond) (kept o.bottom is.below) in
    let bl = answer_at n.bl s.radii.bl _ _ o.left o.bottom _ c.excludes-4.result c.excludes-4.ensures refl (ap (λ (r : Radii). r.bl) c.radii-radii.ensures.value) (kept o.left is.beside) (kept o.bottom is.below) in
    ap not (tips_are s c.args.a c.args.b c.args.c c.args.d o false false false c.excludes-4.result is tl tr br bl)
