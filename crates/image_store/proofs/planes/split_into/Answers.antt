use Rattle.blend_rules.specs.declared.plane.Plane.TheVariants.{B, G, R, A}
use Rattle.image_store.proofs.Bands.{cut_alpha}
use Rattle.image_store.proofs.Checking.{pixels_read, read_pixels}
use Rattle.image_store.proofs.Splitting.{split_part}
use Rattle.image_store.proofs.planes.split_into.Goals as goal
use Rattle.std.proofs.Common.{◌*◌, sym, ◌∙◌, arith}
use Rattle.blend_rules.specs.Colour.{colour_from}

pub returns-clause-blue : goal.returns-clause-blue
returns-clause-blue c = split_part B c.args.bytes.now c.args.at c.args.b.now c.split_texels.new.b c.requires.room (omega arith) (λ i h. c.split_texels.ensures.blue i (omega arith))

pub returns-clause-green : goal.returns-clause-green
returns-clause-green c = split_part G c.args.bytes.now c.args.at c.args.g.now c.split_texels.new.g (omega arith) (omega arith) (λ i h. c.split_texels.ensures.green i (omega arith))

pub returns-clause-red : goal.returns-clause-red
returns-clause-red c = split_part R c.args.bytes.now c.args.at c.args.r.now c.split_texels.new.r (omega arith) (omega arith) (λ i h. c.split_texels.ensures.red i (omega arith))

pub returns-clause-alpha : goal.returns-clause-alpha
returns-clause-alpha c = split_part A c.args.bytes.now c.args.at c.args.a.now c.split_texels.new.a (omega arith) (omega arith) (λ i h. c.split_texels.ensures.alpha i (omega arith) ∙ sym (cut_alpha (colour_from c.args.bytes.now (4 * i))))

pub returns-clause-byte : goal.returns-clause-byte
returns-clause-byte c = λ i h. c.split_texels.ensures.byte i (omega arith)

pub returns-clause-over : goal.returns-clause-over
returns-clause-over c = (
  (λ e. pixels_read c.args.bytes.now (λ k h. c.split_texels.ensures.sound e k (omega arith))),
  (λ p. c.split_texels.ensures.exact (λ k h. read_pixels c.args.bytes.now p k (omega arith))),
)
