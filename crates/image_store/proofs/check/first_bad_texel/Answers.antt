use Rattle.std.proofs.Common.{sym, ◌∙◌, arith}
use Rattle.image_store.proofs.Checking.{checked_more, bad_here, bad_end, pixels_read}
use Rattle.image_store.proofs.check.first_bad_texel.Goals as goal

pub returns-then-not-is_sound_texel-clause-value : goal.returns-then-not-is_sound_texel-clause-value
returns-then-not-is_sound_texel-clause-value c = bad_here c.args.number c.loop-i.i c.args.bytes.now (omega arith) (sym c.is_sound_texel.ensures.value ∙ c.if-not-is_sound_texel.true) ∙ c.loop-i.invariant.rest

pub loop-i-preserved : goal.loop-i-preserved
loop-i-preserved c = checked_more c.args.number c.loop-i.i c.args.bytes.now (omega arith) c.loop-i.invariant (sym c.is_sound_texel.ensures.value ∙ c.if-not-is_sound_texel.false) c.is_sound_texel.ensures.byte

pub returns-clause-value : goal.returns-clause-value
returns-clause-value c = sym (bad_end c.args.number c.loop-i.i c.args.bytes.now (omega arith)) ∙ c.loop-i.invariant.rest

pub returns-clause-pixels : goal.returns-clause-pixels
returns-clause-pixels c = λ e. pixels_read c.args.bytes.now (λ k h. c.loop-i.invariant.front k (omega arith))
