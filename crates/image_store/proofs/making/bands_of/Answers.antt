use Rattle.std.proofs.Common.{◌≡◌, ◌*◌, min, length, ap, sym, ◌∙◌, arith}
use Rattle.blend_rules.specs.Pixels.{pixels}
use Rattle.image_store.specs.Bands.{values}
use Rattle.image_store.specs.Changes.{bad_from, first_bad}
use Rattle.std.proofs.lemmas.List.{length-take-le}
use Rattle.image_store.proofs.Refusals.{below_more}
use Rattle.image_store.proofs.Begun.{part_within, begun_pushed, refused, refuses_on, made_value, made_good, made_image}
use Rattle.image_store.proofs.making.bands_of.Goals as goal

pub returns-in-Err-clause-refused : goal.returns-in-Err-clause-refused
returns-in-Err-clause-refused c =
    refuses_on c.in-Err.error (bad_from (c.loop-k.k * (64 * c.args.w)) (pixels c.split_at.result.0.now)) (first_bad (pixels c.args.bytes.now))
    (λ i e. refused (64 * c.args.w) (c.args.h * c.args.w) c.loop-k.k c.args.bytes.now (values c.loop-k.bands.items) c.loop-k.rest.now c.loop-k.invariant c.min.result (c.min.ensures ∙ ap (λ n. min (length c.loop-k.rest.now) (4 * (64 * n))) c.from-size.ensures) i
    (ap (λ l. bad_from (c.loop-k.k * (64 * c.args.w)) (pixels l)) (sym c.split_at.ensures.front) ∙ e))
    (rw (← c.from-size.ensures) c.in-Err.ensures.refused)

pub loop-k-preserved : goal.loop-k-preserved
loop-k-preserved c =
    begun_pushed (64 * c.args.w) (c.args.h * c.args.w) c.loop-k.k c.args.bytes.now c.loop-k.bands.items c.loop-k.rest.now c.loop-k.invariant c.min.result (c.min.ensures ∙ ap (λ n. min (length c.loop-k.rest.now) (4 * (64 * n))) c.from-size.ensures)
    c.split_at.result.0.now c.split_at.result.1.now c.in-Ok.band c.push.new.self.items c.split_at.ensures.front c.split_at.ensures.back (rw (← c.from-size.ensures) c.in-Ok.ensures.sound) c.in-Ok.ensures.pixels c.in-Ok.ensures.value c.in_ok-push.ensures.items

pub returns-clause-image : goal.returns-clause-image
returns-clause-image c =
    made_image c.args.w c.args.h c.loop-k.k c.args.bytes.now (values c.loop-k.bands.items) c.loop-k.rest.now c.requires.wide.some c.loop-k.invariant (omega arith) c.requires.wide c.requires.high

pub returns-clause-value : goal.returns-clause-value
returns-clause-value c =
    made_value c.args.w c.args.h c.loop-k.k c.args.bytes.now (values c.loop-k.bands.items) c.loop-k.rest.now c.requires.wide.some c.loop-k.invariant (omega arith)

pub returns-clause-sound : goal.returns-clause-sound
returns-clause-sound c =
    made_good c.args.w c.args.h c.loop-k.k c.args.bytes.now (values c.loop-k.bands.items) c.loop-k.rest.now c.requires.wide.some c.loop-k.invariant (omega arith)

pub returns-in-Err-clause-within : goal.returns-in-Err-clause-within
returns-in-Err-clause-within c =
    let part = length-take-le c.min.result c.loop-k.rest.now (omega arith) in
    let long : length c.split_at.result.0.now ≡ c.min.result = ap length c.split_at.ensures.front ∙ part in
    let start : c.loop-k.k * (64 * c.args.w) ≡ c.loop-k.k * (64 * c.from-size.result) = ap (λ n. c.loop-k.k * (64 * n)) (sym c.from-size.ensures) in
    let fits = part_within c.args.w c.args.h c.loop-k.k (length c.loop-k.rest.now) c.min.result (omega arith) c.loop-k.invariant.left (omega arith) in
    below_more _ (c.args.h * c.args.w) c.in-Err.error (omega arith) c.in-Err.ensures.within
