use Rattle.span_kernels.proofs.Weaving.{first_interleaved, second_interleaved, third_interleaved, fourth_interleaved}
use Rattle.span_kernels.proofs.weave.weave_lanes.Goals as goal

pub returns-clause-first : goal.returns-clause-first
returns-clause-first c = first_interleaved c.args.b c.args.g c.args.r c.args.a c.fits-b.0 c.fits-g.0 c.fits-r.0 c.fits-a.0

pub returns-clause-second : goal.returns-clause-second
returns-clause-second c = second_interleaved c.args.b c.args.g c.args.r c.args.a c.fits-b.0 c.fits-g.0 c.fits-r.0 c.fits-a.0

pub returns-clause-third : goal.returns-clause-third
returns-clause-third c = third_interleaved c.args.b c.args.g c.args.r c.args.a c.fits-b.0 c.fits-g.0 c.fits-r.0 c.fits-a.0

pub returns-clause-fourth : goal.returns-clause-fourth
returns-clause-fourth c = fourth_interleaved c.args.b c.args.g c.args.r c.args.a c.fits-b.0 c.fits-g.0 c.fits-r.0 c.fits-a.0
