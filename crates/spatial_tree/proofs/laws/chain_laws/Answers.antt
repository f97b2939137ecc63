use Rattle.std.proofs.Common.{length}
use Rattle.spatial_tree.proofs.Chains.{clip_numbers-few, clip_numbers-count, clips_none, clips_after, clip_each, clips_are}
use Rattle.spatial_tree.proofs.laws.chain_laws.Goals as goal

pub returns-clause-none : goal.returns-clause-none
returns-clause-none c = clips_none

pub returns-clause-parents : goal.returns-clause-parents
returns-clause-parents c = clips_after

pub returns-clause-each : goal.returns-clause-each
returns-clause-each c = clip_each

pub returns-clause-few : goal.returns-clause-few
returns-clause-few c l chain is w = clip_numbers-few (length l.clips) l.chains chain is.chains w

pub returns-clause-counted : goal.returns-clause-counted
returns-clause-counted c l chain is w = clip_numbers-count l.chains chain is.chains.parents w

pub returns-clause-clips : goal.returns-clause-clips
returns-clause-clips c = clips_are
