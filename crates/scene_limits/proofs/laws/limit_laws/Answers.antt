use Rattle.scene_limits.proofs.Within.{no_fault, nodes_in_reach, iframes_in_reach}
use Rattle.scene_limits.proofs.laws.limit_laws.Goals as goal

pub returns-clause-within : goal.returns-clause-within
returns-clause-within c = no_fault

pub returns-clause-nodes : goal.returns-clause-nodes
returns-clause-nodes c = nodes_in_reach

pub returns-clause-iframes : goal.returns-clause-iframes
returns-clause-iframes c = iframes_in_reach
