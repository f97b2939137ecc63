use Rattle.frame_replay.proofs.Refusals.{first_fault, scene_fault, list_fault, accepted_answer}
use Rattle.frame_replay.proofs.laws.refusal_laws.Goals as goal

pub returns-clause-payloads : goal.returns-clause-payloads
returns-clause-payloads c = first_fault

pub returns-clause-scenes : goal.returns-clause-scenes
returns-clause-scenes c = scene_fault

pub returns-clause-lists : goal.returns-clause-lists
returns-clause-lists c = list_fault

pub returns-clause-accepted : goal.returns-clause-accepted
returns-clause-accepted c = accepted_answer
