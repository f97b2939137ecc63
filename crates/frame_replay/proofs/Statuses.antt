-- Exit statuses.
use Rattle.std.proofs.Common.{◌≡◌, ℕ, IfErr, Result, Ok, Err}
use Rattle.wr_io.specs.declared.fault.Fault.{Fault}
use Rattle.record_frame.specs.Answers.{AnswerRule, MayRefuse}
use Rattle.record_frame.specs.Steps.{RunCause}
use Rattle.record_frame.specs.declared.error.RunError.{RunError}
use Rattle.record_frame.specs.declared.error.RunError.TheVariants.{BrokenInput, Refused, ReadFailed, WriteFailed, OutOfMemory}
use Rattle.frame_replay.specs.Outcome.{status_of}

-- status 6 comes where an entry may be refused
pub refused_from : {R S : Type 0} (rule : AnswerRule R S) (a b c d : ℕ) (ended : Result (Unit {0}) RunError) → IfErr ended (RunCause rule a b c d) → status_of ended ≡ 6 → (fault : Fault) × MayRefuse rule fault
refused_from rule a b c d (Ok x) cause e = cc
refused_from rule a b c d (Err BrokenInput) cause e = cc
refused_from rule a b c d (Err (Refused fault)) cause e = (fault, cause.2)
refused_from rule a b c d (Err ReadFailed) cause e = cc
refused_from rule a b c d (Err WriteFailed) cause e = cc
refused_from rule a b c d (Err OutOfMemory) cause e = cc
