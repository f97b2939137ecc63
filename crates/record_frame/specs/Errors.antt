-- How an error of reading or of an answer ends a run.
use Rattle.record_frame.specs.declared.error.ReadError.{ReadError}
use Rattle.record_frame.specs.declared.error.ReadError.TheVariants as reading
use Rattle.record_frame.specs.declared.error.AnswerError.{AnswerError}
use Rattle.record_frame.specs.declared.error.AnswerError.TheVariants as answering
use Rattle.record_frame.specs.declared.error.RunError.{RunError}
use Rattle.record_frame.specs.declared.error.RunError.TheVariants.{BrokenInput, Refused, ReadFailed, OutOfMemory}

abbrev pub unread_input : ReadError → RunError
unread_input reading.Broken = BrokenInput
unread_input reading.Failed = ReadFailed
unread_input reading.NoMemory = OutOfMemory

abbrev pub unanswered_input : AnswerError → RunError
unanswered_input (answering.Refused fault) = Refused fault
unanswered_input answering.NoMemory = OutOfMemory
