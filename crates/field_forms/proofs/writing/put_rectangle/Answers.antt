use Rattle.std.proofs.Common.{rules, append_assoc}
use Rattle.std.proofs.lemmas.Int.{to_z-of_z}
use Rattle.std.proofs.lemmas.List.{append-nil}
use Rattle.std.proofs.lemmas.Result.{IfOk-equal}
use Rattle.field_forms.specs.Spelling.{rectangle_bytes}
use Rattle.field_forms.proofs.writing.put_rectangle.Goals as goal

pub returns : goal.returns
unfolding rectangle_bytes
returns c = search (rules, to_z-of_z, IfOk-equal, append_assoc, append-nil)
