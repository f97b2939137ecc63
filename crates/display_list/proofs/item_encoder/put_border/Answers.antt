use Rattle.std.proofs.Common.{rules, append_assoc}
use Rattle.std.proofs.lemmas.List.{append-nil}
use Rattle.std.proofs.lemmas.Result.{IfOk-equal}
use Rattle.display_list.proofs.item_encoder.put_border.Goals as goal

pub returns : goal.returns
returns c = search (rules, IfOk-equal, append_assoc, append-nil)
