use Rattle.std.proofs.Common.{◌^◌, subst}
use Rattle.txn_format.specs.Checks.{EndsWithin}
use Rattle.txn_format.specs.Models.{op_model}
use Rattle.txn_format.specs.declared.op.Op.{Op}
use Rattle.scene_state.proofs.Placing.{list_ends}
use Rattle.scene_state.proofs.draft.Draft.apply.Goals as goal

pub set_list-requires-clause-at : goal.set_list-requires-clause-at
set_list-requires-clause-at c =
    let ends = subst (λ (op : Op). EndsWithin (2 ^ 26) (record { at = c.args.placed.at; op = op_model op })) c.in-SetList.is c.requires.within in
    list_ends c.args.placed.at c.in-SetList.epoch c.in-SetList.bytes.now ends

pub returns-in_ok-delete_image-in-DeleteImage : goal.returns-in_ok-delete_image-in-DeleteImage
returns-in_ok-delete_image-in-DeleteImage c = rw c.in-DeleteImage.is (c.in_ok-delete_image-in-DeleteImage.ensures c.args.gens.now)
