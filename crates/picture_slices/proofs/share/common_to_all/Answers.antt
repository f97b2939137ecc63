use Rattle.slice_rules.specs.Shared.{may_share}
use Rattle.picture_slices.proofs.Sharing.{first_is_top, sharable_small, counted_all}
use Rattle.picture_slices.proofs.share.common_to_all.Goals as goal

pub common_to_others-requires-clause-most : goal.common_to_others-requires-clause-most
common_to_others-requires-clause-most c =
    let parts = c.in-Some.ensures.cases in
    let is = first_is_top c.args.tops.now c.in-Some.others.now c.in-Some.first.now parts.0 c.requires in
    sharable_small (may_share c.args.home) c.in-Some.first.now c.sharable.result is c.sharable.ensures

pub returns-in-Some : goal.returns-in-Some
returns-in-Some c =
    let parts = c.in-Some.ensures.cases in
    counted_all (may_share c.args.home) c.args.tops.now c.in-Some.others.now c.in-Some.first.now c.sharable.result c.common_to_others.result parts.0 c.sharable.ensures c.common_to_others.ensures
