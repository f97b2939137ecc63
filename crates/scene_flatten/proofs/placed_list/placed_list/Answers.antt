use Rattle.std.proofs.Common.{◌∙◌, sym, ap, option_copied}
use Rattle.scene_flatten.proofs.Opening.{has_near, near_origin}
use Rattle.scene_flatten.proofs.placed_list.placed_list.Goals as goal

pub offsets-requires : goal.offsets-requires
offsets-requires c =
    near_origin c.args.pipeline c.args.origin c.list-list.result.now c.moves-moves.result.now
    (has_near c.args.pipelines.now c.args.pipeline c.args.origin c.get-has.result.now c.in-Some.listed.now c.list-list.result.now c.moves-moves.result.now c.get-has.ensures.fit c.get-has.ensures.value
    (sym c.listed.ensures ∙ ap option_copied c.in-Some.is) c.list-list.ensures c.moves-moves.ensures c.requires)

pub invariant_of-result : goal.invariant_of-result
invariant_of-result c = (
  has_near c.args.pipelines.now c.args.pipeline c.args.origin c.get-has.result.now c.in-Some.listed.now c.list-list.result.now c.moves-moves.result.now c.get-has.ensures.fit c.get-has.ensures.value
      (sym c.listed.ensures ∙ ap option_copied c.in-Some.is) c.list-list.ensures c.moves-moves.ensures c.requires,
  record { table = c.in_ok-points.ensures.table; count = c.in_ok-points.ensures.len; near = c.in_ok-points.ensures.near },
)
