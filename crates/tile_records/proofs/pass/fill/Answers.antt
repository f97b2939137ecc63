use Rattle.std.proofs.Common.{◌∙◌, ap, length, ◌<◌, subst, sym}
use Rattle.std.proofs.lemmas.List.{length-set}
use Rattle.tile_records.specs.Passing.{views, keys_of_records}
use Rattle.tile_records.proofs.Enters.{list_step, told_step, more_step}
use Rattle.tile_records.proofs.pass.fill.Goals as goal

pub loop-depth-preserved : goal.loop-depth-preserved
loop-depth-preserved c =
    let i = c.loop-depth.invariant in
    let e = c.in_ok-append_id.ensures in
    let f = c.in_ok-append.ensures in
    let within = c.loop-depth-test.true in
    record {
      list = list_step (keys_of_records c.loop-depth.records.items) (keys_of_records c.append_id.new.records.items) c.args.tile c.loop-depth.depth c.args.groups.now i.there within e ∙ i.list;
      there = subst (λ n. c.args.tile < n) (sym (ap length e ∙ length-set (keys_of_records c.loop-depth.records.items) c.args.tile _)) i.there;
      sides = ap length f ∙ length-set (views c.loop-depth.reached.items) c.loop-depth.depth _ ∙ i.sides;
      more = λ j k h. more_step (views c.loop-depth.reached.items) (views c.append.new.lists.items) c.loop-depth.depth c.args.tile j k f (i.more j k h);
      told = told_step (views c.loop-depth.reached.items) (views c.append.new.lists.items) c.args.from c.loop-depth.depth c.args.tile (subst (λ n. c.loop-depth.depth < n) (sym i.sides) within) f i.told;
    }
