use Rattle.std.proofs.Common.{[], ◌∷◌, length, length-append, map, ap, ◌∙◌, arith}
use Rattle.std.proofs.lemmas.List.Elements.{All-push}
use Rattle.primitives.specs.declared.entry.Top.{Top}
use Rattle.slice_rules.specs.Homes.{Home}
use Rattle.slice_rules.specs.Keys.{key_after}
use Rattle.slice_rules.specs.Runs.{Run}
use Rattle.picture_slices.specs.Facts.{HaveGoodEntries}
use Rattle.picture_slices.specs.declared.slice.Slice.{Slice}
use Rattle.picture_slices.proofs.Keyed.{slice_more}
use Rattle.picture_slices.proofs.slice.sliced.Goals as goal

pub loop-run-preserved : goal.loop-run-preserved
loop-run-preserved c =
    let rs = c.loop-run.yielded in
    let r = c.in-Some.run' in
    let s = c.in_ok-slice.field-0 in
    let put = c.in_ok-push.ensures.items in
    let more = ap length put ∙ length-append c.loop-run.slices.items (s ∷ []) in
    let steps = c.in-Some.ensures.steps.1 in
    let room = c.loop-run.invariant.room in
    let named =
    c.next_key-key.ensures ∙ ap (λ (h : Home). key_after (map (λ (q : Slice). q.key.scroll) c.as_slice.result.now) h) (ap (λ (q : Run Top). q.home) c.run.view_is) in
    record {
      value =
          slice_more c.args.view rs r c.loop-run.slices.items c.as_slice.result.now c.push.new.self.items c.next_key-key.result s c.loop-run.invariant.value c.as_slice.ensures.value named c.in_ok-slice.ensures.value put;
      good = All-push (λ (q : Run Top). HaveGoodEntries q.members) rs r c.loop-run.invariant.good c.in_ok-slice.ensures.good;
      room = omega (arith, more, steps, room);
    }
