use Rattle.std.proofs.Common.{length, subst, sym}
use Rattle.std.proofs.lemmas.List.Elements.{All-nil}
use Rattle.blend_rules.specs.declared.mode.Mode.TheVariants.{Normal}
use Rattle.clip_masks.specs.declared.clip.Clip.{Clip}
use Rattle.primitives.specs.declared.entry.Entry.TheVariants as entry
use Rattle.primitives.specs.Tops.{IsCloseRect, AreCloseClips}
use Rattle.slice_tests.proofs.Made.{four, two_solids}
use Rattle.slice_tests.proofs.tests.made.group_of.Goals as goal

pub returns : goal.returns
returns c =
    let push = entry.Push 200 Normal c.in_ok-clips_of.field-0 in
    let all =
    four c.new-entries.result c.push-2.new.self c.push-3.new.self c.push-4.new.self c.push-5.new.self push c.in_ok-first.first c.in_ok-second.second entry.Pop c.new-entries.ensures c.in_ok-push.ensures.ok c.in_ok-push-2.ensures.ok
    c.in_ok-push-3.ensures.ok c.in_ok-push-4.ensures.ok in
    let none = subst AreCloseClips (sym c.new.ensures) (All-nil (λ (k : Clip). IsCloseRect k.shape.rect)) in
    two_solids c.push-5.new.self (length c.args.piece.now.clips.now) 200 Normal c.in_ok-clips_of.field-0 c.in_ok-first.first c.in_ok-second.second c.args.piece.now.colour _ c.in_ok-rect.field-0 c.in_ok-rect-2.field-0 c.in_ok-clips.clips c.new.result
    all c.in_ok-first.ensures c.in_ok-second.ensures c.in_ok-clips_of.ensures.count c.in_ok-clips_of.ensures.close c.in_ok-rect.ensures c.in_ok-clips.ensures.close c.in_ok-rect-2.ensures none
