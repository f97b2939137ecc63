use Rattle.std.proofs.Common.{List, ap, sym, length, get_or, None, ◌≡◌, ◌∙◌, arith}
use Rattle.clip_masks.specs.declared.clip.Clip.{Clip}
use Rattle.slice_rules.specs.Homes.{Home}
use Rattle.slice_rules.specs.Shared.{may_share}
use Rattle.picture_slices.proofs.Counting.{IsAt, sharable-step, sharable-stop, sharable-end}
use Rattle.picture_slices.proofs.share.sharable.Goals as goal

pub returns-then-not-may_share : goal.returns-then-not-may_share
returns-then-not-may_share c =
    let i = c.loop-i.i in
    let clips = c.clips_of-clips.ensures in
    let homes = c.as_slice-homes.ensures in
    let count = ap length clips in
    let lt = c.loop-i-test.true in
    let clip = c.index-clips-i.result in
    let at : IsAt c.args.top.now i clip (get_or c.as_slice-homes.result.now i None) = record {
      top = c.requires;
      within = omega (arith, lt, count);
      clip = c.index-clips-i.is ∙ ap (λ (cs : List Clip). get_or cs i clip) clips;
      home = ap (λ (hs : List Home). get_or hs i None) homes;
    } in
    sharable-stop (may_share c.args.home) c.args.top.now i clip (get_or c.as_slice-homes.result.now i None) at (sym c.may_share.ensures ∙ c.if-not-may_share.true) c.loop-i.invariant

pub loop-i-preserved : goal.loop-i-preserved
loop-i-preserved c =
    let i = c.loop-i.i in
    let clips = c.clips_of-clips.ensures in
    let homes = c.as_slice-homes.ensures in
    let count = ap length clips in
    let lt = c.loop-i-test.true in
    let clip = c.index-clips-i.result in
    let at : IsAt c.args.top.now i clip (get_or c.as_slice-homes.result.now i None) = record {
      top = c.requires;
      within = omega (arith, lt, count);
      clip = c.index-clips-i.is ∙ ap (λ (cs : List Clip). get_or cs i clip) clips;
      home = ap (λ (hs : List Home). get_or hs i None) homes;
    } in
    sharable-step (may_share c.args.home) c.args.top.now i clip (get_or c.as_slice-homes.result.now i None) at (sym c.may_share.ensures ∙ c.if-not-may_share.false) c.loop-i.invariant

pub returns : goal.returns
returns c =
    let count = ap length c.clips_of-clips.ensures in
    let test = c.loop-i-test.false in
    let bound = c.loop-i.auto.i-end in
    let end : c.loop-i.i ≡ length c.clips_of-clips.result.now = omega (arith, test, bound) in
    sym end ∙ sharable-end (may_share c.args.home) c.args.top.now c.loop-i.i c.requires (omega (arith, end, count)) c.loop-i.invariant
