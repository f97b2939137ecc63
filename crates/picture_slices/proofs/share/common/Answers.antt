use Rattle.std.proofs.Common.{List, ap, sym, length, get_or, None, ◌≡◌, ◌∙◌, arith}
use Rattle.clip_masks.specs.declared.clip.Clip.{Clip}
use Rattle.slice_rules.specs.Homes.{Home}
use Rattle.picture_slices.proofs.Counting.{IsAt, common-step, common-stop, common-end}
use Rattle.picture_slices.proofs.share.common.Goals as goal

pub returns-then-not-same_homed : goal.returns-then-not-same_homed
returns-then-not-same_homed c =
    let i = c.loop-i.i in
    let lt = c.loop-i-test.true in
    let least = c.min-end.ensures in
    let most = c.requires.most in
    let count = ap length c.clips_of-others.ensures in
    let clip = c.index-clips-i.result in
    let other = c.index-others-i.result in
    let first : IsAt c.args.first.now i clip (get_or c.as_slice-homes.result.now i None) = record {
      top = c.requires.first;
      within = omega (arith, lt, least, most);
      clip = c.index-clips-i.is ∙ ap (λ (cs : List Clip). get_or cs i clip) c.clips_of-clips.ensures;
      home = ap (λ (hs : List Home). get_or hs i None) c.as_slice-homes.ensures;
    } in
    let second : IsAt c.args.top.now i other (get_or c.as_slice-other_homes.result.now i None) = record {
      top = c.requires.second;
      within = omega (arith, lt, least, count);
      clip = c.index-others-i.is ∙ ap (λ (cs : List Clip). get_or cs i other) c.clips_of-others.ensures;
      home = ap (λ (hs : List Home). get_or hs i None) c.as_slice-other_homes.ensures;
    } in
    common-stop c.args.first.now c.args.top.now i c.args.most clip other (get_or c.as_slice-homes.result.now i None) (get_or c.as_slice-other_homes.result.now i None) (omega (arith, lt, least)) first second
    (sym c.same_homed.ensures ∙ c.if-not-same_homed.true) c.loop-i.invariant

pub loop-i-preserved : goal.loop-i-preserved
loop-i-preserved c =
    let i = c.loop-i.i in
    let lt = c.loop-i-test.true in
    let least = c.min-end.ensures in
    let most = c.requires.most in
    let count = ap length c.clips_of-others.ensures in
    let clip = c.index-clips-i.result in
    let other = c.index-others-i.result in
    let first : IsAt c.args.first.now i clip (get_or c.as_slice-homes.result.now i None) = record {
      top = c.requires.first;
      within = omega (arith, lt, least, most);
      clip = c.index-clips-i.is ∙ ap (λ (cs : List Clip). get_or cs i clip) c.clips_of-clips.ensures;
      home = ap (λ (hs : List Home). get_or hs i None) c.as_slice-homes.ensures;
    } in
    let second : IsAt c.args.top.now i other (get_or c.as_slice-other_homes.result.now i None) = record {
      top = c.requires.second;
      within = omega (arith, lt, least, count);
      clip = c.index-others-i.is ∙ ap (λ (cs : List Clip). get_or cs i other) c.clips_of-others.ensures;
      home = ap (λ (hs : List Home). get_or hs i None) c.as_slice-other_homes.ensures;
    } in
    common-step c.args.first.now c.args.top.now i clip other (get_or c.as_slice-homes.result.now i None) (get_or c.as_slice-other_homes.result.now i None) first second
    (sym c.same_homed.ensures ∙ c.if-not-same_homed.false) c.loop-i.invariant

pub returns : goal.returns
returns c =
    let count = ap length c.clips_of-others.ensures in
    let least = c.min-end.ensures in
    let test = c.loop-i-test.false in
    let bound = c.loop-i.auto.i-end in
    let end : c.loop-i.i ≡ c.min-end.result = omega (arith, test, bound) in
    sym end ∙ common-end c.args.first.now c.args.top.now c.loop-i.i c.args.most c.requires.second (omega (arith, end, least, count)) c.loop-i.invariant
