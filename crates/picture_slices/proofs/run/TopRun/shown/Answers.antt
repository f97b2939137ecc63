use Rattle.std.proofs.Common.{List, ◌∷◌, ap, length, sym, ◌≡◌, ◌∙◌, take, drop, arith}
use Rattle.std.proofs.lemmas.List.{length-take-le}
use Rattle.clip_masks.specs.Coverage.{cut_by}
use Rattle.clip_masks.specs.declared.clip.Clip.{Clip}
use Rattle.primitives.specs.declared.entry.Top.{Top}
use Rattle.slice_rules.specs.Runs.{Run}
use Rattle.picture_slices.proofs.Sharing.{shown_none, shown_by, shared_fit, members_none, members_first}
use Rattle.picture_slices.proofs.run.TopRun.shown.Goals as goal

pub slice_bounds-cut-end : goal.slice_bounds-cut-end
slice_bounds-cut-end c =
    let t = c.in-Some.first.now in
    let own = ap (λ (r : Run Top). r.members) c.self.view_is in
    let parts : c.args.self.now.members ≡ t ∷ drop 1 c.self.inside.tops = sym own ∙ members_first c.self.inside.tops t (sym c.in-Some.ensures) in
    let fit = shared_fit c.args.self.now t (drop 1 c.self.inside.tops) c.args.shared parts c.requires.tops c.requires.shared in
    let count = ap length c.clips_of.ensures in
    sym (length-take-le c.args.shared c.clips_of.result.now (omega (arith, fit, count)))

pub returns-in-None : goal.returns-in-None
returns-in-None c =
    let own = ap (λ (r : Run Top). r.members) c.self.view_is in
    shown_none c.args.view c.args.self.now (sym own ∙ members_none c.self.inside.tops (sym c.in-None.ensures))

pub returns-in-Some : goal.returns-in-Some
returns-in-Some c =
    let t = c.in-Some.first.now in
    let own = ap (λ (r : Run Top). r.members) c.self.view_is in
    let parts : c.args.self.now.members ≡ t ∷ drop 1 c.self.inside.tops = sym own ∙ members_first c.self.inside.tops t (sym c.in-Some.ensures) in
    c.cut.ensures.value
    ∙ ap (λ (cs : List Clip). cut_by c.args.view (take c.args.shared cs)) c.clips_of.ensures
    ∙ shown_by c.args.view c.args.self.now t (drop 1 c.self.inside.tops) c.args.shared parts c.requires.tops c.requires.shared
