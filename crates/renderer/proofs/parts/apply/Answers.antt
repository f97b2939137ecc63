use Rattle.std.proofs.Common.{◌≡◌, Result, Err, refl, sym, ap, subst, ◌∙◌, rules}
use Rattle.kept_tiles.specs.Tiles.{kept_of}
use Rattle.scene_state.specs.declared.policy.Policy.{Policy}
use Rattle.scene_state.specs.declared.error.ApplyError.{ApplyError}
use Rattle.scene_state.specs.declared.error.ApplyError.TheVariants as errors
use Rattle.renderer.specs.declared.answer.Answer.{Answer}
use Rattle.renderer.specs.Drops.{tiles_left}
use Rattle.renderer.specs.Outcome.{Applies}
use Rattle.renderer.specs.PartsModel.{model_of}
use Rattle.renderer.specs.RendererModel.{RendererModel}
use Rattle.renderer.proofs.Applying.{same_shown, unfinished_by}
use Rattle.renderer.proofs.Readying.{ready, stay_by}
use Rattle.renderer.proofs.parts.apply.Goals as goal

pub returns-then-not-frame-clause-fresh : goal.returns-then-not-frame-clause-fresh
returns-then-not-frame-clause-fresh c =
    let laws = c.next_laws.ensures in
    let old = c.args.parts.now.scene in
    let next = c.in_ok-next.next in
    let last = c.args.parts.now.gens in
    let counter = c.next.new.gens in
    let stay =
    stay_by c.args.txn.now old next last counter laws.next laws.agrees laws.sound laws.below c.requires.fresh.stored c.know_scene.ensures.store c.know_scene-2.ensures.store c.in_ok-next.ensures.made in
    let left = c.drop_tiles.ensures.kept ∙ ap (λ (p : Policy). tiles_left c.args.txn.now p (kept_of c.args.parts.now.kept)) c.policy.ensures in
    (ready c.args.txn.now old next last counter c.args.parts.now.kept c.drop_tiles.new.kept stay c.requires.fresh c.in_ok-next.ensures.made left).after

pub show-requires-clause-ready : goal.show-requires-clause-ready
show-requires-clause-ready c =
    let laws = c.next_laws.ensures in
    let old = c.args.parts.now.scene in
    let next = c.in_ok-next.next in
    let last = c.args.parts.now.gens in
    let counter = c.next.new.gens in
    let stay =
    stay_by c.args.txn.now old next last counter laws.next laws.agrees laws.sound laws.below c.requires.fresh.stored c.know_scene.ensures.store c.know_scene-2.ensures.store c.in_ok-next.ensures.made in
    let left = c.drop_tiles.ensures.kept ∙ ap (λ (p : Policy). tiles_left c.args.txn.now p (kept_of c.args.parts.now.kept)) c.policy.ensures in
    ready c.args.txn.now old next last counter c.args.parts.now.kept c.drop_tiles.new.kept stay c.requires.fresh c.in_ok-next.ensures.made left

pub returns-in_err-report-clause-applies : goal.returns-in_err-report-clause-applies
returns-in_err-report-clause-applies c =
    let t = c.args.txn.now in
    let old = model_of c.args.parts.now in
    let next = c.in_ok-next.next in
    let mid : RendererModel = record { scene = old.scene; last = c.next.new.gens; kept = c.drop_tiles.new.kept; frame = old.frame } in
    let new = model_of c.show.new.parts in
    let left = c.drop_tiles.ensures.kept ∙ ap (λ (p : Policy). tiles_left t p (kept_of old.kept)) c.policy.ensures in
    let counts = c.next_laws.ensures.next t old.scene next old.last mid.last c.in_ok-next.ensures.made c.requires.fresh.stored in
    let framed = sym c.frame.ensures.value ∙ c.if-not-frame.false in
    let is : c.from_residual-in_err-report.result ≡ Err errors.NoMemory = search rules in
    subst (λ (r : Result Answer ApplyError). Applies t old new r) (sym is)
    (unfinished_by t old mid new next c.in_ok-next.ensures.made framed left c.drop_tiles.ensures.opened counts.least counts.most refl refl c.in_err-report.ensures.err)

pub returns-then-not-frame-clause-current : goal.returns-then-not-frame-clause-current
returns-then-not-frame-clause-current c = record {
  current = λ e. same_shown c.args.txn.now c.args.parts.now.scene c.in_ok-next.next c.args.parts.now.gens c.next.new.gens c.args.parts.now.frame
      (c.changes_nothing-is_same.ensures e).1 c.in_ok-next.ensures.made (c.requires.current.current (c.changes_nothing-is_same.ensures e).0);
}
