use Rattle.std.proofs.Common.{◌≡◌, true, false, cond, eqb, None, sym, ap, ◌∙◌}
use Rattle.std.specs.List.{list_any}
use Rattle.std.specs.FinMap as map
use Rattle.image_store.proofs.Keys.{get_without}
use Rattle.image_store.proofs.keyed_images.KeyedImages.get.Goals as goal

pub returns-then-contains : goal.returns-then-contains
returns-then-contains c =
    let i = c.self.inside in
    let any : list_any (λ y. eqb y c.args.key) i.gone.items ≡ true = ap (list_any (λ y. eqb y c.args.key)) (sym c.deref.ensures.value) ∙ sym c.contains.ensures.value ∙ c.if-contains.true in
    sym (ap (λ m. map.get m c.args.key) (sym c.self.view_is) ∙ get_without i.images i.gone.items c.args.key ∙ ap (λ b. cond b None (map.get i.images c.args.key)) any)

pub returns : goal.returns
returns c =
    let i = c.self.inside in
    let any : list_any (λ y. eqb y c.args.key) i.gone.items ≡ false = ap (list_any (λ y. eqb y c.args.key)) (sym c.deref.ensures.value) ∙ sym c.contains.ensures.value ∙ c.if-contains.false in
    c.get-2.ensures ∙ ap (λ m. map.get m c.args.key) c.get.ensures
    ∙ sym (get_without i.images i.gone.items c.args.key ∙ ap (λ b. cond b None (map.get i.images c.args.key)) any)
    ∙ ap (λ m. map.get m c.args.key) c.self.view_is
