use Rattle.std.proofs.Common.{◌≡◌, None, sym, ap, ◌∙◌}
use Rattle.std.specs.Option.{option_copied}
use Rattle.std.specs.Ordering.{nat_cmp}
use Rattle.std.specs.FinMap as map
use Rattle.image_store.specs.StoreModel.{image_at, or_empty}
use Rattle.image_store.proofs.store.Store.image.Goals as goal

pub returns-in-None : goal.returns-in-None
returns-in-None c =
    let none : map.get c.self.inside.images c.args.pipeline ≡ None = ap (map.get c.self.inside.images) (sym c.from.ensures) ∙ sym (ap option_copied (sym c.in-None.is) ∙ c.get.ensures) in
    sym (ap (λ s. image_at s c.args.pipeline c.args.key) (sym c.self.view_is) ∙ ap (λ m. map.get (or_empty m) c.args.key) none ∙ map.get-empty nat_cmp c.args.key)
