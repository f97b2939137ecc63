use Rattle.std.proofs.Common.{◌≡◌, None, sym, ap, ◌∙◌}
use Rattle.std.specs.Option.{option_copied}
use Rattle.std.specs.Ordering.{nat_cmp}
use Rattle.std.specs.FinMap as map
use Rattle.image_store.specs.StoreModel.{glyph_at, or_empty}
use Rattle.image_store.proofs.Stored.{same_pair}
use Rattle.image_store.proofs.store.Store.glyph.Goals as goal

pub returns-in-None : goal.returns-in-None
returns-in-None c =
    let none : map.get c.self.inside.masks (c.args.pipeline, c.args.font) ≡ None = ap (map.get c.self.inside.masks) (sym (same_pair _ _ _ _ c.from.ensures c.from-2.ensures)) ∙ sym (ap option_copied (sym c.in-None.is) ∙ c.get.ensures) in
    sym (ap (λ s. glyph_at s c.args.pipeline c.args.font c.args.glyph) (sym c.self.view_is) ∙ ap (λ m. map.get (or_empty m) c.args.glyph) none ∙ map.get-empty nat_cmp c.args.glyph)
