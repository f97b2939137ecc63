use Rattle.std.proofs.Common.{refl, sym, ◌∙◌}
use Rattle.tile_records.proofs.Between.{dirt_under}
use Rattle.tile_records.proofs.dirt.between.Goals as goal

pub returns : goal.returns
returns c =
    c.dirty_between.ensures
    ∙ sym (dirt_under c.args.interner.now c.know_interner.ensures.distinct (λ a b h. (c.entry_order_laws.ensures.equality a b).0 h) (λ a. (c.entry_order_laws.ensures.equality a a).1 refl)
    c.args.old.now c.args.new.now c.common_prefix-prefix.result c.common_suffix-suffix.result c.args.rect c.requires.old c.requires.new c.common_prefix-prefix.ensures.longest c.common_suffix-suffix.ensures.longest)
