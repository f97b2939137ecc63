use Rattle.std.proofs.Common.{ap, ◌∙◌, min, ◌+◌}
use Rattle.tile_records.specs.Counts.{last_count, recounted}
use Rattle.tile_records.proofs.interner.Interner.raise.Goals as goal

pub returns : goal.returns
returns c =
    c.recount.ensures ∙ ap (recounted c.args.self.now c.args.id.key) (c.saturating_add.ensures ∙ ap (λ n. min (n + 1) last_count) c.count-count.ensures)
