use Rattle.std.proofs.Common.{OnOk, sym, ap, subst}
use Rattle.tile_records.specs.Interning.{ids_keys}
use Rattle.kept_tiles.specs.Steps.{IsPut}
use Rattle.kept_tiles.proofs.tile.put_blank.Goals as goal
use Rattle.kept_tiles.proofs.tile.put_blank.Goals.{in-Ok, in-Err}

pub returns-clause-put : goal.returns-clause-put
returns-clause-put c = elim c.match-put.branch [
  | in-Ok w ↦ subst (λ r. OnOk r (IsPut c.args.tiles.now c.put.new.self c.args.place.now.key c.args.place.now.rect)) (sym w.result-is)
      (record { note = record { ids = c.new.result }; none = ap ids_keys c.new.ensures.items; store = w.in-Ok.ensures.kept })
  | in-Err w ↦ subst (λ r. OnOk r (IsPut c.args.tiles.now c.put.new.self c.args.place.now.key c.args.place.now.rect)) (sym w.result-is) tt
]
