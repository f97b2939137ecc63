use Rattle.std.proofs.Common.{rules, ◌≡◌, Some}
use Rattle.std.proofs.lemmas.List.Elements.{All-pop}
use Rattle.tile_store.specs.Spares.{HasSides}
use Rattle.tile_store.proofs.Blank.{ok_blank}
use Rattle.tile_store.proofs.spares.Spares.blank.Goals as goal
use Rattle.tile_store.proofs.spares.Spares.blank.Goals.{in-Some, in-None}

pub returns : goal.returns
returns c =
    let wide : c.self.inside.width ≡ c.args.width = search rules in
    let high : c.self.inside.height ≡ c.args.height = search rules in
    elim c.match-pop.branch [
      | in-Some w ↦
          let sides : HasSides c.self.inside.width c.self.inside.height w.in-Some.spare = (All-pop (HasSides c.self.inside.width c.self.inside.height) _ _ (Some w.in-Some.spare) w.in-Some.ensures.items c.self.invariant.sides).1 in
          rw w.result-is (search (rules, sides.wide, sides.high, wide, high))
      | in-None w ↦ rw w.result-is (ok_blank c.args.width c.args.height w.new.result w.new.ensures.width w.new.ensures.height w.new.ensures.zeros)
    ]
