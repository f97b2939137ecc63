use Rattle.std.proofs.Common.{take, ap, sym, ◌∙◌}
use Rattle.kept_tiles.specs.Tiles.{KeptModel, kept_of}
use Rattle.kept_tiles.proofs.Trimming.{popped, popped_covers, popped_fewer, popped_kept}
use Rattle.kept_tiles.proofs.kept.KeptTiles.trim.Goals as goal

pub tiles-init : goal.tiles-init
tiles-init c = record {
  kept = ap (λ (k : KeptModel). take c.args.budget (kept_of k)) c.self.view_is;
  opened = ap (λ (k : KeptModel). k.store.opened) c.self.view_is;
  covers = c.self.invariant.0;
  closed = c.self.invariant.1;
}

pub pop_over-requires : goal.pop_over-requires
pop_over-requires c = record { closed = c.tiles.invariant.closed }

pub tiles-smaller : goal.tiles-smaller
tiles-smaller c =
    let is = popped c.args.budget c.tiles.self-inside.tiles.tiles c.in-Some.field-0-0 c.in-Some.record (sym c.in-Some.is ∙ c.pop_over.ensures.value) in
    popped_fewer c.tiles.self-inside.interner c.give_up.new.interner c.args.budget c.tiles.self-inside.tiles c.pop_over.new.self c.in-Some.field-0-0 c.in-Some.record is c.pop_over.ensures.store
    c.give_up.ensures.moves c.tiles.invariant.covers

pub tiles-preserved : goal.tiles-preserved
tiles-preserved c =
    let is = popped c.args.budget c.tiles.self-inside.tiles.tiles c.in-Some.field-0-0 c.in-Some.record (sym c.in-Some.is ∙ c.pop_over.ensures.value) in
    record {
      kept = popped_kept c.tiles.self-inside.interner c.give_up.new.interner c.args.budget c.tiles.self-inside.tiles c.pop_over.new.self c.in-Some.field-0-0 c.in-Some.record is c.pop_over.ensures.store
          c.give_up.ensures.moves c.tiles.invariant.covers ∙ c.tiles.invariant.kept;
      opened = ap (λ s. s.opened) c.pop_over.ensures.store ∙ c.tiles.invariant.opened;
      covers = popped_covers c.tiles.self-inside.interner c.give_up.new.interner c.args.budget c.tiles.self-inside.tiles c.pop_over.new.self c.in-Some.field-0-0 c.in-Some.record is c.pop_over.ensures.store
          c.give_up.ensures.moves c.tiles.invariant.covers;
      closed = ap (λ s. s.window) c.pop_over.ensures.store ∙ c.tiles.invariant.closed;
    }
