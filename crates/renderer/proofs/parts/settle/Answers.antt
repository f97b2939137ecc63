use Rattle.std.proofs.Common.{length, take, refl, sym, ap, subst, ◌∙◌}
use Rattle.tile_store.specs.StoreModel.{StoreModel}
use Rattle.tile_records.specs.declared.record.TileRecord.{TileRecord}
use Rattle.kept_tiles.specs.Tiles.{kept_of}
use Rattle.scene_state.specs.declared.policy.Policy.{Policy}
use Rattle.renderer.specs.Frames.{IsFrameOf, IsThere}
use Rattle.renderer.proofs.Finishing.{shown_there, taken_fresh}
use Rattle.renderer.proofs.parts.settle.Goals as goal

pub returns-clause-finished : goal.returns-clause-finished
returns-clause-finished c =
    let next = c.args.next in
    let last = c.args.parts.now.gens in
    let old = c.args.parts.now.kept in
    let new = c.trim.new.self in
    let kept = c.trim.ensures.kept ∙ ap (λ (p : Policy). take p.budget (kept_of old)) c.policy.ensures in
    record {
      scene = refl;
      last = refl;
      kept = kept;
      opened = c.trim.ensures.opened;
      frame = subst (λ n. IsThere (IsFrameOf next n) c.args.parts.now.frame) (sym c.trim.ensures.opened) c.requires.frame;
      tiles = c.len.ensures.value ∙ ap (λ (s : StoreModel TileRecord). length s.tiles) c.tiles.ensures;
      drawn = refl;
      fresh = taken_fresh next last old new c.requires.stored c.requires.sound c.know_scene.ensures.ranges.policy.tiles.at_most kept;
    }

pub returns-clause-current : goal.returns-clause-current
returns-clause-current c = record { current = λ _. shown_there c.args.next c.args.parts.now.kept.store.opened c.args.parts.now.frame c.requires.frame }
