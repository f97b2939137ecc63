use Rattle.std.proofs.Common.{◌≡◌, ◌≤◌, ◌^◌, ℕ, List, take, if◌then◌else◌, refl, ap, ap₂, subst, ◌∙◌, arith}
use Rattle.tile_store.specs.Laws.{HaveOwnKeys}
use Rattle.tile_store.specs.StoreModel.{StoreModel}
use Rattle.tile_records.specs.declared.record.TileRecord.{TileRecord}
use Rattle.picture_slices.specs.declared.slice.Slice.{Slice}
use Rattle.kept_tiles.specs.Showing.{AreApart}
use Rattle.kept_tiles.specs.Tiles.{kept_of}
use Rattle.kept_tiles.specs.Work.{frame_tiles, records_of, tiles_work}
use Rattle.scene_slices.specs.Picture.{slices_of_scene, view_rect}
use Rattle.scene_state.specs.declared.policy.Policy.{Policy}
use Rattle.renderer.specs.Drops.{has_sides, sides_of}
use Rattle.renderer.proofs.DrawnTiles.{drawn_shown, drawn_sound, left_fresh}
use Rattle.renderer.proofs.Views.{frame_cost, tile_sides, view_sides}
use Rattle.renderer.proofs.parts.draw.Goals as goal

pub returns-in-Ok-clause-drawn : goal.returns-in-Ok-clause-drawn
returns-in-Ok-clause-drawn c =
    let old = c.args.parts.now.scene in
    let next = c.args.next.now in
    let last = c.args.parts.now.gens in
    let before = c.args.parts.now.kept in
    let after = c.draw_tiles.new.kept in
    let sides = sides_of next.policy in
    let is = c.know_scene-2.ensures in
    let all = slices_of_scene next in
    let keys = subst (λ (s : StoreModel TileRecord). HaveOwnKeys s.tiles) c.tiles.ensures c.know_store.ensures.keys in
    let apart = subst (λ (l : List Slice). AreApart (frame_tiles sides l)) c.requires.slices.value (c.frame_laws.ensures.apart sides (view_rect next) c.args.slices.now c.requires.slices.slices) in
    let current = c.frame_laws.ensures.current sides next.store all (c.slice_resource_laws.ensures.stored next) in
    let view = c.showing_laws.ensures.view next.view.0 next.view.1 (view_sides next is) in
    let few = c.frame_laws.ensures.few sides (view_rect next) c.args.slices.now (tile_sides next is) view c.requires.slices.slices in
    let cost = frame_cost (records_of (kept_of before)) sides c.args.slices.now (tile_sides next is) few in
    let most = subst (λ (l : List Slice). (tiles_work (records_of (kept_of before)) (frame_tiles sides l)).cost ≤ 2 ^ 36) c.requires.slices.value cost in
    let count = c.in-Ok.ensures.drawn in
    record {
      rest = record { scene = refl; last = refl; frame = refl };
      work = c.in-Ok.ensures.work;
      count = c.in-Ok.ensures.drawn;
      most = omega (arith, count, most);
      sound = drawn_sound old next last before after c.requires.ready c.draw_tiles.ensures.keeps is.store;
      shown = drawn_shown old next last before after c.requires.ready c.draw_tiles.ensures.keeps is.store c.work_laws.ensures.shows keys c.in-Ok.ensures.work apart current;
    }

pub returns-in-Err-clause-err : goal.returns-in-Err-clause-err
returns-in-Err-clause-err c =
    let old = c.args.parts.now.scene in
    let next = c.args.next.now in
    let last = c.args.parts.now.gens in
    let before = c.args.parts.now.kept in
    let after = c.draw_tiles.new.kept in
    let left : c.budget_left-left.result ≡ (if has_sides old.policy next.policy.tw next.policy.th then old.policy.budget else 0) =
    c.budget_left-left.ensures ∙ ap₂ (λ (p q : Policy). if has_sides p q.tw q.th then p.budget else 0) c.policy.ensures c.policy-in-Err.ensures in
    let within = c.draw_tiles.ensures.within in
    let opened = c.trim.ensures.opened in
    record {
      rest = record { scene = refl; last = refl; frame = refl };
      fresh = left_fresh old next last before after c.requires.ready c.draw_tiles.ensures.keeps c.know_scene-2.ensures.store c.know_scene.ensures.store c.know_scene.ensures.ranges.policy.tiles.at_most
          c.trim.new.self (c.trim.ensures.kept ∙ ap (λ (n : ℕ). take n (kept_of after)) left);
      least = (let l = within.least in omega (arith, l, opened));
      most = (let m = within.most in omega (arith, m, opened));
    }
