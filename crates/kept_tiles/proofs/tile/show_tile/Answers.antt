use Rattle.std.proofs.Common.{◌≡◌, ◌<◌, ◌++◌, ℕ, None, length, ap, subst, ◌∙◌, arith, option_map}
use Rattle.std.proofs.lemmas.Grind.{common_steps}
use Rattle.tile_store.specs.Keys.{same_key}
use Rattle.tile_records.specs.Counts.{Covers}
use Rattle.tile_records.specs.Interning.{entries_under, record_keys}
use Rattle.tile_raster.proofs.Held.{held_count}
use Rattle.kept_tiles.specs.Tiles.{KeptModel, kept_with, kept_of, kept_at, kept_without, valued, claims}
use Rattle.kept_tiles.specs.Work.{records_of, stale_area, work_at}
use Rattle.kept_tiles.proofs.Claims.{held_by}
use Rattle.kept_tiles.proofs.Counting.{no_cost, some_cost}
use Rattle.kept_tiles.proofs.Heading.{named_before}
use Rattle.kept_tiles.proofs.Lists.{valued_at}
use Rattle.kept_tiles.proofs.Sounding.{gone_keeps, gone_placed, headed_placed, same_keeps, shown_keeps}
use Rattle.kept_tiles.proofs.Working.{either, gone_work, headed_work, if_ok, length_without, no_ids, on_ok, shown_more}
use Rattle.kept_tiles.proofs.tile.show_tile.Goals as goal

-- of a record without ids
module _ (c : goal.After-drop-next) where
  abbrev old : KeptModel
  old = kept_with c.args.interner.now c.args.tiles.now

  abbrev new : KeptModel
  new = kept_with c.drop_tile.new.interner c.drop_tile.new.tiles

  none : length c.args.next.ids.items ≡ 0
  none = grind (arith, common_steps, c.is_empty.ensures, c.if-is_empty.true, c.args.next.ids.ok)

  left : kept_of new ≡ kept_without c.args.place.now.key (kept_of old)
  left = c.drop_tile.ensures.values (subst (λ l. Covers c.args.interner.now (l ++ claims c.args.tiles.now.tiles)) (no_ids c.args.interner.now c.args.next.ids.items none).0 c.requires.covers)

  gone : kept_at c.args.place.now.key (kept_of new) ≡ None
  gone = valued_at c.drop_tile.new.interner c.args.place.now.key c.drop_tile.new.tiles.tiles ∙ ap (option_map (valued c.drop_tile.new.interner)) c.drop_tile.ensures.gone

pub returns-then-is_empty-clause-work : goal.returns-then-is_empty-clause-work
returns-then-is_empty-clause-work c =
    gone_work (old c) (new c) c.args.place.now.key c.args.place.now.rect (entries_under c.args.interner.now (record_keys c.args.next)) (no_ids c.args.interner.now c.args.next.ids.items (none c)).1
    (omega (arith, c.opened-before.ensures.value, c.opened-before.ensures.fits)) (left c) (ap (λ s. s.opened) c.drop_tile.ensures.store)

pub returns-then-is_empty-clause-drawn : goal.returns-then-is_empty-clause-drawn
returns-then-is_empty-clause-drawn c =
    no_cost (records_of (kept_of (old c))) c.args.place.now.key c.args.place.now.rect (entries_under c.args.interner.now (record_keys c.args.next)) (no_ids c.args.interner.now c.args.next.ids.items (none c)).1

pub returns-then-is_empty-clause-keeps : goal.returns-then-is_empty-clause-keeps
returns-then-is_empty-clause-keeps c sides placed = gone_keeps (old c) (new c) c.args.place.now.key (left c) (gone c) sides c.args.store.now

pub returns-then-is_empty-clause-placed : goal.returns-then-is_empty-clause-placed
returns-then-is_empty-clause-placed c sides placed = gone_placed (old c) (new c) c.args.place.now.key (left c) (gone c) sides

pub returns-then-is_empty-clause-more : goal.returns-then-is_empty-clause-more
returns-then-is_empty-clause-more c =
    let e = ap (λ s. length s.tiles) c.drop_tile.ensures.store in
    let h = length_without (same_key c.args.place.now.key) c.args.tiles.now.tiles in
    omega (arith, e, h)

-- of a record with ids
module _ (c : goal.After-show_entries) where
  some_entries : 0 < length (entries_under c.args.interner.now (record_keys c.args.next))
  some_entries =
      let some : 0 < length c.args.next.ids.items = grind (arith, common_steps, c.is_empty.ensures, c.if-is_empty.false, c.args.next.ids.ok) in
      let held = held_by c.args.interner.now (record_keys c.args.next) (record_keys c.args.next ++ claims c.args.tiles.now.tiles) c.requires.covers (λ k h. named_before k (record_keys c.args.next) (claims c.args.tiles.now.tiles) h) in
      let count = held_count c.args.interner.now c.args.next.ids.items held in
      omega (arith, some, count)

pub returns-clause-work : goal.returns-clause-work
returns-clause-work c =
    on_ok c.show_entries.result c.show_entries.ensures.shown (λ h.
    headed_work c.args.store.now (kept_with c.args.interner.now c.args.tiles.now) (kept_with c.show_entries.new.interner c.show_entries.new.tiles) c.args.place.now.key c.args.place.now.rect h.0
    (entries_under c.args.interner.now (record_keys c.args.next)) (some_entries c) h.1)

pub returns-clause-drawn : goal.returns-clause-drawn
returns-clause-drawn c =
    let kept = records_of (kept_of (kept_with c.args.interner.now c.args.tiles.now)) in
    let entries = entries_under c.args.interner.now (record_keys c.args.next) in
    if_ok (λ (n : ℕ). n ≡ stale_area kept c.args.place.now.key c.args.place.now.rect entries) (λ (n : ℕ). n ≡ (work_at kept c.args.place.now.key c.args.place.now.rect entries).cost) c.show_entries.result
    c.show_entries.ensures.drawn (λ n h. h ∙ some_cost kept c.args.place.now.key c.args.place.now.rect entries (some_entries c))

pub returns-clause-keeps : goal.returns-clause-keeps
returns-clause-keeps c sides placed =
    let old = kept_with c.args.interner.now c.args.tiles.now in
    let new = kept_with c.show_entries.new.interner c.show_entries.new.tiles in
    either c.show_entries.result c.show_entries.ensures.shown c.show_entries.ensures.values
    (λ h. shown_keeps sides c.args.store.now old new c.args.place.now.key c.args.place.now.rect (entries_under c.args.interner.now (record_keys c.args.next))
    c.dirt_laws.ensures.stale c.run_laws.ensures.pixels c.colour_laws.ensures.not_visible c.requires.drawable placed h)
    (λ e. same_keeps sides c.args.store.now old new e)

pub returns-clause-placed : goal.returns-clause-placed
returns-clause-placed c sides placed before =
    let old = kept_with c.args.interner.now c.args.tiles.now in
    let new = kept_with c.show_entries.new.interner c.show_entries.new.tiles in
    either c.show_entries.result c.show_entries.ensures.shown c.show_entries.ensures.values
    (λ h. headed_placed c.args.store.now sides old new c.args.place.now.key c.args.place.now.rect h.0 (entries_under c.args.interner.now (record_keys c.args.next)) placed h.1 before)
    (λ e. rw e before)

pub returns-clause-more : goal.returns-clause-more
returns-clause-more c =
    either c.show_entries.result c.show_entries.ensures.shown c.show_entries.ensures.err
    (λ h. shown_more c.args.store.now c.args.interner.now c.show_entries.new.interner c.args.tiles.now c.show_entries.new.tiles c.args.place.now.key c.args.place.now.rect (entries_under c.args.interner.now (record_keys c.args.next)) h)
    (λ e. rw e (omega arith))
