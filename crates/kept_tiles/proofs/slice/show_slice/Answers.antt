use Rattle.std.proofs.Common.{◌≡◌, ℕ, length, ap, sym, subst, ◌∙◌, arith, refl}
use Rattle.tile_grid.specs.Grids.{in_slice, tiles_of}
use Rattle.tile_grid.specs.declared.tile.TileSides.{TileSides}
use Rattle.kept_tiles.specs.Tiles.{all_valued, claims, kept_of, kept_with}
use Rattle.kept_tiles.specs.Progress.{KeepsSound}
use Rattle.kept_tiles.specs.Steps.{ArePlaced}
use Rattle.kept_tiles.specs.Work.{shown_tiles, slice_tiles, work_on}
use Rattle.kept_tiles.proofs.Lists.{valued_same}
use Rattle.kept_tiles.proofs.Progress.{started_cost, started_keeps, started_within, started_work}
use Rattle.kept_tiles.proofs.Slices.{grid_sides, length_shown}
use Rattle.kept_tiles.proofs.Working.{if_ok, on_ok}
use Rattle.kept_tiles.proofs.slice.show_slice.Goals as goal

-- once the records are made
module _ (c : goal.After-show_records-arg-3-1) where
  pub sides_are : c.visible-grid.result.sides ≡ c.args.sides
  sides_are = ap (λ g. g.sides) c.visible-grid.ensures.value ∙ grid_sides c.args.sides (in_slice c.args.slice.now.shown c.args.slice.now.origin)

  pub same_tiles : kept_of (kept_with c.make_records.new.interner c.args.tiles.now) ≡ kept_of (kept_with c.args.interner.now c.args.tiles.now)
  same_tiles = valued_same c.args.interner.now c.make_records.new.interner c.args.tiles.now.tiles (c.in_ok-records.ensures.moves.entries (claims c.args.tiles.now.tiles) c.requires.covers)

pub show_records-requires-clause-room : goal.show_records-requires-clause-room
show_records-requires-clause-room c =
    let long = length_shown c.args.slice.now c.visible-grid.result in
    let same = ap (λ g. length (shown_tiles c.args.slice.now (tiles_of g))) c.visible-grid.ensures.value in
    omega (arith, long, same, c.requires.room)

pub show_records-requires-clause-placed : goal.show_records-requires-clause-placed
show_records-requires-clause-placed c =
    subst (λ (s : TileSides). ArePlaced s (all_valued c.make_records.new.interner c.args.tiles.now.tiles)) (sym (sides_are c))
    (subst (ArePlaced c.args.sides) (sym (same_tiles c)) c.requires.placed)

pub show_records-requires-clause-wide : goal.show_records-requires-clause-wide
show_records-requires-clause-wide c = let e = ap (λ (s : TileSides). s.width) (sides_are c) in omega (arith, e, c.requires.wide)

pub returns-clause-work : goal.returns-clause-work
returns-clause-work c =
    let sides = ap (λ g. g.sides) c.visible-grid.ensures.value ∙ grid_sides c.args.sides (in_slice c.args.slice.now.shown c.args.slice.now.origin) in
    let same = valued_same c.args.interner.now c.make_records.new.interner c.args.tiles.now.tiles (c.in_ok-records.ensures.moves.entries (claims c.args.tiles.now.tiles) c.requires.covers) in
    on_ok c.show_records.result c.show_records.ensures.work
    (started_work (kept_with c.args.interner.now c.args.tiles.now) (kept_with c.make_records.new.interner c.args.tiles.now) same refl (kept_with c.show_records.new.interner c.show_records.new.tiles)
    (shown_tiles c.args.slice.now (tiles_of c.visible-grid.result)) (slice_tiles c.args.sides c.args.slice.now) (ap (λ g. shown_tiles c.args.slice.now (tiles_of g)) c.visible-grid.ensures.value))

pub returns-clause-drawn : goal.returns-clause-drawn
returns-clause-drawn c =
    let old = kept_with c.args.interner.now c.args.tiles.now in
    let made = kept_with c.make_records.new.interner c.args.tiles.now in
    let same = valued_same c.args.interner.now c.make_records.new.interner c.args.tiles.now.tiles (c.in_ok-records.ensures.moves.entries (claims c.args.tiles.now.tiles) c.requires.covers) in
    if_ok (λ (n : ℕ). n ≡ (work_on made (shown_tiles c.args.slice.now (tiles_of c.visible-grid.result))).cost) (λ (n : ℕ). n ≡ (work_on old (slice_tiles c.args.sides c.args.slice.now)).cost)
    c.show_records.result c.show_records.ensures.drawn
    (λ n e. e ∙ started_cost old made same refl (shown_tiles c.args.slice.now (tiles_of c.visible-grid.result)) (slice_tiles c.args.sides c.args.slice.now)
    (ap (λ g. shown_tiles c.args.slice.now (tiles_of g)) c.visible-grid.ensures.value))

pub returns-clause-within : goal.returns-clause-within
returns-clause-within c =
    let same = valued_same c.args.interner.now c.make_records.new.interner c.args.tiles.now.tiles (c.in_ok-records.ensures.moves.entries (claims c.args.tiles.now.tiles) c.requires.covers) in
    started_within (kept_with c.args.interner.now c.args.tiles.now) (kept_with c.make_records.new.interner c.args.tiles.now) same refl (kept_with c.show_records.new.interner c.show_records.new.tiles)
    (shown_tiles c.args.slice.now (tiles_of c.visible-grid.result)) (slice_tiles c.args.sides c.args.slice.now) (ap (λ g. shown_tiles c.args.slice.now (tiles_of g)) c.visible-grid.ensures.value)
    c.show_records.ensures.within

pub returns-clause-keeps : goal.returns-clause-keeps
returns-clause-keeps c =
    let sides = ap (λ g. g.sides) c.visible-grid.ensures.value ∙ grid_sides c.args.sides (in_slice c.args.slice.now.shown c.args.slice.now.origin) in
    let same = valued_same c.args.interner.now c.make_records.new.interner c.args.tiles.now.tiles (c.in_ok-records.ensures.moves.entries (claims c.args.tiles.now.tiles) c.requires.covers) in
    started_keeps (kept_with c.args.interner.now c.args.tiles.now) (kept_with c.make_records.new.interner c.args.tiles.now) same refl c.args.sides c.args.store.now (kept_with c.show_records.new.interner c.show_records.new.tiles)
    (subst (λ (s : TileSides). KeepsSound s c.args.store.now (kept_with c.make_records.new.interner c.args.tiles.now) (kept_with c.show_records.new.interner c.show_records.new.tiles)) sides c.show_records.ensures.keeps)

pub returns-clause-placed : goal.returns-clause-placed
returns-clause-placed c =
    let sides = ap (λ g. g.sides) c.visible-grid.ensures.value ∙ grid_sides c.args.sides (in_slice c.args.slice.now.shown c.args.slice.now.origin) in
    subst (λ (s : TileSides). ArePlaced s (all_valued c.show_records.new.interner c.show_records.new.tiles.tiles)) sides c.show_records.ensures.placed
