use Rattle.std.proofs.Common.{rules, ◌≡◌, ◌<◌, ◌+ℤ◌, pos, ℕ, ℤ, Bool, true, false, not, refl, sym, ap, ap₂, subst, ◌∙◌, to_z, of_z, w32, SFits, arith}
use Rattle.std.proofs.lemmas.Int.{to_z-of_z}
use Rattle.wr_geom.specs.Bounds.{height_of, has_points}
use Rattle.wr_geom.specs.declared.point.Point.{Point}
use Rattle.wr_geom.proofs.Points.{HasSides, has_sides}
use Rattle.primitives.specs.Stacks.{value_at}
use Rattle.tile_store.specs.Windows.{HasWindowRow}
use Rattle.tile_raster.specs.Lists.{entries_of}
use Rattle.tile_raster.specs.Rasters.{AreWide, IsFit}
use Rattle.tile_raster.specs.Spans.{IsFirst}
use Rattle.tile_raster.specs.Windows.{IsWindowDrawnTo, with_window_line}
use Rattle.tile_raster.proofs.Windows.{none_drawn, empty_drawn, window_tile, narrow_window, row_ready, row_drawn, row_first, row_reach}
use Rattle.tile_raster.proofs.window.draw_window_rows.Goals as goal

-- where the test says no, both sides are longer than 0
sides_from : (b : _) (t : Bool) → t ≡ not (has_points b) → t ≡ false → HasSides b
sides_from b t e f = by_points (has_points b) refl
  where
    by_points : (s : Bool) → has_points b ≡ s → HasSides b
    by_points true h = has_sides b h
    by_points false h = absurd (let k : true ≡ false = ap not (sym h) ∙ sym e ∙ f in cc)

-- a row's coordinate passes through 32 bits
fits : (y : ℤ) → (p : _) → IsFirst p → p.y ≡ y → to_z w32 (of_z w32 y) ≡ y
fits y p f e = let a = f.top in let b = f.bottom in let h : SFits w32 y = subst (λ (z : ℤ). SFits w32 z) e (search rules) in to_z-of_z w32 y h

pub returns-then-is_empty-clause-drawn : goal.returns-then-is_empty-clause-drawn
returns-then-is_empty-clause-drawn g c =
    empty_drawn c.args.tiles.now c.args.window (value_at (entries_of c.args.drawing.entries) c.args.drawing.store.now) (c.is_empty.ensures.points.0 c.if-is_empty.true) c.corner_of-corner.ensures.rect.down

pub sides_of-count-requires-clause-across : goal.sides_of-count-requires-clause-across
sides_of-count-requires-clause-across g c =
    let s = sides_from c.args.window.rect c.is_empty.result c.is_empty.ensures.value c.if-is_empty.false in
    (narrow_window c.args.window c.args.tiles.now (window_tile c.args.window c.args.tiles.now c.know_store.ensures.store c.requires.window) s.across s.down).0

pub sides_of-count-requires-clause-down : goal.sides_of-count-requires-clause-down
sides_of-count-requires-clause-down g c =
    let s = sides_from c.args.window.rect c.is_empty.result c.is_empty.ensures.value c.if-is_empty.false in
    (narrow_window c.args.window c.args.tiles.now (window_tile c.args.window c.args.tiles.now c.know_store.ensures.store c.requires.window) s.across s.down).1

pub loop-i-init : goal.loop-i-init
loop-i-init g c = record {
  drawn = none_drawn c.args.tiles.now c.args.window (value_at (entries_of c.args.drawing.entries) c.args.drawing.store.now);
  row = refl;
  levels = refl;
  wide = c.requires.wide;
  tools = c.requires.tools;
}

pub first_of-first-requires : goal.first_of-first-requires
first_of-first-requires g c =
    let s = sides_from c.args.window.rect c.is_empty.result c.is_empty.ensures.value c.if-is_empty.false in
    subst (λ (p : Point). IsFirst (record { x = p.x; y = p.y +ℤ pos c.loop-i.i })) (sym c.corner_of-corner.ensures.value)
    (row_first c.args.window.rect c.loop-i.i c.corner_of-corner.ensures.rect s.down (subst (λ (n : ℕ). c.loop-i.i < n) c.sides_of-count.ensures.down c.loop-i-test.true))

pub draw_row-requires-clause-reach : goal.draw_row-requires-clause-reach
draw_row-requires-clause-reach g c =
    let x : c.first_of-first.result.x ≡ c.args.window.rect.x0 = c.first_of-first.ensures.x ∙ ap (λ (p : Point). p.x) c.corner_of-corner.ensures.value in
    rw (x, c.sides_of-count.ensures.across) (row_reach c.args.window.rect c.corner_of-corner.ensures.rect)

pub draw_row-requires-clause-wide : goal.draw_row-requires-clause-wide
draw_row-requires-clause-wide g c = subst (λ (n : ℕ). AreWide n c.loop-i.levels) (sym c.loop-i.invariant.row) c.loop-i.invariant.wide

pub put_window_row-requires-clause-row : goal.put_window_row-requires-clause-row
put_window_row-requires-clause-row g c =
    let s = sides_from c.args.window.rect c.is_empty.result c.is_empty.ensures.value c.if-is_empty.false in
    subst (λ (z : ℤ). HasWindowRow c.loop-i.tiles.window z) (sym (fits c.first_of-first.result.y c.first_of-first.result c.first_of-first.ensures.first refl))
    (row_ready c.args.window c.args.tiles.now c.loop-i.tiles c.loop-i.i (value_at (entries_of c.args.drawing.entries) c.args.drawing.store.now) c.requires.window c.loop-i.invariant.drawn s.across
    (subst (λ (n : ℕ). c.loop-i.i < n) c.sides_of-count.ensures.down c.loop-i-test.true) s.down c.first_of-first.result.y (c.first_of-first.ensures.y ∙ ap (λ (z : ℤ). z +ℤ pos c.loop-i.i) (ap (λ (p : _). p.y) c.corner_of-corner.ensures.value)))

pub loop-i-preserved : goal.loop-i-preserved
loop-i-preserved g c =
    let f = value_at (entries_of c.args.drawing.entries) c.args.drawing.store.now in
    let inv = c.loop-i.invariant in
    let s = sides_from c.args.window.rect c.is_empty.result c.is_empty.ensures.value c.if-is_empty.false in
    let y : c.first_of-first.result.y ≡ c.args.window.rect.y0 +ℤ pos c.loop-i.i = c.first_of-first.ensures.y ∙ ap (λ (z : ℤ). z +ℤ pos c.loop-i.i) (ap (λ (p : _). p.y) c.corner_of-corner.ensures.value) in
    let x : c.first_of-first.result.x ≡ c.args.window.rect.x0 = c.first_of-first.ensures.x ∙ ap (λ (p : _). p.x) c.corner_of-corner.ensures.value in
    let put : c.put_window_row.new.tiles ≡ with_window_line (c.args.window.rect.y0 +ℤ pos c.loop-i.i) c.sides_of-count.result.0 c.draw_row.new.row c.loop-i.tiles =
    c.put_window_row.ensures ∙ ap (λ (z : ℤ). with_window_line z c.sides_of-count.result.0 c.draw_row.new.row c.loop-i.tiles) (fits c.first_of-first.result.y c.first_of-first.result c.first_of-first.ensures.first refl ∙ y) in
    record {
      drawn = row_drawn c.args.window c.args.tiles.now c.loop-i.tiles c.put_window_row.new.tiles c.loop-i.i c.sides_of-count.result.0 c.draw_row.new.row f c.requires.window
          (window_tile c.args.window c.args.tiles.now c.know_store.ensures.store c.requires.window) inv.drawn s.across s.down
          (subst (λ (n : ℕ). c.loop-i.i < n) c.sides_of-count.ensures.down c.loop-i-test.true) c.sides_of-count.ensures.across c.know_line.ensures
          (rw (c.sides_of-count.ensures.across, c.draw_row.ensures.width, inv.row) c.requires.row)
          (λ k h. c.draw_row.ensures.value k h ∙ ap₂ (λ (u w : ℤ). f (u +ℤ pos k) w) x y) put;
      row = c.draw_row.ensures.width ∙ inv.row;
      levels = c.draw_row.ensures.levels ∙ inv.levels;
      wide = subst (λ (n : ℕ). AreWide n c.draw_row.new.levels) inv.row c.draw_row.ensures.wide;
      tools = subst (λ (n : ℕ). IsFit n c.draw_row.new.tools) inv.row c.draw_row.ensures.tools;
    }

pub returns-clause-drawn : goal.returns-clause-drawn
returns-clause-drawn g c =
    let e : c.loop-i.i ≡ height_of c.args.window.rect = (let a = c.loop-i-test.false in let b = c.loop-i.auto.i-end in let d = c.sides_of-count.ensures.down in omega arith) in
    subst (λ (n : ℕ). IsWindowDrawnTo c.args.tiles.now c.loop-i.tiles c.args.window n (value_at (entries_of c.args.drawing.entries) c.args.drawing.store.now)) e c.loop-i.invariant.drawn
