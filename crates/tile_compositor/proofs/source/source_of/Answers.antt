use Rattle.std.proofs.Common.{rules, ◌≡◌, ◌-◌, ℕ, ℤ, pos, ◌-ℤ◌, length, take, drop, subst, to_z-of_z, arith}
use Rattle.wr_geom.specs.Bounds.{width_of}
use Rattle.blend_rules.specs.declared.plane.Plane.{Plane}
use Rattle.tile_store.specs.Tiles.{tile_row, column_of}
use Rattle.tile_compositor.specs.Laid.{bytes_in}
use Rattle.tile_compositor.proofs.Sources.{of_planes, columns_fit, source_colour, source_row}
use Rattle.tile_compositor.proofs.source.source_of.Goals as goal

pub columns_of-requires : goal.columns_of-requires
columns_of-requires g c =
    let tile = c.args.tile.now in
    let start : c.columns_before-start.result ≡ column_of tile.rect (pos c.args.span.from -ℤ c.args.origin.x) = search (rules, to_z-of_z) in
    let long : (p : Plane) → length (bytes_in p c.rows-row.result) ≡ width_of tile.rect = of_planes (λ p. length (bytes_in p c.rows-row.result) ≡ width_of tile.rect) (search rules) (search rules) (search rules) (search rules) in
    λ p. omega (arith, long p, c.from.ensures, columns_fit tile c.args.origin c.args.span c.columns_before-start.result c.requires.over c.requires.order start)

pub returns-clause-row : goal.returns-clause-row
returns-clause-row g c =
    let tile = c.args.tile.now in
    let span = c.args.span in
    let v : ℤ = pos span.y -ℤ c.args.origin.y in
    let n = span.to - span.from in
    let row = c.rows-row.result in
    let start : c.columns_before-start.result ≡ column_of tile.rect (pos span.from -ℤ c.args.origin.x) = search (rules, to_z-of_z) in
    let long : (p : Plane) → length (bytes_in p row) ≡ width_of tile.rect = of_planes (λ p. length (bytes_in p row) ≡ width_of tile.rect) (search rules) (search rules) (search rules) (search rules) in
    let rows : (p : Plane) → bytes_in p row ≡ tile_row p v tile = of_planes (λ p. bytes_in p row ≡ tile_row p v tile) (search (rules, to_z-of_z)) (search (rules, to_z-of_z)) (search (rules, to_z-of_z)) (search (rules, to_z-of_z)) in
    let cut : (p : Plane) → bytes_in p c.columns_of.result ≡ take n (drop c.columns_before-start.result (bytes_in p row)) =
    λ p. subst (λ (m : ℕ). bytes_in p c.columns_of.result ≡ take m (drop c.columns_before-start.result (bytes_in p row))) c.from.ensures (c.columns_of.ensures p) in
    source_row tile c.args.origin span c.columns_before-start.result c.requires.over c.requires.order start row c.columns_of.result rows long cut c.requires.pixels

pub returns-clause-colours : goal.returns-clause-colours
returns-clause-colours g c =
    let tile = c.args.tile.now in
    let span = c.args.span in
    let v : ℤ = pos span.y -ℤ c.args.origin.y in
    let n = span.to - span.from in
    let row = c.rows-row.result in
    let start : c.columns_before-start.result ≡ column_of tile.rect (pos span.from -ℤ c.args.origin.x) = search (rules, to_z-of_z) in
    let long : (p : Plane) → length (bytes_in p row) ≡ width_of tile.rect = of_planes (λ p. length (bytes_in p row) ≡ width_of tile.rect) (search rules) (search rules) (search rules) (search rules) in
    let rows : (p : Plane) → bytes_in p row ≡ tile_row p v tile = of_planes (λ p. bytes_in p row ≡ tile_row p v tile) (search (rules, to_z-of_z)) (search (rules, to_z-of_z)) (search (rules, to_z-of_z)) (search (rules, to_z-of_z)) in
    let cut : (p : Plane) → bytes_in p c.columns_of.result ≡ take n (drop c.columns_before-start.result (bytes_in p row)) =
    λ p. subst (λ (m : ℕ). bytes_in p c.columns_of.result ≡ take m (drop c.columns_before-start.result (bytes_in p row))) c.from.ensures (c.columns_of.ensures p) in
    source_colour tile c.args.origin span c.columns_before-start.result c.requires.over c.requires.order start row c.columns_of.result rows long cut
