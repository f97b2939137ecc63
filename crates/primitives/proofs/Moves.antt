-- Moved primitives and entries do at moved points what they did.
use Rattle.std.proofs.Common.{◌≡◌, ℕ, ◌+◌, ◌-◌, ℤ, pos, ◌+ℤ◌, ◌-ℤ◌, Option, List, [], ◌∷◌, Bool, true, false, ◌&&◌, if◌then◌else◌, unsigned_abs, refl, sym, ap, ap₂, ◌∙◌, arith}
use Rattle.std.specs.List.{fold}
use Rattle.std.proofs.lemmas.Int.{ints}
use Rattle.wr_geom.specs.Bounds.{Bounds, holds, shifted, intersection}
use Rattle.wr_geom.specs.declared.point.Point.{Point}
use Rattle.wr_geom.specs.declared.sides.Radii.{Radii}
use Rattle.wr_geom.specs.declared.sides.Widths.{Widths}
use Rattle.wr_geom.specs.Sides.{width_of, height_of}
use Rattle.display_list.specs.Facts.{IsBorder}
use Rattle.std.proofs.lemmas.List.Elements.{All-map}
use Rattle.wr_geom.proofs.Points.{same_bounds, shifted_points, intersection_points}
use Rattle.blend_rules.specs.Colour.{clear, scaled, blended}
use Rattle.blend_rules.specs.declared.colour.Px.{Px}
use Rattle.blend_rules.specs.declared.mode.Mode.TheVariants.{Normal}
use Rattle.clip_masks.specs.Coverage.{cut_by}
use Rattle.clip_masks.specs.Clips.{shifted_clips}
use Rattle.clip_masks.specs.declared.clip.Clip.{Clip}
use Rattle.clip_masks.specs.Outline.{Outline, samples_inside, share, inset_of, shrunk_by, shifted_outline}
use Rattle.clip_masks.proofs.Moves.{shifted_samples}
use Rattle.clip_masks.proofs.Chains.{shifted_chain}
use Rattle.image_store.specs.Models.{MaskModel}
use Rattle.image_store.specs.StoreModel.{StoreModel, image_at, glyph_at}
use Rattle.primitives.specs.declared.border.Edge.{Edge}
use Rattle.primitives.specs.declared.border.BorderColours.{BorderColours}
use Rattle.primitives.specs.declared.kind.GlyphUse.{GlyphUse}
use Rattle.primitives.specs.declared.kind.Kind.{Kind}
use Rattle.primitives.specs.declared.kind.Kind.TheVariants as kind
use Rattle.primitives.specs.declared.entry.Entry.TheVariants as entry
use Rattle.primitives.specs.PrimitiveModel.{IsGlyphUse, IsKind}
use Rattle.primitives.specs.Borders.{edge_of, pixels_before, pixels_after, vertical_edge, horizontal_edge, colour_of_side, side_colour, border_coverage}
use Rattle.primitives.specs.Colours.{resource_of_use, repeated_texel, mask_coverage, glyph_use_over, kind_colour, primitive_colour, covered_colour}
use Rattle.primitives.specs.Moves.{CanShiftKind, shifted_glyph, shifted_glyphs, shifted_kind, shifted_entries}
use Rattle.primitives.specs.Stacks.{Stack, step, run}
use Rattle.primitives.specs.Laws.{ShiftedHasColours, ShiftedHasCoveredColours, ShiftedSteps, ShiftedRuns, ShiftedIsVisible}

distance_moved : (a b d : ℤ) → (a +ℤ d) -ℤ (b +ℤ d) ≡ a -ℤ b
distance_moved a b d = omega (arith, ints)

before_moved : (edge z d : ℤ) → pixels_before (edge +ℤ d) (z +ℤ d) ≡ pixels_before edge z
before_moved edge z d = ap unsigned_abs (distance_moved z edge d)

after_moved : (edge z d : ℤ) → pixels_after (edge +ℤ d) (z +ℤ d) ≡ pixels_after edge z
after_moved edge z d = ap unsigned_abs (let e : (edge +ℤ d) -ℤ pos 1 -ℤ (z +ℤ d) ≡ edge -ℤ pos 1 -ℤ z = omega (arith, ints) in e)

-- ---- borders

vertical_moved : (b : Bounds) (by : Point) (w : Widths) (x : ℤ) → vertical_edge (shifted b by) w (x +ℤ by.x) ≡ vertical_edge b w x
vertical_moved b by w x = ap₂ (λ (m n : ℕ). edge_of m n w.left w.right) (before_moved b.x0 x by.x) (after_moved b.x1 x by.x)

horizontal_moved : (b : Bounds) (by : Point) (w : Widths) (y : ℤ) → horizontal_edge (shifted b by) w (y +ℤ by.y) ≡ horizontal_edge b w y
horizontal_moved b by w y = ap₂ (λ (m n : ℕ). edge_of m n w.top w.bottom) (before_moved b.y0 y by.y) (after_moved b.y1 y by.y)

side_moved : (b : Bounds) (by : Point) (w : Widths) (c : BorderColours) (x y : ℤ) → side_colour (shifted b by) w c (x +ℤ by.x) (y +ℤ by.y) ≡ side_colour b w c x y
unfolding side_colour
side_moved b by w c x y = ap₂ (λ (across down : Edge). colour_of_side across down c) (vertical_moved b by w x) (horizontal_moved b by w y)

plus_moved : (a d : ℤ) (n : ℕ) → (a +ℤ d) +ℤ pos n ≡ (a +ℤ pos n) +ℤ d
plus_moved a d n = omega (arith, ints)

less_moved : (a d : ℤ) (n : ℕ) → (a +ℤ d) -ℤ pos n ≡ (a -ℤ pos n) +ℤ d
less_moved a d n = omega (arith, ints)

shrunk_moved : (b : Bounds) (by : Point) (w : Widths) → shrunk_by (shifted b by) w ≡ shifted (shrunk_by b w) by
shrunk_moved b by w = same_bounds _ _ (plus_moved b.x0 by.x w.left) (plus_moved b.y0 by.y w.top) (less_moved b.x1 by.x w.right) (less_moved b.y1 by.y w.bottom)

inset_moved : (o : Outline) (by : Point) (w : Widths) → inset_of (shifted_outline o by) w ≡ shifted_outline (inset_of o w) by
inset_moved o by w = ap (λ (r : Bounds). let s : Outline = record { rect = r; radii = (inset_of o w).radii } in s) (shrunk_moved o.rect by w)

coverage_moved : (o : Outline) (by : Point) (w : Widths) (x y : ℤ) → border_coverage (shifted_outline o by) w (x +ℤ by.x) (y +ℤ by.y) ≡ border_coverage o w x y
unfolding border_coverage
coverage_moved o by w x y =
    ap₂ (λ (m n : ℕ). share (m - n)) (shifted_samples o by x y)
    (ap (λ (s : Outline). samples_inside s (x +ℤ by.x) (y +ℤ by.y)) (inset_moved o by w) ∙ shifted_samples (inset_of o w) by x y)

-- ---- text

mask_moved : (mask : Option MaskModel) (at by : Point) (x y : ℤ) → mask_coverage mask ((x +ℤ by.x) -ℤ (at.x +ℤ by.x)) ((y +ℤ by.y) -ℤ (at.y +ℤ by.y)) ≡ mask_coverage mask (x -ℤ at.x) (y -ℤ at.y)
mask_moved mask at by x y = ap₂ (mask_coverage mask) (distance_moved x at.x by.x) (distance_moved y at.y by.y)

text_moved : (store : StoreModel) (pipeline font : ℕ) (colour : Px) (by : Point) (x y : ℤ) (glyphs : List GlyphUse) (so_far : Px)
    → fold (glyph_use_over store pipeline font colour (x +ℤ by.x) (y +ℤ by.y)) so_far (shifted_glyphs glyphs by) ≡ fold (glyph_use_over store pipeline font colour x y) so_far glyphs
text_moved store pipeline font colour by x y [] so_far = refl
text_moved store pipeline font colour by x y (g ∷ gs) so_far =
    ap (λ (n : ℕ). fold (glyph_use_over store pipeline font colour (x +ℤ by.x) (y +ℤ by.y)) (blended Normal (scaled colour n) so_far) (shifted_glyphs gs by)) (mask_moved (resource_of_use g.generation (glyph_at store pipeline font g.glyph)) (record { x = g.x; y = g.y }) by x y)
    ∙ text_moved store pipeline font colour by x y gs (glyph_use_over store pipeline font colour x y so_far g)

-- ---- primitives

kind_moved : (store : StoreModel) (b : Bounds) (k : Kind) (by : Point) (x y : ℤ) → kind_colour store (shifted b by) (shifted_kind k by) (x +ℤ by.x) (y +ℤ by.y) ≡ kind_colour store b k x y
kind_moved store b (kind.Solid colour) by x y = refl
kind_moved store b (kind.Image pipeline key g u v) by x y =
    ap₂ (λ (m n : ℕ). repeated_texel (resource_of_use g (image_at store pipeline key)) (m + u) (n + v)) (before_moved b.x0 x by.x) (before_moved b.y0 y by.y)
kind_moved store b (kind.Border w top right bottom l radii) by x y =
    ap₂ scaled (side_moved b by w (record { top = top; right = right; bottom = bottom; left = l }) x y) (coverage_moved (record { rect = b; radii = radii }) by w x y)
kind_moved store b (kind.Text pipeline font colour glyphs) by x y = text_moved store pipeline font colour by x y glyphs clear

pub shifted_has_colours : ShiftedHasColours
unfolding primitive_colour
shifted_has_colours store p by x y =
    ap₂ (λ (t : Bool) (c : Px). if t then c else clear) (shifted_points p.rect by x y) (kind_moved store p.rect p.kind by x y)

pub shifted_has_covered : ShiftedHasCoveredColours
unfolding covered_colour
shifted_has_covered store p by x y = ap₂ scaled (shifted_has_colours store p by x y) (shifted_chain p.clips by 255 x y)

-- ---- entries

pub shifted_steps : ShiftedSteps
shifted_steps store (entry.Primitive p) by x y s =
    ap (λ (c : Px). let t : Stack = record { top = blended Normal c s.top; groups = s.groups } in t) (shifted_has_covered store p by x y)
shifted_steps store (entry.Push o m clips) by x y s =
    ap (λ (n : ℕ). let t : Stack = record { top = clear; groups = record { backdrop = s.top; opacity = o; mode = m; cover = n } ∷ s.groups } in t) (shifted_chain clips by 255 x y)
shifted_steps store entry.Pop by x y s = refl

pub shifted_runs : ShiftedRuns
shifted_runs store [] by x y s = refl
shifted_runs store (e ∷ es) by x y s =
    ap (run store (x +ℤ by.x) (y +ℤ by.y) (shifted_entries es by)) (shifted_steps store e by x y s) ∙ shifted_runs store es by x y (step store x y e s)

-- ---- what a moved primitive keeps

across_moved : (b : Bounds) (by : Point) → width_of (shifted b by) ≡ width_of b
across_moved b by = ap unsigned_abs (distance_moved b.x1 b.x0 by.x)

down_moved : (b : Bounds) (by : Point) → height_of (shifted b by) ≡ height_of b
down_moved b by = ap unsigned_abs (distance_moved b.y1 b.y0 by.y)

-- a border that fits a rectangle fits it where it is moved
pub border_moved : (b : Bounds) (by : Point) (w : Widths) (r : Radii) → IsBorder b w r → IsBorder (shifted b by) w r
border_moved b by w r h =
    let a = across_moved b by in
    let d = down_moved b by in
    record {
      small = h.small;
      fit = record { across = omega (arith, a, h.fit.across); down = omega (arith, d, h.fit.down) };
      radii = record {
        small = h.radii.small;
        fit = record {
          top = omega (arith, a, h.radii.fit.top);
          bottom = omega (arith, a, h.radii.fit.bottom);
          left = omega (arith, d, h.radii.fit.left);
          right = omega (arith, d, h.radii.fit.right);
        };
      };
    }

pub kind_stays : (b : Bounds) (k : Kind) (by : Point) → IsKind b k → CanShiftKind by k → IsKind (shifted b by) (shifted_kind k by)
kind_stays b (kind.Solid colour) by h can = h
kind_stays b (kind.Image pipeline key g u v) by h can = tt
kind_stays b (kind.Border w top right bottom l radii) by h can = (border_moved b by w radii h.0, h.1, h.2, h.3, h.4)
kind_stays b (kind.Text pipeline font colour glyphs) by h can = (h.0, All-map IsGlyphUse (λ (g : GlyphUse). shifted_glyph g by) glyphs can)

-- ---- what is visible

-- a rectangle that has another one's moved points
abbrev IsMoved : Point → Bounds → Bounds → Type 0
IsMoved by b c = (x y : ℤ) → holds c (x +ℤ by.x) (y +ℤ by.y) ≡ holds b x y

shared_moved : (by : Point) (b c r : Bounds) → IsMoved by b c → IsMoved by (intersection b r) (intersection c (shifted r by))
shared_moved by b c r h x y =
    intersection_points c (shifted r by) (x +ℤ by.x) (y +ℤ by.y)
    ∙ ap₂ (λ (s t : Bool). s && t) (h x y) (shifted_points r by x y)
    ∙ sym (intersection_points b r x y)

once_moved : (by : Point) (b c r : Bounds) (t : Bool) → IsMoved by b c → IsMoved by (if t then b else intersection b r) (if t then c else intersection c (shifted r by))
once_moved by b c r true h = h
once_moved by b c r false h = shared_moved by b c r h

cut_moved : (by : Point) (clips : List Clip) (b c : Bounds) → IsMoved by b c → IsMoved by (cut_by b clips) (cut_by c (shifted_clips clips by))
unfolding cut_by
cut_moved by [] b c h = h
cut_moved by (k ∷ ks) b c h =
    cut_moved by ks (if k.out then b else intersection b k.shape.rect) (if k.out then c else intersection c (shifted k.shape.rect by)) (once_moved by b c k.shape.rect k.out h)

pub shifted_is_visible : ShiftedIsVisible
shifted_is_visible p by x y = cut_moved by p.clips p.rect (shifted p.rect by) (shifted_points p.rect by) x y
