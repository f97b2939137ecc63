-- Rows of planes, woven into bytes.
use Rattle.std.proofs.Common.{◌≡◌, ℕ, ◌+◌, ◌-◌, ◌<◌, ◌≤◌, List, [], ◌∷◌, ◌++◌, map, length, take, drop, replicate, get_or, refl, sym, ap, ap₂, ◌∙◌, arith, append-nil}
use Rattle.std.specs.List.{flat_map, range_with_len}
use Rattle.std.proofs.lemmas.Grind.{same_number_lists}
use Rattle.std.proofs.lemmas.List.{get_or-take, get_or-drop, take_all, take_at, drop_at, drop_all, length-append, length-replicate}
use Rattle.std.proofs.lemmas.List.FromFn.{length-map-range_with_len, get_or-map-range_with_len}
use Rattle.blend_rules.specs.Colour.{colour_bytes}
use Rattle.blend_rules.specs.declared.colour.Px.{Px}
use Rattle.blend_rules.specs.declared.plane.Plane.{Plane}
use Rattle.blend_rules.specs.declared.plane.Plane.TheVariants.{B, G, R, A}
use Rattle.blend_rules.specs.Planes.{channel}
use Rattle.span_kernels.specs.Bytes.{interleaved}
use Rattle.span_kernels.specs.PlanesModel.{PlanesModel, byte_at, pixel_at, part_of, plane_of, index_of}
use Rattle.span_kernels.proofs.ColourLaws.{woven_pixels}

channel_byte : (p : Plane) (planes : PlanesModel) (x y : ℕ) → channel p (pixel_at planes x y) ≡ byte_at p planes x y
channel_byte B planes x y = refl
channel_byte G planes x y = refl
channel_byte R planes x y = refl
channel_byte A planes x y = refl

map_map : (f : Px → ℕ) (g : ℕ → Px) (xs : List ℕ) → map f (map g xs) ≡ map (λ x. f (g x)) xs
map_map f g [] = refl
map_map f g (x ∷ xs) = ap (λ (l : List ℕ). f (g x) ∷ l) (map_map f g xs)

abbrev row_of : PlanesModel → ℕ → List Px
row_of planes y = map (λ x. pixel_at planes x y) (range_with_len 0 planes.width)

-- a row of a plane is that channel of its pixels
part_channel : (p : Plane) (planes : PlanesModel) (y : ℕ) → length (part_of p planes y 0 planes.width) ≡ planes.width → part_of p planes y 0 planes.width ≡ map (channel p) (row_of planes y)
part_channel p planes y long =
    let w = planes.width in
    same_number_lists _ _ (long ∙ sym (ap length (map_map (channel p) (λ x. pixel_at planes x y) (range_with_len 0 w)) ∙ length-map-range_with_len (λ x. channel p (pixel_at planes x y)) 0 w))
    (λ k h.
    let low : k < w = omega (arith, h, long) in
    let at : index_of planes 0 y + k ≡ index_of planes k y = omega arith in
    let e : 0 + k ≡ k = omega arith in
    get_or-take w (drop (index_of planes 0 y) (plane_of p planes)) k 0 low ∙ get_or-drop (index_of planes 0 y) (plane_of p planes) k 0
    ∙ ap (λ (i : ℕ). get_or (plane_of p planes) i 0) at
    ∙ sym (channel_byte p planes k y)
    ∙ sym (ap (λ (l : List ℕ). get_or l k 0) (map_map (channel p) (λ x. pixel_at planes x y) (range_with_len 0 w)) ∙ get_or-map-range_with_len (λ x. channel p (pixel_at planes x y)) 0 w k k 0 low e))

-- the four rows of planes weave the bytes of its pixels
pub woven_row : (planes : PlanesModel) (y : ℕ) (b g r a : List ℕ) → b ≡ part_of B planes y 0 planes.width → g ≡ part_of G planes y 0 planes.width → r ≡ part_of R planes y 0 planes.width → a ≡ part_of A planes y 0 planes.width
    → length b ≡ planes.width → length g ≡ planes.width → length r ≡ planes.width → length a ≡ planes.width → interleaved b g r a ≡ flat_map colour_bytes (row_of planes y)
woven_row planes y b g r a eb eg er ea lb lg lr la =
    let is : (p : Plane) (row : List ℕ) → row ≡ part_of p planes y 0 planes.width → length row ≡ planes.width → row ≡ map (channel p) (row_of planes y) =
    λ p row e long. e ∙ part_channel p planes y (sym (ap length e) ∙ long) in
    ap₂ (λ (s t : List ℕ). interleaved s t r a) (is B b eb lb) (is G g eg lg)
    ∙ ap₂ (λ (s t : List ℕ). interleaved (map (channel B) (row_of planes y)) (map (channel G) (row_of planes y)) s t) (is R r er lr) (is A a ea la)
    ∙ woven_pixels (row_of planes y)

-- bytes with others written over theirs from an index on, and cut to a length
abbrev pub written : List ℕ → ℕ → List ℕ → List ℕ
written bytes start over = take start bytes ++ (over ++ drop (length over) (drop start bytes))

abbrev pub overwritten_to : ℕ → List ℕ → ℕ → List ℕ → List ℕ
overwritten_to len bytes start over = take len (written bytes start over ++ drop (length (written bytes start over)) bytes)

-- What was woven into the zeros that were put after bytes: it stands after them.
pub put_behind : (old filled woven : List ℕ) (start end len : ℕ) → start ≡ length old → start ≤ end → filled ≡ take end old ++ replicate (end - length old) 0 → length woven ≡ end - start → len ≡ length filled
    → overwritten_to len filled start woven ≡ old ++ woven
put_behind old filled woven start end len at order is long size =
    let zeros : List ℕ = replicate (end - length old) 0 in
    let none : ℕ = 0 in
    let many : length zeros ≡ end - length old = length-replicate (end - length old) none in
    let same : filled ≡ old ++ zeros = is ∙ ap (λ (l : List ℕ). l ++ zeros) (take_all end old (omega (arith, at, order))) in
    let front : take start filled ≡ old = ap (take start) same ∙ take_at old zeros start (sym at) in
    let back : drop (length woven) (drop start filled) ≡ [] =
    ap (λ (l : List ℕ). drop (length woven) (drop start l)) same ∙ ap (drop (length woven)) (drop_at old zeros start (sym at)) ∙ drop_all (length woven) zeros (omega (arith, many, at, long)) in
    let all : written filled start woven ≡ old ++ woven = ap₂ (λ (l m : List ℕ). l ++ (woven ++ m)) front back ∙ ap (λ (l : List ℕ). old ++ l) (append-nil woven) in
    let whole : length (written filled start woven) ≡ len = omega (arith, ap length all, length-append old woven, size, ap length same, length-append old zeros, many, at, order, long) in
    let rest : drop (length (written filled start woven)) filled ≡ [] = drop_all (length (written filled start woven)) filled (omega (arith, whole, size)) in
    ap (λ (l : List ℕ). take len (written filled start woven ++ l)) rest ∙ ap (take len) (append-nil (written filled start woven)) ∙ take_all len (written filled start woven) (omega (arith, whole)) ∙ all
