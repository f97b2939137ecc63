-- `==` holds of equal primitives and entries alone.
use Rattle.std.proofs.Common.{◌≡◌, ℕ, Bool, true, ◌&&◌, eqb, int_eq, List, Option, Some, None, refl, ap}
use Rattle.std.specs.Option.{option_eq}
use Rattle.std.proofs.lemmas.Bool.{and_parts, eqb-true}
use Rattle.std.proofs.lemmas.Bool.Decides.{Decides-int_eq}
use Rattle.wr_geom.specs.Bounds.{same_rect}
use Rattle.wr_geom.specs.Sides.{same_radii}
use Rattle.wr_geom.specs.declared.sides.Radii.{Radii}
use Rattle.wr_geom.specs.declared.sides.Widths.{Widths}
use Rattle.wr_geom.proofs.Sames.{same_rect-true, same_radii-true}
use Rattle.blend_rules.specs.declared.colour.Px.{Px}
use Rattle.blend_rules.specs.declared.mode.Mode.{Mode}
use Rattle.blend_rules.proofs.Blends.{same_bytes}
use Rattle.clip_masks.specs.declared.clip.Clip.{Clip}
use Rattle.primitives.specs.declared.kind.GlyphUse.{GlyphUse}
use Rattle.primitives.specs.declared.kind.Kind.{Kind}
use Rattle.primitives.specs.declared.kind.Kind.TheVariants as kind
use Rattle.primitives.specs.declared.entry.Entry.TheVariants as entry
use Rattle.primitives.specs.PrimitiveModel.{PrimitiveModel}

-- a test that holds of equal values alone
abbrev pub IsExact : {A : Type 0} → (A → A → Bool) → Type 0
IsExact {A} same = (a b : A) → same a b ≡ true → a ≡ b

pub same_option : (m n : Option ℕ) → option_eq eqb m n ≡ true → m ≡ n
same_option None None h = refl
same_option None (Some n) h = absurd cc
same_option (Some m) None h = absurd cc
same_option (Some m) (Some n) h = ap (λ (k : ℕ). Some k) (eqb-true m n h)

abbrev px_test : Px → Px → Bool
px_test p q = eqb p.b q.b && (eqb p.g q.g && (eqb p.r q.r && eqb p.a q.a))

pub same_px : (p q : Px) → px_test p q ≡ true → p ≡ q
same_px p q h =
    let i = and_parts (eqb p.b q.b) (eqb p.g q.g && (eqb p.r q.r && eqb p.a q.a)) h in
    let j = and_parts (eqb p.g q.g) (eqb p.r q.r && eqb p.a q.a) i.1 in
    let k = and_parts (eqb p.r q.r) (eqb p.a q.a) j.1 in
    same_bytes p q (eqb-true p.b q.b i.0) (eqb-true p.g q.g j.0) (eqb-true p.r q.r k.0) (eqb-true p.a q.a k.1)

abbrev widths_test : Widths → Widths → Bool
widths_test v w = eqb v.top w.top && (eqb v.right w.right && (eqb v.bottom w.bottom && eqb v.left w.left))

widths_of : (v w : Widths) → v.top ≡ w.top → v.right ≡ w.right → v.bottom ≡ w.bottom → v.left ≡ w.left → v ≡ w
widths_of v w e f g h = λ i. record { top = e i; right = f i; bottom = g i; left = h i }

same_widths : (v w : Widths) → widths_test v w ≡ true → v ≡ w
same_widths v w h =
    let i = and_parts (eqb v.top w.top) (eqb v.right w.right && (eqb v.bottom w.bottom && eqb v.left w.left)) h in
    let j = and_parts (eqb v.right w.right) (eqb v.bottom w.bottom && eqb v.left w.left) i.1 in
    let k = and_parts (eqb v.bottom w.bottom) (eqb v.left w.left) j.1 in
    widths_of v w (eqb-true v.top w.top i.0) (eqb-true v.right w.right j.0) (eqb-true v.bottom w.bottom k.0) (eqb-true v.left w.left k.1)

-- ---- glyphs

abbrev glyph_test : GlyphUse → GlyphUse → Bool
glyph_test g h = eqb g.glyph h.glyph && (int_eq g.x h.x && (int_eq g.y h.y && option_eq eqb g.generation h.generation))

glyph_of : (g h : GlyphUse) → g.glyph ≡ h.glyph → g.x ≡ h.x → g.y ≡ h.y → g.generation ≡ h.generation → g ≡ h
glyph_of g h p q r s = λ i. record { glyph = p i; x = q i; y = r i; generation = s i }

pub same_glyph : (g h : GlyphUse) → glyph_test g h ≡ true → g ≡ h
same_glyph g h e =
    let i = and_parts (eqb g.glyph h.glyph) (int_eq g.x h.x && (int_eq g.y h.y && option_eq eqb g.generation h.generation)) e in
    let j = and_parts (int_eq g.x h.x) (int_eq g.y h.y && option_eq eqb g.generation h.generation) i.1 in
    let k = and_parts (int_eq g.y h.y) (option_eq eqb g.generation h.generation) j.1 in
    glyph_of g h (eqb-true g.glyph h.glyph i.0) ((Decides-int_eq g.x h.x).0 j.0) ((Decides-int_eq g.y h.y).0 k.0) (same_option g.generation h.generation k.1)

-- ---- kinds

pub same_image : (p q k l : ℕ) (g f : Option ℕ) (u s v t : ℕ) → (eqb p q && (eqb k l && (option_eq eqb g f && (eqb u s && eqb v t)))) ≡ true → kind.Image p k g u v ≡ kind.Image q l f s t
same_image p q k l g f u s v t e =
    let a = and_parts (eqb p q) (eqb k l && (option_eq eqb g f && (eqb u s && eqb v t))) e in
    let b = and_parts (eqb k l) (option_eq eqb g f && (eqb u s && eqb v t)) a.1 in
    let c = and_parts (option_eq eqb g f) (eqb u s && eqb v t) b.1 in
    let d = and_parts (eqb u s) (eqb v t) c.1 in
    λ i. kind.Image (eqb-true p q a.0 i) (eqb-true k l b.0 i) (same_option g f c.0 i) (eqb-true u s d.0 i) (eqb-true v t d.1 i)

pub same_border : (v w : Widths) (t t' r r' b b' l l' : Px) (d d' : Radii) → (widths_test v w && (px_test t t' && (px_test r r' && (px_test b b' && (px_test l l' && same_radii d d'))))) ≡ true
    → kind.Border v t r b l d ≡ kind.Border w t' r' b' l' d'
same_border v w t t' r r' b b' l l' d d' e =
    let one = and_parts (widths_test v w) (px_test t t' && (px_test r r' && (px_test b b' && (px_test l l' && same_radii d d')))) e in
    let two = and_parts (px_test t t') (px_test r r' && (px_test b b' && (px_test l l' && same_radii d d'))) one.1 in
    let three = and_parts (px_test r r') (px_test b b' && (px_test l l' && same_radii d d')) two.1 in
    let four = and_parts (px_test b b') (px_test l l' && same_radii d d') three.1 in
    let five = and_parts (px_test l l') (same_radii d d') four.1 in
    λ i. kind.Border (same_widths v w one.0 i) (same_px t t' two.0 i) (same_px r r' three.0 i) (same_px b b' four.0 i) (same_px l l' five.0 i) (same_radii-true d d' five.1 i)

pub same_text : (same : List GlyphUse → List GlyphUse → Bool) → IsExact same → (p q f g : ℕ) (k l : Px) (gs hs : List GlyphUse) → (eqb p q && (eqb f g && (px_test k l && same gs hs))) ≡ true
    → kind.Text p f k gs ≡ kind.Text q g l hs
same_text same exact p q f g k l gs hs e =
    let a = and_parts (eqb p q) (eqb f g && (px_test k l && same gs hs)) e in
    let b = and_parts (eqb f g) (px_test k l && same gs hs) a.1 in
    let c = and_parts (px_test k l) (same gs hs) b.1 in
    λ i. kind.Text (eqb-true p q a.0 i) (eqb-true f g b.0 i) (same_px k l c.0 i) (exact gs hs c.1 i)

-- ---- primitives and entries

primitive_of : (p q : PrimitiveModel) → p.kind ≡ q.kind → p.rect ≡ q.rect → p.clips ≡ q.clips → p ≡ q
primitive_of p q e f g = λ i. record { kind = e i; rect = f i; clips = g i }

pub same_primitive : (kinds : Kind → Kind → Bool) (chains : List Clip → List Clip → Bool) → IsExact kinds → IsExact chains → (p q : PrimitiveModel)
    → (kinds p.kind q.kind && (same_rect p.rect q.rect && chains p.clips q.clips)) ≡ true → entry.Primitive p ≡ entry.Primitive q
same_primitive kinds chains k c p q e =
    let a = and_parts (kinds p.kind q.kind) (same_rect p.rect q.rect && chains p.clips q.clips) e in
    let b = and_parts (same_rect p.rect q.rect) (chains p.clips q.clips) a.1 in
    ap (λ (r : PrimitiveModel). entry.Primitive r) (primitive_of p q (k p.kind q.kind a.0) (same_rect-true p.rect q.rect b.0) (c p.clips q.clips b.1))

pub same_push : (modes : Mode → Mode → Bool) (chains : List Clip → List Clip → Bool) → IsExact modes → IsExact chains → (o n : ℕ) (m k : Mode) (cs ds : List Clip)
    → (eqb o n && (modes m k && chains cs ds)) ≡ true → entry.Push o m cs ≡ entry.Push n k ds
same_push modes chains exact c o n m k cs ds e =
    let a = and_parts (eqb o n) (modes m k && chains cs ds) e in
    let b = and_parts (modes m k) (chains cs ds) a.1 in
    λ i. entry.Push (eqb-true o n a.0 i) (exact m k b.0 i) (c cs ds b.1 i)
