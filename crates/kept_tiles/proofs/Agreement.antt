-- Stores that agree give the same colours where what is used is current in both.
use Rattle.std.proofs.Common.{◌≡◌, ◌≤◌, ℕ, Bool, true, false, List, [], ◌∷◌, Option, Some, None, option_map, All, ℤ, if◌then◌else◌, refl, sym, ap, subst, ◌∙◌}
use Rattle.std.specs.List.{fold}
use Rattle.std.proofs.lemmas.List.Elements.{All-head, All-tail, All-nil, All-cons}
use Rattle.wr_geom.specs.Bounds.{Bounds, holds}
use Rattle.blend_rules.specs.declared.colour.Px.{Px}
use Rattle.blend_rules.specs.declared.mode.Mode.TheVariants.{Normal}
use Rattle.blend_rules.specs.Colour.{clear, scaled, blended}
use Rattle.clip_masks.specs.Coverage.{chain_coverage}
use Rattle.image_store.specs.StoreModel.{StoreModel, IsStore, image_at, glyph_at}
use Rattle.image_store.specs.Laws.{IsUpTo}
use Rattle.primitives.specs.Colours.{resource_of_use, image_colour, glyph_use_over, kind_colour, primitive_colour, covered_colour, mask_over, visible_rect}
use Rattle.primitives.specs.Facts.{IsEntry}
use Rattle.primitives.specs.Laws.{ClearWhereNotVisible}
use Rattle.primitives.specs.PrimitiveModel.{PrimitiveModel, IsPrimitive}
use Rattle.primitives.specs.Stacks.{Stack, empty_stack, step, run, value_at}
use Rattle.primitives.specs.declared.entry.Entry.{Entry}
use Rattle.primitives.specs.declared.entry.Entry.TheVariants as entry
use Rattle.primitives.specs.declared.kind.GlyphUse.{GlyphUse}
use Rattle.primitives.specs.declared.kind.Kind.{Kind}
use Rattle.primitives.specs.declared.kind.Kind.TheVariants as kind
use Rattle.tile_records.specs.Right.{IsCurrentUse, IsCurrentKind, IsCurrentAt}
use Rattle.kept_tiles.specs.Sound.{IsCurrent, IsUseUpTo, IsKindUpTo, IsNamedUpTo, Agrees}

module _ (a b : StoreModel) (agrees : Agrees a b) where
  image_same : (p k : ℕ) (carried : Option ℕ) → IsCurrentUse carried (option_map (λ i. i.generation) (image_at a p k)) → IsCurrentUse carried (option_map (λ i. i.generation) (image_at b p k))
      → resource_of_use carried (image_at a p k) ≡ resource_of_use carried (image_at b p k)
  image_same p k None h j = refl
  image_same p k (Some g) h j = agrees.images p k g h j

  mask_same : (p f k : ℕ) (carried : Option ℕ) → IsCurrentUse carried (option_map (λ m. m.generation) (glyph_at a p f k)) → IsCurrentUse carried (option_map (λ m. m.generation) (glyph_at b p f k))
      → resource_of_use carried (glyph_at a p f k) ≡ resource_of_use carried (glyph_at b p f k)
  mask_same p f k None h j = refl
  mask_same p f k (Some g) h j = agrees.masks p f k g h j

  text_same : (p f : ℕ) (colour so_far : Px) (glyphs : List GlyphUse) (x y : ℤ)
      → All (λ (g : GlyphUse). IsCurrentUse g.generation (option_map (λ m. m.generation) (glyph_at a p f g.glyph))) glyphs
      → All (λ (g : GlyphUse). IsCurrentUse g.generation (option_map (λ m. m.generation) (glyph_at b p f g.glyph))) glyphs
      → fold (glyph_use_over a p f colour x y) so_far glyphs ≡ fold (glyph_use_over b p f colour x y) so_far glyphs
  text_same p f colour so_far [] x y h j = refl
  text_same p f colour so_far (g ∷ glyphs) x y h j =
      let first : glyph_use_over a p f colour x y so_far g ≡ glyph_use_over b p f colour x y so_far g =
      ap (λ m. mask_over m (record { x = g.x; y = g.y }) colour so_far x y)
      (mask_same p f g.glyph g.generation
      (All-head (λ (u : GlyphUse). IsCurrentUse u.generation (option_map (λ m. m.generation) (glyph_at a p f u.glyph))) g glyphs h)
      (All-head (λ (u : GlyphUse). IsCurrentUse u.generation (option_map (λ m. m.generation) (glyph_at b p f u.glyph))) g glyphs j)) in
      ap (λ (c : Px). fold (glyph_use_over a p f colour x y) c glyphs) first
      ∙ text_same p f colour (glyph_use_over b p f colour x y so_far g) glyphs x y
      (All-tail (λ (u : GlyphUse). IsCurrentUse u.generation (option_map (λ m. m.generation) (glyph_at a p f u.glyph))) g glyphs h)
      (All-tail (λ (u : GlyphUse). IsCurrentUse u.generation (option_map (λ m. m.generation) (glyph_at b p f u.glyph))) g glyphs j)

  kind_same : (r : Bounds) (k : Kind) (x y : ℤ) → IsCurrentKind a k → IsCurrentKind b k → kind_colour a r k x y ≡ kind_colour b r k x y
  kind_same r (kind.Solid colour) x y h j = refl
  kind_same r (kind.Image p key g u v) x y h j = ap (λ i. image_colour i r u v x y) (image_same p key g h j)
  kind_same r (kind.Border widths top right bottom l radii) x y h j = refl
  kind_same r (kind.Text p f colour glyphs) x y h j = text_same p f colour clear glyphs x y h j

  shown_same : (p : PrimitiveModel) (x y : ℤ) → IsCurrentKind a p.kind → IsCurrentKind b p.kind → covered_colour a p x y ≡ covered_colour b p x y
  unfolding covered_colour primitive_colour
  shown_same p x y h j = ap (λ (c : Px). scaled (if holds p.rect x y then c else clear) (chain_coverage p.clips 255 x y)) (kind_same p.rect p.kind x y h j)

  module _ (clears : ClearWhereNotVisible) (is_a : IsStore a) (is_b : IsStore b) where
    covered_same : (p : PrimitiveModel) (x y : ℤ) (t : Bool) → holds (visible_rect p) x y ≡ t → IsPrimitive p → IsCurrentAt a x y (entry.Primitive p) → IsCurrentAt b x y (entry.Primitive p) → covered_colour a p x y ≡ covered_colour b p x y
    covered_same p x y true e is h j = shown_same p x y (h e) (j e)
    covered_same p x y false e is h j = clears a p x y is_a is e ∙ sym (clears b p x y is_b is e)

    step_same : (e : Entry) (x y : ℤ) (s : Stack) → IsEntry e → IsCurrentAt a x y e → IsCurrentAt b x y e → step a x y e s ≡ step b x y e s
    step_same (entry.Primitive p) x y s is h j = ap (λ (c : Px). let t : Stack = record { top = blended Normal c s.top; groups = s.groups } in t) (covered_same p x y (holds (visible_rect p) x y) refl is h j)
    step_same (entry.Push opacity mode clips) x y s is h j = refl
    step_same entry.Pop x y s is h j = refl

    run_same : (es : List Entry) (x y : ℤ) (s : Stack) → All IsEntry es → All (IsCurrentAt a x y) es → All (IsCurrentAt b x y) es → run a x y es s ≡ run b x y es s
    run_same [] x y s is h j = refl
    run_same (e ∷ es) x y s is h j =
        ap (run a x y es) (step_same e x y s (All-head IsEntry e es is) (All-head (IsCurrentAt a x y) e es h) (All-head (IsCurrentAt b x y) e es j))
        ∙ run_same es x y (step b x y e s) (All-tail IsEntry e es is) (All-tail (IsCurrentAt a x y) e es h) (All-tail (IsCurrentAt b x y) e es j)

    pub value_same : (es : List Entry) (x y : ℤ) → All IsEntry es → All (IsCurrentAt a x y) es → All (IsCurrentAt b x y) es → value_at es a x y ≡ value_at es b x y
    value_same es x y is h j = ap (λ (s : Stack). s.top) (run_same es x y empty_stack is h j)

-- ---- what is current is so at each point

current_here : (store : StoreModel) (x y : ℤ) (e : Entry) → IsCurrent store e → IsCurrentAt store x y e
current_here store x y (entry.Primitive p) h = λ shows. h
current_here store x y (entry.Push opacity mode clips) h = tt
current_here store x y entry.Pop h = tt

pub current_at : (store : StoreModel) (x y : ℤ) (es : List Entry) → All (IsCurrent store) es → All (IsCurrentAt store x y) es
current_at store x y [] h = All-nil (IsCurrentAt store x y)
current_at store x y (e ∷ es) h = All-cons (IsCurrentAt store x y) e es (current_here store x y e (All-head (IsCurrent store) e es h)) (current_at store x y es (All-tail (IsCurrent store) e es h))

-- ---- what is current has no generation above those that are stored

generation_from : {A : Type 0} (generation : A → ℕ) (o : Option A) (g : ℕ) → option_map generation o ≡ Some g → (x : A) × (o ≡ Some x) × (generation x ≡ g)
generation_from generation None g h = absurd cc
generation_from generation (Some x) g h = (x, refl, let same : generation x ≡ g = cc in same)

image_up_to : (n p k : ℕ) (carried : Option ℕ) (store : StoreModel) → IsUpTo n store → IsCurrentUse carried (option_map (λ i. i.generation) (image_at store p k)) → IsUseUpTo n carried
image_up_to n p k None store up h = tt
image_up_to n p k (Some g) store up h = let f = generation_from (λ i. i.generation) (image_at store p k) g h in subst (λ (z : ℕ). z ≤ n) f.2 (up.images p k f.0 f.1)

mask_up_to : (n p f k : ℕ) (carried : Option ℕ) (store : StoreModel) → IsUpTo n store → IsCurrentUse carried (option_map (λ m. m.generation) (glyph_at store p f k)) → IsUseUpTo n carried
mask_up_to n p f k None store up h = tt
mask_up_to n p f k (Some g) store up h = let w = generation_from (λ m. m.generation) (glyph_at store p f k) g h in subst (λ (z : ℕ). z ≤ n) w.2 (up.masks p f k w.0 w.1)

glyphs_up_to : (n p f : ℕ) (glyphs : List GlyphUse) (store : StoreModel) → IsUpTo n store
    → All (λ (g : GlyphUse). IsCurrentUse g.generation (option_map (λ m. m.generation) (glyph_at store p f g.glyph))) glyphs → All (λ (g : GlyphUse). IsUseUpTo n g.generation) glyphs
glyphs_up_to n p f [] store up h = All-nil (λ (g : GlyphUse). IsUseUpTo n g.generation)
glyphs_up_to n p f (g ∷ glyphs) store up h =
    All-cons (λ (u : GlyphUse). IsUseUpTo n u.generation) g glyphs
    (mask_up_to n p f g.glyph g.generation store up (All-head (λ (u : GlyphUse). IsCurrentUse u.generation (option_map (λ m. m.generation) (glyph_at store p f u.glyph))) g glyphs h))
    (glyphs_up_to n p f glyphs store up (All-tail (λ (u : GlyphUse). IsCurrentUse u.generation (option_map (λ m. m.generation) (glyph_at store p f u.glyph))) g glyphs h))

named_here : (n : ℕ) (e : Entry) (store : StoreModel) → IsUpTo n store → IsCurrent store e → IsNamedUpTo n e
named_here n (entry.Primitive p) store up h = kind_up_to p.kind h
  where
    kind_up_to : (k : Kind) → IsCurrentKind store k → IsKindUpTo n k
    kind_up_to (kind.Solid colour) h = tt
    kind_up_to (kind.Image p key g u v) h = image_up_to n p key g store up h
    kind_up_to (kind.Border widths top right bottom l radii) h = tt
    kind_up_to (kind.Text p f colour glyphs) h = glyphs_up_to n p f glyphs store up h
named_here n (entry.Push opacity mode clips) store up h = tt
named_here n entry.Pop store up h = tt

pub named_up_to : (n : ℕ) (es : List Entry) (store : StoreModel) → IsUpTo n store → All (IsCurrent store) es → All (IsNamedUpTo n) es
named_up_to n [] store up h = All-nil (IsNamedUpTo n)
named_up_to n (e ∷ es) store up h = All-cons (IsNamedUpTo n) e es (named_here n e store up (All-head (IsCurrent store) e es h)) (named_up_to n es store up (All-tail (IsCurrent store) e es h))
