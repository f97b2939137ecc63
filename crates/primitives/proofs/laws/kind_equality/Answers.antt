use Rattle.std.proofs.Common.{ap}
use Rattle.wr_geom.specs.Sides.{same_radii}
use Rattle.blend_rules.specs.declared.colour.Px.{Px}
use Rattle.primitives.specs.declared.kind.Kind.TheVariants as kind
use Rattle.primitives.proofs.Sames.{same_px, same_image, same_border, same_text}
use Rattle.primitives.proofs.laws.kind_equality.Goals as goal

pub returns : goal.returns
unfolding same_radii
returns c (kind.Solid p) (kind.Solid q) h = ap (λ (k : Px). kind.Solid k) (same_px p q h)
returns c (kind.Solid p) (kind.Image q l f s t) h = absurd cc
returns c (kind.Solid p) (kind.Border w t r b l d) h = absurd cc
returns c (kind.Solid p) (kind.Text q f k gs) h = absurd cc
returns c (kind.Image p k g u v) (kind.Solid q) h = absurd cc
returns c (kind.Image p k g u v) (kind.Image q l f s t) h = same_image p q k l g f u s v t h
returns c (kind.Image p k g u v) (kind.Border w t r b l d) h = absurd cc
returns c (kind.Image p k g u v) (kind.Text q f l gs) h = absurd cc
returns c (kind.Border w t r b l d) (kind.Solid q) h = absurd cc
returns c (kind.Border w t r b l d) (kind.Image q k f s v) h = absurd cc
returns c (kind.Border w t r b l d) (kind.Border w' t' r' b' l' d') h = same_border w w' t t' r r' b b' l l' d d' h
returns c (kind.Border w t r b l d) (kind.Text q f k gs) h = absurd cc
returns c (kind.Text p f k gs) (kind.Solid q) h = absurd cc
returns c (kind.Text p f k gs) (kind.Image q l g s t) h = absurd cc
returns c (kind.Text p f k gs) (kind.Border w t r b l d) h = absurd cc
returns c (kind.Text p f k gs) (kind.Text p' f' k' hs) h = same_text _ (λ xs ys e. (c.sequence_laws.ensures.equality (c.exact_laws.ensures.equality c.glyph_equality.ensures) xs ys).0 e) p p' f f' k k' gs hs h
