-- Colours of four bytes, premultiplied: what scaling and blending give, in nine modes.
use Rattle.std.specs.Prelude.{ℕ, ◌+◌, ◌-◌, ◌*◌, ◌/◌, ◌≤◌, ◌<◌, ◌^◌, min, max, nat_le, Bool, ◌&&◌, List, [], ◌∷◌, slice_index, if◌then◌else◌}
use Rattle.blend_rules.specs.declared.colour.Px.{Px}
use Rattle.blend_rules.specs.declared.mode.Mode.{Mode}
use Rattle.blend_rules.specs.declared.mode.Mode.TheVariants.{Normal, Multiply, Screen, Overlay, Darken, Lighten, HardLight, Difference, Exclusion}

-- no colour byte exceeds alpha
pub record IsPremultiplied (p : Px) : Type 0 where
  pub blue : p.b ≤ p.a
  pub green : p.g ≤ p.a
  pub red : p.r ≤ p.a

-- a premultiplied colour of four bytes
pub record IsPixel (p : Px) : Type 0 where
  pub premultiplied : IsPremultiplied p
  pub byte : p.a < 2 ^ 8

-- all four are bytes
pub record HasBytes (p : Px) : Type 0 where
  pub blue : p.b < 2 ^ 8
  pub green : p.g < 2 ^ 8
  pub red : p.r < 2 ^ 8
  pub alpha : p.a < 2 ^ 8

-- whether no colour byte exceeds alpha
unfoldable pub is_premultiplied : Px → Bool
is_premultiplied p = nat_le p.b p.a && nat_le p.g p.a && nat_le p.r p.a

-- the four bytes of a colour, in the order in which they are stored
unfoldable pub colour_bytes : Px → List ℕ
colour_bytes p = p.b ∷ (p.g ∷ (p.r ∷ (p.a ∷ [])))

-- the colour whose four bytes stand in a list from a position on
abbrev pub colour_from : List ℕ → ℕ → Px
colour_from bytes at = record { b = slice_index bytes at; g = slice_index bytes (at + 1); r = slice_index bytes (at + 2); a = slice_index bytes (at + 3) }

-- the colour without any light or cover
abbrev pub clear : Px
clear = record { b = 0; g = 0; r = 0; a = 0 }

-- x times y as a share of 255
unfoldable pub product : ℕ → ℕ → ℕ
product x y = (x * y + x) / 256

-- the number of a mode
abbrev pub mode_number : Mode → ℕ
mode_number Normal = 0
mode_number Multiply = 1
mode_number Screen = 2
mode_number Overlay = 3
mode_number Darken = 4
mode_number Lighten = 5
mode_number HardLight = 6
mode_number Difference = 7
mode_number Exclusion = 8

-- the alpha of sa over da
abbrev pub alpha_sum : ℕ → ℕ → ℕ
alpha_sum sa da = sa + da - product da sa

-- Below, a mode's value on one colour channel, s over d under the alphas sa and da. Each is one difference of two
-- sums, so it ends at 0 exactly where the difference of integers is not positive.

-- the source over the backdrop
abbrev pub normal_value : ℕ → ℕ → ℕ → ℕ → ℕ
normal_value sa da s d = s + d - product d sa

-- the product of both, beside each where the other is not
abbrev pub multiply_value : ℕ → ℕ → ℕ → ℕ → ℕ
multiply_value sa da s d = s + d + product s d - (product s da + product d sa)

-- both, less their product
abbrev pub screen_value : ℕ → ℕ → ℕ → ℕ → ℕ
screen_value sa da s d = s + d - product d s

-- the product twice, beside each where the other is not
abbrev pub dark_value : ℕ → ℕ → ℕ → ℕ → ℕ
dark_value sa da s d = s + d + 2 * product s d - (product s da + product d sa)

-- the complements' product twice, off the alphas' product
abbrev pub light_value : ℕ → ℕ → ℕ → ℕ → ℕ
light_value sa da s d = s + d + product sa da - (product s da + product d sa + 2 * product (da - d) (sa - s))

-- dark or light, as the backdrop is
abbrev pub overlay_value : ℕ → ℕ → ℕ → ℕ → ℕ
overlay_value sa da s d = if nat_le (2 * d) da then dark_value sa da s d else light_value sa da s d

-- the darker of both
abbrev pub darken_value : ℕ → ℕ → ℕ → ℕ → ℕ
darken_value sa da s d = s + d - max (product s da) (product d sa)

-- the lighter of both
abbrev pub lighten_value : ℕ → ℕ → ℕ → ℕ → ℕ
lighten_value sa da s d = s + d - min (product s da) (product d sa)

-- dark or light, as the source is
abbrev pub hard_light_value : ℕ → ℕ → ℕ → ℕ → ℕ
hard_light_value sa da s d = if nat_le (2 * s) sa then dark_value sa da s d else light_value sa da s d

-- how far both are apart
abbrev pub difference_value : ℕ → ℕ → ℕ → ℕ → ℕ
difference_value sa da s d = s + d - 2 * min (product s da) (product d sa)

-- both, less their product twice
abbrev pub exclusion_value : ℕ → ℕ → ℕ → ℕ → ℕ
exclusion_value sa da s d = s + d - 2 * product d s

-- a mode's value on one channel
abbrev pub mode_value : Mode → ℕ → ℕ → ℕ → ℕ → ℕ
mode_value Normal = normal_value
mode_value Multiply = multiply_value
mode_value Screen = screen_value
mode_value Overlay = overlay_value
mode_value Darken = darken_value
mode_value Lighten = lighten_value
mode_value HardLight = hard_light_value
mode_value Difference = difference_value
mode_value Exclusion = exclusion_value

-- each byte of a colour times c of 255
unfoldable pub scaled : Px → ℕ → Px
scaled p c = record { b = product p.b c; g = product p.g c; r = product p.r c; a = product p.a c }

-- one colour channel in a mode: the mode's value, held between 0, where its difference ends, and the alpha of both
abbrev pub blended_channel : Mode → ℕ → ℕ → ℕ → ℕ → ℕ
blended_channel m sa da s d = min (alpha_sum sa da) (mode_value m sa da s d)

-- the colour s blended over d
unfoldable pub blended : Mode → Px → Px → Px
blended m s d = record {
  b = blended_channel m s.a d.a s.b d.b;
  g = blended_channel m s.a d.a s.g d.g;
  r = blended_channel m s.a d.a s.r d.r;
  a = alpha_sum s.a d.a;
}

-- s with what its alpha leaves of d, in each byte, and no limit set
unfoldable pub source_over : Px → Px → Px
source_over s d = record {
  b = s.b + (d.b - product d.b s.a);
  g = s.g + (d.g - product d.g s.a);
  r = s.r + (d.r - product d.r s.a);
  a = s.a + (d.a - product d.a s.a);
}
