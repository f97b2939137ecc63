-- The table of modes at two pairs of channels, worked by hand.
use Rattle.std.proofs.Common.{◌≡◌, List, [], ◌∷◌, map, refl}
use Rattle.blend_rules.specs.declared.mode.Mode.{Mode}
use Rattle.blend_rules.specs.declared.mode.Mode.TheVariants.{Normal, Multiply, Screen, Overlay, Darken, Lighten, HardLight, Difference, Exclusion}
use Rattle.blend_rules.specs.Colour.{product, blended_channel}

-- the modes by their numbers
abbrev all_modes : List Mode
all_modes = Normal ∷ (Multiply ∷ (Screen ∷ (Overlay ∷ (Darken ∷ (Lighten ∷ (HardLight ∷ (Difference ∷ (Exclusion ∷ []))))))))

pub row_of_light_backdrop : map (λ m. blended_channel m 200 150 100 60) all_modes ≡ 113 ∷ 78 ∷ 137 ∷ 101 ∷ 102 ∷ 113 ∷ 101 ∷ 66 ∷ 114 ∷ []
unfolding product
row_of_light_backdrop = refl

pub row_of_dark_backdrop : map (λ m. blended_channel m 200 150 150 100) all_modes ≡ 172 ∷ 143 ∷ 192 ∷ 183 ∷ 162 ∷ 172 ∷ 183 ∷ 94 ∷ 134 ∷ []
unfolding product
row_of_dark_backdrop = refl
