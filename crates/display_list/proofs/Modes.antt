-- The mode of a mode's number.
use Rattle.std.proofs.Common.{◌≡◌, ℕ, refl, ap, sym, ◌∙◌}
use Rattle.blend_rules.specs.declared.mode.Mode.{Mode}
use Rattle.blend_rules.specs.declared.mode.Mode.TheVariants.{Normal, Multiply, Screen, Overlay, Darken, Lighten, HardLight, Difference, Exclusion}
use Rattle.blend_rules.specs.Colour.{mode_number}
use Rattle.display_list.specs.Parts.{mode_of}

again : (m : Mode) → mode_of (mode_number m) ≡ m
again Normal = refl
again Multiply = refl
again Screen = refl
again Overlay = refl
again Darken = refl
again Lighten = refl
again HardLight = refl
again Difference = refl
again Exclusion = refl

pub mode_of_number : (m : Mode) (n : ℕ) → mode_number m ≡ n → mode_of n ≡ m
mode_of_number m n e = ap mode_of (sym e) ∙ again m
