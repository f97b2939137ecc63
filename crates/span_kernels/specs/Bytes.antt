-- Single bytes and rows of bytes, as the kernels leave them.
use Rattle.std.specs.Prelude.{ℕ, ◌+◌, ◌-◌, List, [], ◌∷◌}
use Rattle.blend_rules.specs.Colour.{product}

-- a byte of a source under the alpha sa, over a byte of a backdrop
abbrev pub over_byte : ℕ → ℕ → ℕ → ℕ
over_byte sa s d = s + (d - product d sa)

-- the bytes of four planes in turn, pixel by pixel, as far as all four go
abbrev pub interleaved : List ℕ → List ℕ → List ℕ → List ℕ → List ℕ
interleaved [] greens reds alphas = []
interleaved (b ∷ blues) [] reds alphas = []
interleaved (b ∷ blues) (g ∷ greens) [] alphas = []
interleaved (b ∷ blues) (g ∷ greens) (r ∷ reds) [] = []
interleaved (b ∷ blues) (g ∷ greens) (r ∷ reds) (a ∷ alphas) = b ∷ (g ∷ (r ∷ (a ∷ interleaved blues greens reds alphas)))
