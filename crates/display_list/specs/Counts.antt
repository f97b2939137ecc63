-- Counts that fit the fields that hold them.
use Rattle.std.specs.Prelude.{◌<◌, ◌^◌, length}
use Rattle.display_list.specs.declared.node.ChainDef.{ChainDef}
use Rattle.display_list.specs.declared.token.Token.{Token}
use Rattle.display_list.specs.declared.token.Token.TheVariants.{Text}

-- the number of a chain's own clips fits a byte
pub record HasFewClips (c : ChainDef) : Type 0 where
  pub few : length c.clips < 256

-- the number of a text's glyphs fits two bytes
abbrev pub HasFewGlyphs : Token → Type 0
HasFewGlyphs (Text spot font colour glyphs) = length glyphs < 2 ^ 16
HasFewGlyphs _ = Unit {0}
