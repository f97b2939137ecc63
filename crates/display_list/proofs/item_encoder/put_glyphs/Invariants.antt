use Rattle.std.proofs.Common.{◌≡◌, ◌++◌, drop}
use Rattle.std.specs.List.{flat_map}
use Rattle.display_list.specs.Spelling.{glyph_bytes}
use Rattle.display_list.proofs.item_encoder.put_glyphs.Given as goal

-- what is written and what is left are all
abbrev pub invariant-loop-glyph : goal.invariant-loop-glyph
invariant-loop-glyph l = l.out.items ++ flat_map glyph_bytes (drop l.glyph-index l.glyphs) ≡ l.fn.out.items ++ flat_map glyph_bytes l.glyphs
