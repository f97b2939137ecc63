-- When two keys of tiles are equal.
use Rattle.std.specs.Prelude.{◌≡◌, ◌↔◌, Bool, IsTrue}
use Rattle.wr_geom.specs.declared.keys.TileKey.{TileKey}
use Rattle.wr_geom.specs.contracts.keys.TileKeyPartialEq.TheImpl as by_key

-- whether two keys are equal, as `==` says
abbrev pub same_key : TileKey → TileKey → Bool
same_key = (by_key.ghosts).eq

-- `==` tells keys apart exactly where they differ
abbrev pub SameKeysAreEqual : Type 0
SameKeysAreEqual = (a b : TileKey) → IsTrue (same_key a b) ↔ (a ≡ b)
