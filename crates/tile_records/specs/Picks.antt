-- What of a slice's entries matters in a tile.
use Rattle.std.specs.Prelude.{Bool, List, [], ◌∷◌, ◌++◌, reverse, if◌then◌else◌}
use Rattle.wr_geom.specs.Bounds.{Bounds}
use Rattle.primitives.specs.Colours.{visible_rect}
use Rattle.primitives.specs.PrimitiveModel.{PrimitiveModel}
use Rattle.primitives.specs.declared.entry.Entry.{Entry}
use Rattle.primitives.specs.declared.entry.Entry.TheVariants as entry
use Rattle.tile_grid.specs.Tiles.{meets}

-- whether a primitive's visible rectangle meets a tile's
abbrev pub shows_in : Bounds → PrimitiveModel → Bool
shows_in rect p = meets rect (visible_rect p)

module _ {A : Type 0} (shows : PrimitiveModel → Bool) where
  -- What is picked of things, one for each entry. A group waits from its Push on until a primitive in it is picked. Where
  -- none is, it ends with its Pop and leaves nothing. The groups that wait come first, the innermost one first.
  abbrev pub picked_after : List A → List Entry → List A → List A
  picked_after waiting [] xs = []
  picked_after waiting (e ∷ es) [] = []
  picked_after waiting (entry.Primitive p ∷ es) (x ∷ xs) =
      if shows p then reverse waiting ++ (x ∷ picked_after [] es xs) else picked_after waiting es xs
  picked_after waiting (entry.Push opacity mode clips ∷ es) (x ∷ xs) = picked_after (x ∷ waiting) es xs
  picked_after [] (entry.Pop ∷ es) (x ∷ xs) = x ∷ picked_after [] es xs
  picked_after (w ∷ waiting) (entry.Pop ∷ es) (x ∷ xs) = picked_after waiting es xs

-- the primitives whose visible rectangles meet the tile, and the groups in which one is left, in their order
abbrev pub picked : Bounds → List Entry → List Entry
picked rect es = picked_after (shows_in rect) [] es es
