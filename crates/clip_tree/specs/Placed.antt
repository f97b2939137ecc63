-- The clips of chains where their nodes are.
use Rattle.std.specs.Prelude.{ℕ, List, map, Option, slice_index_or}
use Rattle.wr_geom.specs.declared.point.Point.{Point}
use Rattle.clip_masks.specs.Clips.{shifted_clip}
use Rattle.clip_masks.specs.declared.clip.Clip.{Clip}
use Rattle.display_list.specs.declared.node.ClipDef.{ClipDef}
use Rattle.display_list.specs.ListModel.{ListModel}
use Rattle.spatial_tree.specs.Lineage.{clips_of}
use Rattle.spatial_tree.specs.Offsets.{no_distance}

-- a clip as it is defined, relative to its node
abbrev pub clip_of : ClipDef → Clip
clip_of c = record { shape = record { rect = c.rect; radii = c.radii }; out = c.out }

-- moved to its node's offset
abbrev pub placed_clip : (ℕ → Point) → ClipDef → Clip
placed_clip offset c = shifted_clip (clip_of c) (offset c.node)

-- a chain's clips, each moved to its node's offset: those of its parents, outermost first, and then its own
unfoldable pub placed_clips : ListModel → (ℕ → Point) → Option ℕ → List Clip
placed_clips l offset chain = map (placed_clip offset) (clips_of l chain)

-- a node's offset in a table
abbrev pub in_table : List Point → ℕ → Point
in_table offsets node = slice_index_or offsets node no_distance
