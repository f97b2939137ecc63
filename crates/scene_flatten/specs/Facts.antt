-- What has to hold of items of which entries are made.
use Rattle.std.specs.Prelude.{◌≡◌, ◌+◌, List, length, All}
use Rattle.wr_geom.specs.declared.point.Point.{Point}
use Rattle.display_list.specs.Facts.{IsList}
use Rattle.display_list.specs.Trees.{IsTree}
use Rattle.spatial_tree.specs.Offsets.{IsOffset, offsets_of}
use Rattle.pipelines.specs.Table.{PipelineMap}
use Rattle.primitives.specs.Tops.{IsSliceOrigin, AreCloseClips}
use Rattle.painter.specs.PlacedList.{PlacedList}
use Rattle.painter.specs.TopItems.{Around, TopItem}
use Rattle.painter.specs.Facts.{IsPlaced, TreeReaches}

-- a list that meets its checks, and each of whose nodes is in reach
pub record IsNearList (l : PlacedList) : Type 0 where
  pub placed : IsPlaced l
  pub list : IsList l.list

-- where its nodes are, by their numbers, the root's first
pub record HasPoints (l : PlacedList) (points : List Point) : Type 0 where
  pub table : points ≡ offsets_of l.list.nodes l.moves l.origin
  pub count : length points ≡ length l.list.nodes + 1
  pub near : All IsOffset points

-- what Iframes put around a list is in reach too
pub record IsNearAround (a : Around) : Type 0 where
  pub origin : IsSliceOrigin a.origin
  pub clips : AreCloseClips a.clips

-- a top item is in reach with all around it and in it
pub record IsNearTop (pipelines : PipelineMap) (t : TopItem) : Type 0 where
  pub list : IsNearList t.list
  pub around : IsNearAround t.around
  pub fields : IsTree (length t.list.list.nodes + 1) (length t.list.list.chains) t.item
  pub reach : TreeReaches pipelines t.list t.item
