use Rattle.scene_flatten.proofs.Flat.{tops_have_clips}
use Rattle.scene_flatten.proofs.Nesting.{tops_are_shallow, tops_have_few_entries}
use Rattle.scene_flatten.proofs.Paints.{top_paints, tops_paint_items, tops_paint_root}
use Rattle.scene_flatten.proofs.laws.flat_laws.Goals as goal

pub returns : goal.returns
returns c = record {
  top = top_paints;
  tops = tops_paint_items;
  root = tops_paint_root;
  clips = tops_have_clips;
  shallow = tops_are_shallow;
  few = tops_have_few_entries;
}
