-- The clips of top items with their homes. Of these, a slice shares some.
use Rattle.std.specs.Prelude.{List, ◌++◌, zip}
use Rattle.clip_masks.specs.declared.clip.Clip.{Clip}
use Rattle.slice_rules.specs.Homes.{Home}
use Rattle.slice_rules.specs.Shared.{HomedClip}
use Rattle.painter.specs.PlacedList.{chain_clips}
use Rattle.painter.specs.TopItems.{TopItem, clip_homes, own_chain}

-- the clips of a top item, outermost first: those around it, and then those of its own chain
abbrev pub top_clips : TopItem → List Clip
top_clips t = t.around.clips ++ chain_clips t.list (own_chain t.item)

-- the home of each
abbrev pub top_homes : TopItem → List Home
top_homes t = clip_homes t.around t.list (own_chain t.item)

-- the clips of a top item with their homes
abbrev pub homed_clips : TopItem → List HomedClip
homed_clips t = zip (top_clips t) (top_homes t)
