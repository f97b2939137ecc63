-- The home and the clips of a top.
use Rattle.std.specs.Prelude.{List, zip}
use Rattle.primitives.specs.declared.entry.Top.{Top}
use Rattle.primitives.specs.Tops.{first_clips}
use Rattle.slice_rules.specs.Homes.{Home}
use Rattle.slice_rules.specs.Shared.{HomedClip}

-- the home of a top
abbrev pub home_of_top : Top → Home
home_of_top t = t.scroll

-- the clips of a top with their homes
abbrev pub clips_of_top : Top → List HomedClip
clips_of_top t = zip (first_clips t.entries) t.homes
