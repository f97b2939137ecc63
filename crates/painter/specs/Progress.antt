-- The picture in one pass over the top items.
use Rattle.std.specs.Prelude.{◌+◌, ◌==◌, ◌||◌, ◌&&◌, not, nat_lt, Bool, None, if◌then◌else◌}
use Rattle.blend_rules.specs.declared.colour.Px.{Px}
use Rattle.blend_rules.specs.declared.mode.Mode.TheVariants.{Normal}
use Rattle.blend_rules.specs.Colour.{clear, blended}
use Rattle.painter.specs.Painter.{ScenePixel}
use Rattle.slice_rules.specs.Homes.{Home, same_home}
use Rattle.painter.specs.TopItems.{TopItem, home_of, paint_top}
use Rattle.painter.specs.declared.progress.Progress.{Progress}

-- before the first top item, over the colour behind all
abbrev pub begin : Px → Progress
begin behind = record { runs = 0; home = None; slice = clear; picture = behind }

-- whether a top item of a home begins a slice: the first one does, and each of another home than the one before, in the first eight runs
abbrev pub begins : Home → Progress → Bool
begins home p = p.runs == 0 || (nat_lt p.runs 8 && not (same_home p.home home))

-- the slice so far, laid over those below it
abbrev pub laid : Progress → Px
laid p = blended Normal p.slice p.picture

-- in the slice of a top item of a home
abbrev pub entered : Home → Progress → Progress
entered home p = if begins home p then record { runs = p.runs + 1; home = home; slice = clear; picture = laid p } else p

-- after a top item that is painted over its slice
abbrev pub after_top : ScenePixel → Progress → TopItem → Progress
after_top s p t = let q = entered (home_of t) p in record { runs = q.runs; home = q.home; slice = paint_top s t q.slice; picture = q.picture }
