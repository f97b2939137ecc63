use Rattle.std.proofs.Common.{◌≡◌, ◌++◌, map, take}
use Rattle.painter.specs.TopItems.{home_in}
use Rattle.scene_flatten.proofs.around.Around.with_scrolls.Given as goal

-- the homes so far
abbrev pub invariant-loop-scroll : goal.invariant-loop-scroll
invariant-loop-scroll l = l.homes.items ≡ l.fn.self.homes ++ map (home_in l.self l.placed) (take l.scroll-index l.scrolls)
