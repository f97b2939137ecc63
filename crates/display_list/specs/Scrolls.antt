-- The scroll numbers of nodes, as a set.
use Rattle.std.specs.Prelude.{◌≡◌, ℕ, List}
use Rattle.std.specs.List.{list_any}
use Rattle.std.specs.Ordering.{nat_cmp}
use Rattle.std.specs.BTreeSet.{BTreeSet, contains}
use Rattle.display_list.specs.declared.node.Node.{Node}
use Rattle.display_list.specs.Levels.{has_scroll}

-- the set has a number exactly where a node is scrolled by it
abbrev pub HasScrollsOf : List Node → BTreeSet ℕ → Type 0
HasScrollsOf nodes scrolls = (sid : ℕ) → contains nat_cmp scrolls sid ≡ list_any (has_scroll sid) nodes
