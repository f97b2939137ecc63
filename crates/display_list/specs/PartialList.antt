-- A list as far as it was read.
use Rattle.std.specs.Prelude.{ℕ, Bool, true, false, List, [], ◌∷◌, ◌++◌}
use Rattle.display_list.specs.declared.node.Node.{Node}
use Rattle.display_list.specs.declared.node.ClipDef.{ClipDef}
use Rattle.display_list.specs.declared.node.ChainDef.{ChainDef}
use Rattle.display_list.specs.declared.token.Token.{Token}
use Rattle.display_list.specs.declared.token.Part.{Part}
use Rattle.display_list.specs.declared.token.Part.TheVariants as part
use Rattle.display_list.specs.declared.token.Section.{Section}
use Rattle.display_list.specs.declared.token.Section.TheVariants.{Nodes, Clips, Chains, Items}
use Rattle.display_list.specs.Levels.{with_level, with_total, depth_after}
use Rattle.display_list.specs.ListModel.{ListModel}

-- the definitions, the level of each node with the root's, how many clips each chain has with its parents', the items, and how
-- many contexts are open
pub record PartialList : Type 0 where
  pub section : Section
  pub nodes : List Node
  pub levels : List ℕ
  pub clips : List ClipDef
  pub chains : List ChainDef
  pub totals : List ℕ
  pub items : List Token
  pub depth : ℕ

-- before the first part
abbrev pub start : PartialList
start = record { section = Nodes; nodes = []; levels = 0 ∷ []; clips = []; chains = []; totals = []; items = []; depth = 0 }

-- with one part more
abbrev pub after : PartialList → Part → PartialList
after s (part.Node n) = record s { nodes = s.nodes ++ n ∷ []; levels = with_level s.levels n }
after s (part.Clip c) = record s { section = Clips; clips = s.clips ++ c ∷ [] }
after s (part.Chain c) = record s { section = Chains; chains = s.chains ++ c ∷ []; totals = with_total s.totals c }
after s (part.Item t) = record s { section = Items; items = s.items ++ t ∷ []; depth = depth_after s.depth t }

-- with all of these parts
abbrev pub after_all : PartialList → List Part → PartialList
after_all s [] = s
after_all s (p ∷ ps) = after_all (after s p) ps

-- the list itself
abbrev pub list_of : PartialList → ListModel
list_of s = record { nodes = s.nodes; clips = s.clips; chains = s.chains; items = s.items }

-- which definitions may still come
abbrev pub takes_nodes : Section → Bool
takes_nodes Nodes = true
takes_nodes Clips = false
takes_nodes Chains = false
takes_nodes Items = false

abbrev pub takes_clips : Section → Bool
takes_clips Nodes = true
takes_clips Clips = true
takes_clips Chains = false
takes_clips Items = false

abbrev pub takes_chains : Section → Bool
takes_chains Nodes = true
takes_chains Clips = true
takes_chains Chains = true
takes_chains Items = false
