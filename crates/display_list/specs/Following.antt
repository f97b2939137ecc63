-- Which part may follow what was read.
use Rattle.std.specs.Prelude.{◌≡◌, ℕ, ◌+◌, ◌<◌, ◌≤◌, false, List, [], ◌∷◌, All, length, slice_index, IsTrue, Option, Some, None}
use Rattle.std.specs.List.{list_any}
use Rattle.display_list.specs.declared.node.Node.{Node}
use Rattle.display_list.specs.declared.node.Node.TheVariants as node
use Rattle.display_list.specs.declared.node.ClipDef.{ClipDef}
use Rattle.display_list.specs.declared.node.ChainDef.{ChainDef}
use Rattle.display_list.specs.declared.token.Token.{Token}
use Rattle.display_list.specs.declared.token.Token.TheVariants.{Iframe}
use Rattle.display_list.specs.declared.token.Part.{Part}
use Rattle.display_list.specs.declared.token.Part.TheVariants as part
use Rattle.field_forms.specs.Facts.{IsReference, IsOptionalReference}
use Rattle.display_list.specs.Levels.{parent_of, has_scroll, inherited, MayNest}
use Rattle.display_list.specs.PartialList.{PartialList, after, takes_nodes, takes_clips, takes_chains}
use Rattle.display_list.specs.Facts.{IsNode, IsClip, IsToken}

-- no earlier node is scrolled by its number
abbrev pub IsNewScroll : List Node → Node → Type 0
IsNewScroll nodes (node.Reference parent x y prop) = Unit {0}
IsNewScroll nodes (node.Scroll parent sid view_w view_h content_w content_h) = list_any (has_scroll sid) nodes ≡ false

-- a node below one that stands, within 64 levels
pub record NodeFollows (s : PartialList) (n : Node) : Type 0 where
  pub section : IsTrue (takes_nodes s.section)
  pub room : length s.nodes < 4096
  pub parent : IsReference (length s.levels) (parent_of n)
  pub level : slice_index s.levels (parent_of n) < 64
  pub new : IsNewScroll s.nodes n
  pub fields : IsNode n

pub record ClipFollows (s : PartialList) (c : ClipDef) : Type 0 where
  pub section : IsTrue (takes_clips s.section)
  pub room : length s.clips < 4096
  pub clip : IsClip (length s.levels) c

-- a chain below one that stands, or below none, with at most 255 clips in all
pub record ChainFollows (s : PartialList) (c : ChainDef) : Type 0 where
  pub section : IsTrue (takes_chains s.section)
  pub room : length s.chains < 4096
  pub parent : IsOptionalReference (length s.totals) c.parent
  pub total : inherited s.totals c.parent + length c.clips ≤ 255
  pub clips : All (IsReference (length s.clips)) c.clips

-- an Iframe names no pipeline below this one
abbrev pub NamesFrom : ℕ → Token → Type 0
NamesFrom min_pipeline (Iframe spot pipeline) = min_pipeline ≤ pipeline
NamesFrom min_pipeline _ = Unit {0}

pub record ItemFollows (min_pipeline : ℕ) (s : PartialList) (t : Token) : Type 0 where
  pub token : IsToken (length s.levels) (length s.chains) t
  pub nest : MayNest s.depth t
  pub named : NamesFrom min_pipeline t

abbrev pub CanFollow : ℕ → PartialList → Part → Type 0
CanFollow min_pipeline s (part.Node n) = NodeFollows s n
CanFollow min_pipeline s (part.Clip c) = ClipFollows s c
CanFollow min_pipeline s (part.Chain c) = ChainFollows s c
CanFollow min_pipeline s (part.Item t) = ItemFollows min_pipeline s t

-- the End follows where no context is open
abbrev pub NextFollows : ℕ → PartialList → Option Part → Type 0
NextFollows min_pipeline s None = s.depth ≡ 0
NextFollows min_pipeline s (Some p) = CanFollow min_pipeline s p

-- each part may follow those before it
abbrev pub AllFollow : ℕ → PartialList → List Part → Type 0
AllFollow min_pipeline s [] = Unit {0}
AllFollow min_pipeline s (p ∷ ps) = CanFollow min_pipeline s p × AllFollow min_pipeline (after s p) ps
