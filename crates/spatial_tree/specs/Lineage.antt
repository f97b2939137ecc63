-- The way from the outermost ancestor down to a node or a chain.
use Rattle.std.specs.Prelude.{ℕ, zero, suc, List, [], ◌∷◌, ◌++◌, length, flat_map, Option, Some, None, slice_get, option_to_list}
use Rattle.display_list.specs.declared.node.Node.{Node}
use Rattle.display_list.specs.declared.node.ClipDef.{ClipDef}
use Rattle.display_list.specs.declared.node.ChainDef.{ChainDef}
use Rattle.display_list.specs.ListModel.{ListModel}
use Rattle.display_list.specs.Levels.{parent_of}

-- a member after its ancestors
abbrev pub after_ancestors : {A : Type 0} → (A → Option ℕ) → (Option ℕ → List A) → Option A → List A
after_ancestors parent lineage_of None = []
after_ancestors parent lineage_of (Some x) = lineage_of (parent x) ++ x ∷ []

-- a member's ancestors and then itself, outermost first, as far up as so many steps reach
abbrev pub lineage : {A : Type 0} → (A → Option ℕ) → List A → ℕ → Option ℕ → List A
lineage parent xs steps None = []
lineage parent xs zero (Some k) = []
lineage parent xs (suc steps) (Some k) = after_ancestors parent (lineage parent xs steps) (slice_get xs k)

-- ---- nodes

-- where a node of this number stands in its list, which doesn't have the root
abbrev pub index_of : ℕ → Option ℕ
index_of zero = None
index_of (suc k) = Some k

-- the nodes on the way from the root, which isn't among them, down to a node
unfoldable pub nodes_to : List Node → ℕ → List Node
nodes_to nodes node = lineage (λ n. index_of (parent_of n)) nodes (length nodes) (index_of node)

-- ---- chains

-- a chain's parents, outermost first, and then itself
unfoldable pub chains_to : List ChainDef → Option ℕ → List ChainDef
chains_to chains chain = lineage (λ c. c.parent) chains (length chains) chain

-- the numbers of a chain's clips: those of its parents, outermost first, and then its own
unfoldable pub clip_numbers : List ChainDef → Option ℕ → List ℕ
clip_numbers chains chain = flat_map (λ c. c.clips) (chains_to chains chain)

-- the members with these numbers
abbrev pub members_at : {A : Type 0} → List A → List ℕ → List A
members_at xs numbers = flat_map (λ k. option_to_list (slice_get xs k)) numbers

-- a chain's clips, with those of its parents before its own
unfoldable pub clips_of : ListModel → Option ℕ → List ClipDef
clips_of l chain = members_at l.clips (clip_numbers l.chains chain)
