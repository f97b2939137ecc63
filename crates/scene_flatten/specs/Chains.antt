-- The chains of a list where they are drawn, as far as they are known.
use Rattle.std.specs.Prelude.{◌≡◌, ℕ, List, length, Option, Some, slice_get}
use Rattle.spatial_tree.specs.Homes.{homes_of}
use Rattle.painter.specs.PlacedList.{PlacedList, chain_clips}
use Rattle.scene_flatten.specs.declared.chains.PlacedChain.{PlacedChain}

-- a chain's clips where they are, and the scroll number of the outermost scroll frame of each
abbrev pub placed_chain : PlacedList → Option ℕ → PlacedChain
placed_chain l chain = record { clips = chain_clips l chain; scrolls = homes_of l.list chain }

-- a place for each chain of the list, and what is there is that chain
pub record IsChainTable (l : PlacedList) (table : List (Option PlacedChain)) : Type 0 where
  pub all : length table ≡ length l.list.chains
  pub each : (k : ℕ) (c : PlacedChain) → slice_get table k ≡ Some (Some c) → c ≡ placed_chain l (Some k)

-- the chain is known
abbrev pub IsResolved : List (Option PlacedChain) → ℕ → Type 0
IsResolved table chain = (c : PlacedChain) × (slice_get table chain ≡ Some (Some c))
