-- Items where they are drawn: an Iframe is an item, and stands for the items of the pipeline that it names too.
use Rattle.std.specs.Prelude.{ℕ, ◌+◌, List, [], ◌∷◌, ◌++◌, length, map, Option, Some, None, slice_index_or}
use Rattle.display_list.specs.Trees.{Tree, solid, image, border, text, context, iframe, hit_area, Trees, none, more}

-- an item where it is drawn: how many contexts nest there, with itself, how many clips it has, and how many glyphs
pub record Shown : Type 0 where
  pub nesting : ℕ
  pub clips : ℕ
  pub glyphs : ℕ

-- outside any context
abbrev pub alone : ℕ → ℕ → Shown
alone clips glyphs = record { nesting = 0; clips = clips; glyphs = glyphs }

-- in n contexts more
abbrev pub within : ℕ → Shown → Shown
within n s = record { nesting = s.nesting + n; clips = s.clips; glyphs = s.glyphs }

-- under n clips more
abbrev pub under : ℕ → Shown → Shown
under n s = record { nesting = s.nesting; clips = s.clips + n; glyphs = s.glyphs }

-- the clips of a chain, by how many each chain has with its parents'
abbrev pub chain_clip_count : List ℕ → Option ℕ → ℕ
chain_clip_count counts None = 0
chain_clip_count counts (Some chain) = slice_index_or counts chain 0

abbrev mutual
  -- The items that a tree stands for; `below` gives those of another pipeline. A context's chain counts for the context alone. An
  -- Iframe's chain and its rectangle count for each item inside it, and its chain for itself.
  pub shown_tree : (ℕ → List Shown) → List ℕ → Tree → List Shown
  shown_tree below counts (solid spot colour) = alone (chain_clip_count counts spot.chain) 0 ∷ []
  shown_tree below counts (image spot key u v) = alone (chain_clip_count counts spot.chain) 0 ∷ []
  shown_tree below counts (border spot widths top right bottom l radii) = alone (chain_clip_count counts spot.chain) 0 ∷ []
  shown_tree below counts (text spot font colour glyphs) = alone (chain_clip_count counts spot.chain) (length glyphs) ∷ []
  shown_tree below counts (context p ts) = map (within 1) (alone (chain_clip_count counts p.chain) 0 ∷ shown_trees below counts ts)
  shown_tree below counts (iframe spot pipeline) =
      alone (chain_clip_count counts spot.chain) 0 ∷ map (under (chain_clip_count counts spot.chain + 1)) (below pipeline)
  shown_tree below counts (hit_area spot tag) = alone (chain_clip_count counts spot.chain) 0 ∷ []

  pub shown_trees : (ℕ → List Shown) → List ℕ → Trees → List Shown
  shown_trees below counts none = []
  shown_trees below counts (more t ts) = shown_tree below counts t ++ shown_trees below counts ts

-- no pipeline has items
abbrev pub nobody : ℕ → List Shown
nobody pipeline = []
