-- Laws of placed clips.
use Rattle.std.proofs.Common.{◌≡◌, ℕ, ◌+◌, ◌<◌, ◌≤◌, List, [], ◌∷◌, ◌++◌, length, map, get_or, refl, ap, ap₂, ◌∙◌, arith}
use Rattle.std.specs.Prelude.{All}
use Rattle.std.proofs.lemmas.Int.{ints}
use Rattle.std.proofs.lemmas.List.{append-nil, get_or_default, length-map, map-append}
use Rattle.std.proofs.lemmas.List.Elements.{All-head, All-tail}
use Rattle.wr_geom.specs.Bounds.{Bounds, shifted}
use Rattle.wr_geom.specs.Points.{point_sum}
use Rattle.wr_geom.specs.declared.point.Point.{Point}
use Rattle.wr_geom.proofs.Points.{same_bounds}
use Rattle.clip_masks.specs.Clips.{shifted_clip, shifted_clips}
use Rattle.clip_masks.specs.Coverage.{chain_coverage}
use Rattle.clip_masks.specs.declared.clip.Clip.{Clip}
use Rattle.clip_masks.proofs.Chains.{chain_none}
use Rattle.display_list.specs.declared.node.ClipDef.{ClipDef}
use Rattle.display_list.specs.ListModel.{ListModel}
use Rattle.display_list.specs.Facts.{IsClip, IsList}
use Rattle.spatial_tree.specs.Lineage.{clips_of, members_at}
use Rattle.spatial_tree.specs.Offsets.{no_distance, offset_of, offsets_of}
use Rattle.spatial_tree.proofs.Chains.{clip_numbers-few, clips_none, clips_after, clip_each, clips_are}
use Rattle.spatial_tree.proofs.Places.{table-has}
use Rattle.clip_tree.specs.Placed.{clip_of, placed_clip, placed_clips, in_table}
use Rattle.clip_tree.specs.Laws.{PlacedOfNone, NoneLeavesAll, PlacedAfterParents, EmptyChainIsItsParent, PlacedForEachNumber, PlacedAreFew, PlacedByTable, PlacedMoveWithNodes}

pub placed_none : PlacedOfNone
unfolding placed_clips
placed_none l offset = ap (map (placed_clip offset)) (clips_none l)

pub none_leaves_all : NoneLeavesAll
none_leaves_all l offset outer x y = ap (λ (cs : List Clip). chain_coverage cs outer x y) (placed_none l offset) ∙ chain_none outer x y

pub placed_after : PlacedAfterParents
unfolding placed_clips
placed_after l offset k d is w =
    let c = get_or l.chains k d in
    ap (map (placed_clip offset)) (clips_after l k d is w) ∙ map-append (placed_clip offset) (clips_of l c.parent) (members_at l.clips c.clips)

pub placed_empty : EmptyChainIsItsParent
placed_empty l offset k d is w none =
    let c = get_or l.chains k d in
    placed_after l offset k d is w ∙ ap (λ (ks : List ℕ). placed_clips l offset c.parent ++ map (placed_clip offset) (members_at l.clips ks)) none ∙ append-nil (placed_clips l offset c.parent)

pub placed_each : PlacedForEachNumber
unfolding placed_clips
placed_each l offset chain is = length-map (clips_of l chain) (placed_clip offset) ∙ clip_each l chain is

pub placed_few : PlacedAreFew
placed_few l offset chain is w = let few = clip_numbers-few (length l.clips) l.chains chain is.chains w in omega (arith, few, placed_each l offset chain is)

-- two ways to place that agree on the nodes of these clips place them alike
map_agrees : (f g : ℕ → Point) (nodes : ℕ) (cs : List ClipDef) → ((n : ℕ) → n < nodes → f n ≡ g n) → All (IsClip nodes) cs → map (placed_clip f) cs ≡ map (placed_clip g) cs
map_agrees f g nodes [] h all = refl
map_agrees f g nodes (c ∷ cs) h all =
    ap₂ (λ (p : Point) (ks : List Clip). shifted_clip (clip_of c) p ∷ ks) (h c.node (All-head (IsClip nodes) c cs all).node.defined) (map_agrees f g nodes cs h (All-tail (IsClip nodes) c cs all))

pub placed_by_table : PlacedByTable
unfolding placed_clips
placed_by_table l m origin chain is =
    map_agrees (in_table (offsets_of l.nodes m origin)) (offset_of l.nodes m origin) (length l.nodes + 1) (clips_of l chain)
    (λ n w. table-has l.nodes m origin n no_distance (omega arith)) (clips_are l chain is)

shifted_sum : (b : Bounds) (p q : Point) → shifted b (point_sum p q) ≡ shifted (shifted b p) q
shifted_sum b p q = same_bounds (shifted b (point_sum p q)) (shifted (shifted b p) q) (omega (arith, ints)) (omega (arith, ints)) (omega (arith, ints)) (omega (arith, ints))

map_moved : (offset : ℕ → Point) (by : Point) (cs : List ClipDef) → map (placed_clip (λ n. point_sum (offset n) by)) cs ≡ shifted_clips (map (placed_clip offset) cs) by
map_moved offset by [] = refl
map_moved offset by (c ∷ cs) =
    ap₂ (λ (b : Bounds) (ks : List Clip). let k : Clip = record { shape = record { rect = b; radii = c.radii }; out = c.out } in k ∷ ks) (shifted_sum c.rect (offset c.node) by) (map_moved offset by cs)

pub placed_moved : PlacedMoveWithNodes
unfolding placed_clips
placed_moved l offset by chain = map_moved offset by (clips_of l chain)

-- a list's clip is one of more nodes too
pub clip_of_more : (m n : ℕ) (c : ClipDef) → m ≤ n → IsClip m c → IsClip n c
clip_of_more m n c le is = record { node = record { defined = omega (arith, is.node.defined); fits = is.node.fits }; rect = is.rect; radii = is.radii; plain = is.plain }

-- a list's nodes are few enough for two bytes
pub few_nodes : (l : ListModel) → IsList l → length l.nodes + 1 ≤ 65535
few_nodes l is = omega (arith, is.nodes.count)

-- a table serves with any default
pub placed_in_table : (offsets : List Point) (d : Point) (c : ClipDef) (clip : Clip) → c.node < length offsets → clip ≡ shifted_clip (clip_of c) (get_or offsets c.node d) → clip ≡ placed_clip (in_table offsets) c
placed_in_table offsets d c clip h is = is ∙ ap (shifted_clip (clip_of c)) (get_or_default offsets c.node d no_distance h)
