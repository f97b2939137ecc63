-- The homes of the clips of top items, and what a slice shows: outside of that it is clear.
use Rattle.std.proofs.Common.{◌≡◌, ℕ, zero, suc, ◌+◌, Bool, true, false, if◌then◌else◌, List, [], ◌∷◌, ◌++◌, length, map, Option, Some, None, refl, sym, ap, ap₂, subst, ◌∙◌, arith}
use Rattle.std.specs.Prelude.{All, zip}
use Rattle.std.specs.Option.{option_map}
use Rattle.std.proofs.lemmas.List.{append_assoc, length-append, length-map}
use Rattle.std.proofs.lemmas.List.Elements.{All-nil, All-cons, All-head, All-tail, All-append}
use Rattle.wr_geom.specs.Bounds.{Bounds, holds}
use Rattle.wr_geom.specs.declared.point.Point.{Point}
use Rattle.blend_rules.specs.declared.colour.Px.{Px}
use Rattle.blend_rules.specs.Colour.{IsPixel, clear}
use Rattle.blend_rules.proofs.Blends.{clear_is_pixel}
use Rattle.clip_masks.specs.Clips.{rect_clip}
use Rattle.clip_masks.specs.Coverage.{chain_coverage, cut_by}
use Rattle.clip_masks.specs.declared.clip.Clip.{Clip}
use Rattle.clip_masks.proofs.Chains.{chain_zero, chain-append, beside_cut}
use Rattle.display_list.specs.declared.item.Spot.{Spot}
use Rattle.display_list.specs.ListModel.{ListModel}
use Rattle.display_list.specs.Trees.{Tree, solid, image, border, text, context, iframe, hit_area, Trees, none, more, told}
use Rattle.spatial_tree.specs.Homes.{root_scroll_of, homes_of}
use Rattle.spatial_tree.specs.Lineage.{clips_of}
use Rattle.spatial_tree.specs.Moves.{MovesModel}
use Rattle.clip_tree.specs.Placed.{placed_clip, placed_clips}
use Rattle.pipelines.specs.Table.{PipelineMap, pipeline_at, pipeline_list}
use Rattle.scene_limits.specs.Places.{zero_point}
use Rattle.slice_rules.specs.Homes.{Home}
use Rattle.slice_rules.specs.Runs.{joined, slices_of}
use Rattle.slice_rules.specs.Shared.{HomedClip, shared_clips, shown_rect}
use Rattle.slice_rules.specs.SharedLaws.{IsClipPrefix, BeginsEach}
use Rattle.slice_rules.proofs.Runs.{slices_joined}
use Rattle.slice_rules.proofs.Common.{shared_begin_each}
use Rattle.painter.specs.PlacedList.{PlacedList, node_point, item_rect, chain_clips, first_corner, is_plain}
use Rattle.painter.specs.Painter.{ScenePixel, under}
use Rattle.painter.specs.TopItems.{Around, TopItem, TopLister, nothing_around, home_in, node_home, clip_homes, around_iframe, top_item, tree_tops, trees_tops, list_tops, tops_in, top_items, own_chain, home_of, paint_top}
use Rattle.painter.specs.Slices.{Slice, paint_tops, slice_colour}
use Rattle.painter.specs.Shared.{top_clips, top_homes, homed_clips}
use Rattle.painter.specs.Laws.{IsScenePixel, IsTopItem}
use Rattle.painter.specs.SharedLaws.{EachClipHasAHome, ClearOutsideShown}
use Rattle.painter.proofs.Enough.{placed}
use Rattle.painter.proofs.Unchanged.{clipped_away}
use Rattle.painter.proofs.Picture.{tops_drawn, all_split}

-- ---- each clip has a home

abbrev HaveHomes : Around → Type 0
HaveHomes a = length a.homes ≡ length a.clips

abbrev HasHomes : TopItem → Type 0
HasHomes t = length (top_homes t) ≡ length (top_clips t)

own_homes : (a : Around) (l : PlacedList) (chain : Option ℕ) → length (map (home_in a l) (homes_of l.list chain)) ≡ length (chain_clips l chain)
unfolding placed_clips homes_of
own_homes a l chain =
    let clips = clips_of l.list chain in
    length-map (homes_of l.list chain) (home_in a l) ∙ length-map clips (λ c. root_scroll_of l.list.nodes c.node) ∙ sym (length-map clips (placed_clip (node_point l)))

chain_homes : (a : Around) (l : PlacedList) (chain : Option ℕ) → HaveHomes a → length (clip_homes a l chain) ≡ length (a.clips ++ chain_clips l chain)
chain_homes a l chain have =
    length-append a.homes (map (home_in a l) (homes_of l.list chain)) ∙ ap₂ (λ (m n : ℕ). m + n) have (own_homes a l chain) ∙ sym (length-append a.clips (chain_clips l chain))

iframe_homes : (a : Around) (l : PlacedList) (spot : Spot) → HaveHomes a → HaveHomes (around_iframe a l spot)
iframe_homes a l spot have =
    let own = chain_clips l spot.chain in
    let last : List Clip = rect_clip (item_rect l spot) ∷ [] in
    length-append (clip_homes a l spot.chain) (node_home a l spot.node ∷ [])
    ∙ ap (λ (n : ℕ). n + 1) (chain_homes a l spot.chain have)
    ∙ sym (length-append (a.clips ++ own) last)
    ∙ ap (λ (cs : List Clip). length cs) (append_assoc a.clips own last)

-- what gives top items whose clips have homes
abbrev GivesHomes : TopLister → Type 0
GivesHomes inner = (p : ℕ) (origin : Point) (a : Around) → HaveHomes a → All HasHomes (inner p origin a)

one_homes : (a : Around) (l : PlacedList) (t : Tree) → HaveHomes a → All HasHomes (top_item a l t)
one_homes a l t have = All-cons HasHomes (record { around = a; list = l; item = t }) [] (chain_homes a l (own_chain t) have) (All-nil HasHomes)

either_homes : (b : Bool) (xs ys : List TopItem) → All HasHomes xs → All HasHomes ys → All HasHomes (if b then xs else ys)
either_homes true xs ys are also = are
either_homes false xs ys are also = also

mutual
  tree_homes : (inner : TopLister) (a : Around) (l : PlacedList) (t : Tree) → GivesHomes inner → HaveHomes a → All HasHomes (tree_tops inner a l t)
  tree_homes inner a l (solid o px) gives have = one_homes a l (solid o px) have
  tree_homes inner a l (image o i u v) gives have = one_homes a l (image o i u v) have
  tree_homes inner a l (border o w top r bo le ra) gives have = one_homes a l (border o w top r bo le ra) have
  tree_homes inner a l (text o i px gs) gives have = one_homes a l (text o i px gs) have
  tree_homes inner a l (context p ts) gives have =
      either_homes (is_plain l p) (trees_tops inner a l ts) (top_item a l (context p ts)) (trees_homes inner a l ts gives have) (one_homes a l (context p ts) have)
  tree_homes inner a l (iframe o q) gives have = gives q (first_corner (item_rect l o)) (around_iframe a l o) (iframe_homes a l o have)
  tree_homes inner a l (hit_area o i) gives have = All-nil HasHomes

  trees_homes : (inner : TopLister) (a : Around) (l : PlacedList) (ts : Trees) → GivesHomes inner → HaveHomes a → All HasHomes (trees_tops inner a l ts)
  trees_homes inner a l none gives have = All-nil HasHomes
  trees_homes inner a l (more t ts) gives have = All-append HasHomes (tree_tops inner a l t) (trees_tops inner a l ts) (tree_homes inner a l t gives have) (trees_homes inner a l ts gives have)

list_homes : (inner : TopLister) (p : ℕ) (moves : MovesModel) (origin : Point) (a : Around) (o : Option ListModel) → GivesHomes inner → HaveHomes a → All HasHomes (list_tops inner (option_map (placed p moves origin) o) a)
list_homes inner p moves origin a None gives have = All-nil HasHomes
list_homes inner p moves origin a (Some l) gives have = trees_homes inner a (placed p moves origin l) (told l.items) gives have

levels_homes : (n : ℕ) (pipelines : PipelineMap) → GivesHomes (tops_in n pipelines)
unfolding tops_in
levels_homes zero pipelines p origin a have = All-nil HasHomes
levels_homes (suc n) pipelines p origin a have =
    list_homes (tops_in n pipelines) p (pipeline_at pipelines p).moves origin a (pipeline_list pipelines p) (levels_homes n pipelines) have

pub each_home : EachClipHasAHome
each_home pipelines = levels_homes 64 pipelines 0 zero_point nothing_around refl

-- ---- outside of what a slice shows

-- what begins clips with their homes begins the clips
zip_begins : (cs : List Clip) (hs : List Home) (first : List HomedClip) → IsClipPrefix first (zip cs hs) → (rest : List Clip) × (cs ≡ map (λ (c : HomedClip). c.0) first ++ rest)
zip_begins cs hs [] p = (cs, refl)
zip_begins [] hs (c ∷ first) p = absurd (let e : [] ≡ c ∷ (first ++ p.0) = p.1 in cc)
zip_begins (k ∷ cs) [] (c ∷ first) p = absurd (let e : [] ≡ c ∷ (first ++ p.0) = p.1 in cc)
zip_begins (k ∷ cs) (h ∷ hs) (c ∷ first) p =
    let x : HomedClip = (k, h) in
    let e : x ∷ zip cs hs ≡ c ∷ (first ++ p.0) = p.1 in
    let same : x ≡ c = cc in
    let others : zip cs hs ≡ first ++ p.0 = cc in
    let below = zip_begins cs hs first (p.0, others) in
    (below.0, ap₂ (λ (y : Clip) (ys : List Clip). y ∷ ys) (ap (λ (q : HomedClip). q.0) same) below.1)

-- where the cut by the first clips of a top item leaves the pixel out, its clips leave nothing
beside_first : (s : ScenePixel) (view : Bounds) (first : List HomedClip) (t : TopItem) → holds view s.x s.y ≡ true → holds (cut_by view (map (λ (c : HomedClip). c.0) first)) s.x s.y ≡ false
    → IsClipPrefix first (homed_clips t) → under s (top_clips t) 255 ≡ 0
beside_first s view first t here out p =
    let clips = map (λ (c : HomedClip). c.0) first in
    let both = zip_begins (top_clips t) (top_homes t) first p in
    ap (λ (cs : List Clip). under s cs 255) both.1
    ∙ chain-append clips both.0 255 s.x s.y
    ∙ ap (λ (c : ℕ). chain_coverage both.0 c s.x s.y) (beside_cut view clips 255 s.x s.y (omega arith) here out)
    ∙ chain_zero both.0 s.x s.y

-- and it changes nothing
top_unchanged : (s : ScenePixel) (t : TopItem) (backdrop : Px) → IsScenePixel s → IsTopItem t → under s (top_clips t) 255 ≡ 0 → IsPixel backdrop → paint_top s t backdrop ≡ backdrop
top_unchanged s t backdrop is top e b =
    clipped_away s t.list t.item (under s t.around.clips 255) backdrop is top.item (sym (chain-append t.around.clips (chain_clips t.list (own_chain t.item)) 255 s.x s.y) ∙ e) b

tops_clear : (s : ScenePixel) (view : Bounds) (first : List HomedClip) (ts : List TopItem) → IsScenePixel s → holds view s.x s.y ≡ true → holds (cut_by view (map (λ (c : HomedClip). c.0) first)) s.x s.y ≡ false
    → All IsTopItem ts → BeginsEach homed_clips first ts → paint_tops s ts clear ≡ clear
tops_clear s view first [] is here out are each = refl
tops_clear s view first (t ∷ ts) is here out are each =
    let hidden = beside_first s view first t here out (All-head (λ u. IsClipPrefix first (homed_clips u)) t ts each) in
    ap (paint_tops s ts) (top_unchanged s t clear is (All-head IsTopItem t ts are) hidden clear_is_pixel)
    ∙ tops_clear s view first ts is here out (All-tail IsTopItem t ts are) (All-tail (λ u. IsClipPrefix first (homed_clips u)) t ts each)

-- a slice that shows nothing at the pixel
abbrev IsClearBeside : ScenePixel → Bounds → Slice → Type 0
IsClearBeside s view slice = holds (shown_rect homed_clips view slice) s.x s.y ≡ false → slice_colour s slice ≡ clear

slices_clear : (s : ScenePixel) (view : Bounds) (rs : List Slice) → IsScenePixel s → holds view s.x s.y ≡ true → All IsTopItem (joined rs) → All (IsClearBeside s view) rs
slices_clear s view [] is here are = All-nil (IsClearBeside s view)
slices_clear s view (r ∷ rs) is here are =
    let parts = all_split r.members (joined rs) are in
    All-cons (IsClearBeside s view) r rs (λ out. tops_clear s view (shared_clips homed_clips r) r.members is here out parts.0 (shared_begin_each homed_clips r)) (slices_clear s view rs is here parts.1)

pub clear_outside : ClearOutsideShown
clear_outside s view is here =
    let tops = top_items s.pipelines in
    slices_clear s view (slices_of home_of tops) is here (subst (All IsTopItem) (sym (slices_joined home_of tops)) (tops_drawn s is))
