-- Contexts that give what their items give.
use Rattle.std.proofs.Common.{◌≡◌, ℕ, Bool, true, false, if◌then◌else◌, Option, None, refl, ap, ◌∙◌, arith}
use Rattle.blend_rules.specs.declared.colour.Px.{Px}
use Rattle.blend_rules.specs.Colour.{IsPixel, clear, scaled, blended}
use Rattle.blend_rules.proofs.Blends.{scaled_by_full, clear_backdrop_shows, clear_is_pixel}
use Rattle.clip_tree.proofs.Clips.{none_leaves_all}
use Rattle.display_list.specs.declared.token.Push.{Push}
use Rattle.display_list.specs.Trees.{context}
use Rattle.painter.specs.PlacedList.{PlacedList, node_point, chain_clips, opacity_of, is_plain}
use Rattle.painter.specs.Painter.{ScenePixel, under, paint_group, paint_trees}
use Rattle.painter.specs.TopItems.{top_item, trees_tops}
use Rattle.painter.specs.Laws.{PlainContextPaintsItems, PlainContextHasTheirTops, GroupOnClearIsItsItems}
use Rattle.painter.proofs.Pixels.{items_pixel}

pub plain_items : PlainContextPaintsItems
plain_items inner s l p ts cover backdrop e =
    ap (λ (b : Bool). if b then paint_trees inner s l ts cover backdrop else paint_group s l p (paint_trees inner s l ts 255 clear) cover backdrop) e

pub plain_tops : PlainContextHasTheirTops
plain_tops inner a l p ts e = ap (λ (b : Bool). if b then trees_tops inner a l ts else top_item a l (context p ts)) e

-- a group of opacity 255 without a chain, on clear
whole_group : (s : ScenePixel) (l : PlacedList) (p : Push) (group : Px) → IsPixel group → opacity_of l p ≡ 255 → p.chain ≡ None → paint_group s l p group 255 clear ≡ group
whole_group s l p group is full alone =
    let cover = under s (chain_clips l p.chain) 255 in
    let all : cover ≡ 255 = ap (λ (chain : Option ℕ). under s (chain_clips l chain) 255) alone ∙ none_leaves_all l.list (node_point l) 255 s.x s.y in
    ap (λ (o : ℕ). blended p.mode (scaled (scaled group o) cover) clear) full
    ∙ ap (λ (c : ℕ). blended p.mode (scaled (scaled group 255) c) clear) all
    ∙ ap (λ (c : Px). blended p.mode c clear) (scaled_by_full (scaled group 255) ∙ scaled_by_full group)
    ∙ clear_backdrop_shows p.mode group is.premultiplied is.byte

either_first : (b : Bool) (p q : Px) → q ≡ p → (if b then p else q) ≡ p
either_first true p q e = refl
either_first false p q e = e

pub group_on_clear : GroupOnClearIsItsItems
group_on_clear inner s l p ts h are gives full alone =
    let group = paint_trees inner s l ts 255 clear in
    either_first (is_plain l p) group (paint_group s l p group 255 clear) (whole_group s l p group (items_pixel inner s l ts 255 clear h are gives (omega arith) clear_is_pixel) full alone)
