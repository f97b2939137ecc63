-- A refusal of a part stands within the bytes, or just after them.
use Rattle.std.proofs.Common.{ℕ, ◌+◌, ◌≤◌, Bool, eqb, leb, List, length, ap, arith}
use Rattle.std.proofs.lemmas.List.{length-append}
use Rattle.wr_io.specs.declared.fault.Code.{Code}
use Rattle.wr_io.specs.declared.fault.Code.TheVariants as code
use Rattle.wr_geom.specs.Bounds.{Bounds}
use Rattle.field_forms.specs.Form.{Form}
use Rattle.field_forms.proofs.Within.{StaysWithin, done_within, bind_within, choose_within, refuse_within, here_within, refuse_if_within, refuse_unless_within, times_within, byte_within, number_within, flag_within, reference_within, optional_reference_within, optional_number_within, coordinate_within, rectangle_within, colour_within}
use Rattle.display_list.specs.PartialList.{PartialList, takes_nodes, takes_clips, takes_chains}
use Rattle.display_list.specs.Fields.{radius, corner, corners, corner_radii, four_widths, border_widths, scroll_side, spot, glyph}
use Rattle.display_list.specs.Parts.{parent_node, reference_frame, scroll_number, scroll_frame, rect_clip, round_clip, clip_count, chain, definition_of, node_part, clip_part, chain_part, definition, solid, image, border, text, blend_mode, push_fields, push, pop, pipeline, iframe, hit_area, primitive, item, end, next_part}
use Rattle.display_list.specs.Grammar.{FailsNext}

radius_within : {from : ℕ} → StaysWithin from radius
unfolding radius
radius_within = refuse_if_within _ _ (number_within _)

corner_within : {from : ℕ} → StaysWithin from corner
unfolding corner
corner_within = bind_within radius_within (λ a. bind_within radius_within (λ b. done_within _))

corner_radii_within : (b : Bounds) {from : ℕ} → StaysWithin from (corner_radii b)
unfolding corner_radii corners
corner_radii_within b =
    refuse_unless_within _ _ (bind_within corner_within (λ p. bind_within corner_within (λ q. bind_within corner_within (λ r. bind_within corner_within (λ s. done_within _)))))

border_widths_within : (b : Bounds) {from : ℕ} → StaysWithin from (border_widths b)
unfolding border_widths four_widths
border_widths_within b =
    refuse_unless_within _ _ (bind_within radius_within (λ p. bind_within radius_within (λ q. bind_within radius_within (λ r. bind_within radius_within (λ s. done_within _)))))

scroll_side_within : {from : ℕ} → StaysWithin from scroll_side
unfolding scroll_side
scroll_side_within = refuse_if_within _ _ (number_within _)

spot_within : (n c : ℕ) {from : ℕ} → StaysWithin from (spot n c)
unfolding spot
spot_within n c = bind_within (reference_within n) (λ k. bind_within (optional_reference_within c) (λ l. bind_within rectangle_within (λ r. done_within _)))

glyph_within : {from : ℕ} → StaysWithin from glyph
unfolding glyph
glyph_within = bind_within (number_within _) (λ g. bind_within coordinate_within (λ x. bind_within coordinate_within (λ y. done_within _)))

-- ---- definitions

parent_node_within : (s : PartialList) {from : ℕ} → StaysWithin from (parent_node s)
unfolding parent_node
parent_node_within s = refuse_if_within _ _ (reference_within _)

reference_frame_within : (s : PartialList) {from : ℕ} → StaysWithin from (reference_frame s)
unfolding reference_frame
reference_frame_within s =
    bind_within (parent_node_within s) (λ p. bind_within coordinate_within (λ x. bind_within coordinate_within (λ y. bind_within optional_number_within (λ o. done_within _))))

scroll_frame_within : (s : PartialList) {from : ℕ} → StaysWithin from (scroll_frame s)
unfolding scroll_frame scroll_number
scroll_frame_within s =
    bind_within (parent_node_within s) (λ p. bind_within (refuse_if_within _ _ (number_within _)) (λ n.
    bind_within scroll_side_within (λ a. bind_within scroll_side_within (λ b. bind_within scroll_side_within (λ c. bind_within scroll_side_within (λ d. done_within _))))))

rect_clip_within : (s : PartialList) {from : ℕ} → StaysWithin from (rect_clip s)
unfolding rect_clip
rect_clip_within s = bind_within (reference_within _) (λ n. bind_within rectangle_within (λ r. done_within _))

round_clip_within : (s : PartialList) {from : ℕ} → StaysWithin from (round_clip s)
unfolding round_clip
round_clip_within s = bind_within (reference_within _) (λ n. bind_within flag_within (λ o. bind_within rectangle_within (λ r. bind_within (corner_radii_within r) (λ c. done_within _))))

chain_within : (s : PartialList) {from : ℕ} → StaysWithin from (chain s)
unfolding chain clip_count
chain_within s =
    bind_within (optional_reference_within _) (λ p. bind_within (refuse_if_within _ _ byte_within) (λ n. bind_within (times_within (reference_within _) n) (λ cs. done_within _)))

-- a definition that is refused at its tag, which was passed
in_section_within : {A : Type 0} {f : Form A} {from : ℕ} (b : Bool) (count : ℕ) → StaysWithin from f → StaysWithin from (definition_of b count from f)
in_section_within b count h = choose_within b (choose_within (leb 4096 count) (refuse_within code.Limit) h) (refuse_within code.BadTag)

definition_within : (s : PartialList) (at tag : ℕ) → StaysWithin at (definition s at tag)
unfolding definition node_part clip_part chain_part
definition_within s at tag =
    choose_within (leb tag 2)
    (bind_within (in_section_within (takes_nodes s.section) _ (choose_within (eqb tag 1) (reference_frame_within s) (scroll_frame_within s))) (λ n. done_within _))
    (choose_within (leb tag 4)
    (bind_within (in_section_within (takes_clips s.section) _ (choose_within (eqb tag 3) (rect_clip_within s) (round_clip_within s))) (λ c. done_within _))
    (bind_within (in_section_within (takes_chains s.section) _ (chain_within s)) (λ c. done_within _)))

-- ---- items

primitive_within : (n c tag : ℕ) {from : ℕ} → StaysWithin from (primitive n c tag)
unfolding primitive solid image border text
primitive_within n c tag =
    choose_within (eqb tag 6) (bind_within (spot_within n c) (λ o. bind_within colour_within (λ q. done_within _)))
    (choose_within (eqb tag 7) (bind_within (spot_within n c) (λ o. bind_within (number_within _) (λ k. bind_within (number_within _) (λ u. bind_within (number_within _) (λ v. done_within _)))))
    (choose_within (eqb tag 8)
    (bind_within (spot_within n c) (λ o. bind_within (border_widths_within o.rect) (λ w. bind_within colour_within (λ c1. bind_within colour_within (λ c2. bind_within colour_within (λ c3. bind_within colour_within (λ c4. bind_within (corner_radii_within o.rect) (λ r. done_within _))))))))
    (bind_within (spot_within n c) (λ o. bind_within (number_within _) (λ f. bind_within colour_within (λ q. bind_within (number_within _) (λ k. bind_within (times_within glyph_within k) (λ gs. done_within _))))))))

push_within : (s : PartialList) (at : ℕ) → StaysWithin at (push s at)
unfolding push push_fields blend_mode
push_within s at =
    choose_within (leb 64 s.depth) (refuse_within code.Limit)
    (bind_within
    (bind_within (reference_within _) (λ n. bind_within (optional_reference_within _) (λ c. bind_within byte_within (λ o. bind_within optional_number_within (λ p. bind_within (bind_within (refuse_if_within _ _ byte_within) (λ k. done_within _)) (λ m. bind_within flag_within (λ i. done_within _)))))))
    (λ p. done_within _))

iframe_within : (m n c : ℕ) {from : ℕ} → StaysWithin from (iframe m n c)
unfolding iframe pipeline
iframe_within m n c = bind_within (spot_within n c) (λ o. bind_within (refuse_if_within _ _ (refuse_if_within _ _ byte_within)) (λ p. done_within _))

hit_area_within : (n c : ℕ) {from : ℕ} → StaysWithin from (hit_area n c)
unfolding hit_area
hit_area_within n c = bind_within (spot_within n c) (λ o. bind_within (number_within _) (λ t. done_within _))

item_within : (m : ℕ) (s : PartialList) (at tag : ℕ) → StaysWithin at (item m s at tag)
unfolding item pop
item_within m s at tag =
    choose_within (leb tag 9) (primitive_within _ _ tag)
    (choose_within (eqb tag 10) (push_within s at)
    (choose_within (eqb tag 11) (choose_within (eqb s.depth 0) (refuse_within code.Nesting) (done_within _))
    (choose_within (eqb tag 12) (iframe_within m _ _) (choose_within (eqb tag 13) (hit_area_within _ _) (refuse_within code.BadTag)))))

-- ---- the next part

next_within : (m : ℕ) (s : PartialList) → StaysWithin 0 (next_part m s)
unfolding next_part end
next_within m s = here_within (λ at le. bind_within byte_within (λ tag.
    choose_within (eqb tag 0) (choose_within (eqb s.depth 0) (done_within _) (refuse_within code.Nesting))
    (choose_within (leb tag 5) (bind_within (definition_within s at tag) (λ p. done_within _)) (bind_within (item_within m s at tag) (λ t. done_within _)))))

pub fails_within : (m at : ℕ) (s : PartialList) (bytes : List ℕ) (c : Code) (p : ℕ) → FailsNext m at s bytes c p → p ≤ at + length bytes
fails_within m at s bytes c p (FailsNext.refused h) = (next_within m s).within at bytes c p (omega arith) h
fails_within m at s bytes c p (FailsNext.surplus last more e lt passes code_is position_is) =
    omega (arith, position_is, ap (λ (o : List ℕ). length o) e, length-append last more)
