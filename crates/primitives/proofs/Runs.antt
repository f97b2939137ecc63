-- Runs of entries: in parts, over balanced lists, and where nothing is visible.
use Rattle.std.proofs.Common.{◌≡◌, ℕ, zero, suc, ℤ, true, List, [], ◌∷◌, ◌++◌, take, drop, All, refl, sym, ap, ◌∙◌, true≢false, append_assoc, append-nil, take-append-drop, arith}
use Rattle.std.proofs.lemmas.List.Elements.{All-head, All-tail, All-cons}
use Rattle.blend_rules.specs.Colour.{IsPixel, clear, scaled, blended}
use Rattle.blend_rules.specs.declared.colour.Px.{Px}
use Rattle.blend_rules.specs.declared.mode.Mode.{Mode}
use Rattle.blend_rules.specs.declared.mode.Mode.TheVariants.{Normal}
use Rattle.blend_rules.proofs.Blends.{scaled_clear, scaled_is_pixel, clear_is_pixel, blend_is_pixel, clear_source_leaves}
use Rattle.clip_masks.specs.Coverage.{chain_coverage}
use Rattle.clip_masks.specs.declared.clip.Clip.{Clip}
use Rattle.clip_masks.proofs.Chains.{chain_byte, chain-append}
use Rattle.image_store.specs.StoreModel.{StoreModel, IsStore}
use Rattle.primitives.specs.declared.entry.Entry.{Entry}
use Rattle.primitives.specs.declared.entry.Entry.TheVariants as entry
use Rattle.primitives.specs.Colours.{primitive_colour, covered_colour}
use Rattle.primitives.specs.Stacks.{Group, Stack, group_over_backdrop, after_pop, step, run, balanced, IsRow}
use Rattle.primitives.specs.Stacks as row
use Rattle.primitives.specs.Facts.{IsEntry, IsHidden, IsGroup, IsStack}
use Rattle.primitives.specs.Laws.{FullClipsDoNothing, RunsInParts, BalancedLeavesGroups, BalancedKnowsTopAlone, RowsAreBalanced, RunKeepsPixels, HiddenLeavesStack, HiddenListLeavesStack}
use Rattle.primitives.proofs.Colours.{covered_is_pixel, clear_where_not_visible}

pub runs_in_parts : RunsInParts
runs_in_parts store x y [] fs s = refl
runs_in_parts store x y (e ∷ es) fs s = runs_in_parts store x y es fs (step store x y e s)

-- ---- without clips that leave all

-- what the first n clips leave, the others cut
chain_split : (n : ℕ) (clips : List Clip) (outer : ℕ) (x y : ℤ) → chain_coverage clips outer x y ≡ chain_coverage (drop n clips) (chain_coverage (take n clips) outer x y) x y
chain_split n clips outer x y = ap (λ (cs : List Clip). chain_coverage cs outer x y) (sym (take-append-drop n clips)) ∙ chain-append (take n clips) (drop n clips) outer x y

cover_without : (n : ℕ) (clips : List Clip) (x y : ℤ) → chain_coverage (take n clips) 255 x y ≡ 255 → chain_coverage (drop n clips) 255 x y ≡ chain_coverage clips 255 x y
cover_without n clips x y h = sym (chain_split n clips 255 x y ∙ ap (λ (k : ℕ). chain_coverage (drop n clips) k x y) h)

pub full_clips_do_nothing : FullClipsDoNothing
unfolding covered_colour primitive_colour
full_clips_do_nothing store x y (entry.Primitive p) n s h =
    ap (λ (k : ℕ). let t : Stack = record { top = blended Normal (scaled (primitive_colour store p x y) k) s.top; groups = s.groups } in t) (cover_without n p.clips x y h)
full_clips_do_nothing store x y (entry.Push o m clips) n s h =
    ap (λ (k : ℕ). let t : Stack = record { top = clear; groups = record { backdrop = s.top; opacity = o; mode = m; cover = k } ∷ s.groups } in t) (cover_without n clips x y h)
full_clips_do_nothing store x y entry.Pop n s h = refl

-- ---- balanced lists

abbrev stack : Px → List Group → Stack
stack top groups = record { top = top; groups = groups }

-- so many groups in front
abbrev HasLength : ℕ → List Group → Type 0
HasLength zero [] = Unit {0}
HasLength zero (g ∷ gs) = ⊥
HasLength (suc n) [] = ⊥
HasLength (suc n) (g ∷ gs) = HasLength n gs

-- a list that ends so many groups leaves those below them
groups_left : (store : StoreModel) (x y : ℤ) (es : List Entry) (n : ℕ) (front : List Group) (below : List Group) (top : Px) → HasLength n front → balanced n es ≡ true
    → (run store x y es (stack top (front ++ below))).groups ≡ below
groups_left store x y [] zero [] below top h b = refl
groups_left store x y [] zero (g ∷ gs) below top h b = absurd h
groups_left store x y [] (suc n) front below top h b = absurd (true≢false (sym b))
groups_left store x y (entry.Primitive p ∷ es) n front below top h b = groups_left store x y es n front below _ h b
groups_left store x y (entry.Push o m clips ∷ es) n front below top h b =
    groups_left store x y es (suc n) (record { backdrop = top; opacity = o; mode = m; cover = chain_coverage clips 255 x y } ∷ front) below clear h b
groups_left store x y (entry.Pop ∷ es) zero front below top h b = absurd (true≢false (sym b))
groups_left store x y (entry.Pop ∷ es) (suc n) [] below top h b = absurd h
groups_left store x y (entry.Pop ∷ es) (suc n) (g ∷ gs) below top h b = groups_left store x y es n gs below (group_over_backdrop g top) h b

pub balanced_leaves_groups : BalancedLeavesGroups
balanced_leaves_groups store x y es s b = groups_left store x y es 0 [] s.groups s.top tt b

-- the top knows the groups that were opened and not those below
tops_same : (store : StoreModel) (x y : ℤ) (es : List Entry) (n : ℕ) (front below other : List Group) (top : Px) → HasLength n front → balanced n es ≡ true
    → (run store x y es (stack top (front ++ below))).top ≡ (run store x y es (stack top (front ++ other))).top
tops_same store x y [] zero [] below other top h b = refl
tops_same store x y [] zero (g ∷ gs) below other top h b = absurd h
tops_same store x y [] (suc n) front below other top h b = absurd (true≢false (sym b))
tops_same store x y (entry.Primitive p ∷ es) n front below other top h b = tops_same store x y es n front below other _ h b
tops_same store x y (entry.Push o m clips ∷ es) n front below other top h b =
    tops_same store x y es (suc n) (record { backdrop = top; opacity = o; mode = m; cover = chain_coverage clips 255 x y } ∷ front) below other clear h b
tops_same store x y (entry.Pop ∷ es) zero front below other top h b = absurd (true≢false (sym b))
tops_same store x y (entry.Pop ∷ es) (suc n) [] below other top h b = absurd h
tops_same store x y (entry.Pop ∷ es) (suc n) (g ∷ gs) below other top h b = tops_same store x y es n gs below other (group_over_backdrop g top) h b

pub balanced_knows_top_alone : BalancedKnowsTopAlone
balanced_knows_top_alone store x y es s t b e =
    tops_same store x y es 0 [] s.groups t.groups s.top tt b ∙ ap (λ (c : Px). (run store x y es (stack c t.groups)).top) e

-- such entries leave the open groups
row_balanced : (es fs : List Entry) (n : ℕ) → IsRow es → balanced n (es ++ fs) ≡ balanced n fs
row_balanced _ fs n row.none = refl
row_balanced _ fs n (row.primitive p es h) = row_balanced es fs n h
row_balanced _ fs n (row.group o m c es gs h i) =
    ap (balanced (suc n)) (append_assoc es (entry.Pop ∷ gs) fs) ∙ row_balanced es (entry.Pop ∷ (gs ++ fs)) (suc n) h ∙ row_balanced gs fs n i

pub rows_are_balanced : RowsAreBalanced
rows_are_balanced es h = ap (balanced 0) (sym (append-nil es)) ∙ row_balanced es [] 0 h

-- ---- pixels

closed_pixel : (g : Group) (top : Px) → IsGroup g → IsPixel top → IsPixel (group_over_backdrop g top)
unfolding group_over_backdrop
closed_pixel g top h k =
    let thin = scaled_is_pixel (scaled top g.opacity) g.cover h.cover (scaled_is_pixel top g.opacity h.opacity k) in
    blend_is_pixel g.mode (scaled (scaled top g.opacity) g.cover) g.backdrop thin.byte h.backdrop.byte

popped_stack : (top : Px) (groups : List Group) → IsPixel top → All IsGroup groups → IsStack (after_pop top groups)
popped_stack top [] h k = record { top = h; groups = k }
popped_stack top (g ∷ gs) h k = record { top = closed_pixel g top (All-head IsGroup g gs k) h; groups = All-tail IsGroup g gs k }

step_keeps : (store : StoreModel) (x y : ℤ) (e : Entry) (s : Stack) → IsStore store → IsEntry e → IsStack s → IsStack (step store x y e s)
step_keeps store x y (entry.Primitive p) s h is k =
    record { top = blend_is_pixel Normal (covered_colour store p x y) s.top (covered_is_pixel store p x y h is).byte k.top.byte; groups = k.groups }
step_keeps store x y (entry.Push o m clips) s h is k =
    let opened : Group = record { backdrop = s.top; opacity = o; mode = m; cover = chain_coverage clips 255 x y } in
    let fine : IsGroup opened = record { backdrop = k.top; opacity = is; cover = chain_byte clips 255 x y (omega arith) } in
    record { top = clear_is_pixel; groups = All-cons IsGroup opened s.groups fine k.groups }
step_keeps store x y entry.Pop s h is k = popped_stack s.top s.groups k.top k.groups

pub run_keeps_pixels : RunKeepsPixels
run_keeps_pixels store x y [] s h all k = k
run_keeps_pixels store x y (e ∷ es) s h all k =
    run_keeps_pixels store x y es (step store x y e s) h (All-tail IsEntry e es all) (step_keeps store x y e s h (All-head IsEntry e es all) k)

-- ---- where nothing is visible

pub hidden_leaves_stack : HiddenLeavesStack
hidden_leaves_stack store x y p s h is k n =
    ap (λ (top : Px). stack top s.groups) (ap (λ (c : Px). blended Normal c s.top) (clear_where_not_visible store p x y h is n) ∙ clear_source_leaves Normal s.top k.premultiplied k.byte)

-- groups in which nothing stands yet, the innermost first, on a stack
abbrev opened : List (ℕ × Mode × ℕ) → Stack → Stack
opened [] s = s
opened (o ∷ os) s = stack clear (record { backdrop = (opened os s).top; opacity = o.0; mode = o.1; cover = o.2 } ∷ (opened os s).groups)

abbrev HasCount : ℕ → List (ℕ × Mode × ℕ) → Type 0
HasCount zero [] = Unit {0}
HasCount zero (o ∷ os) = ⊥
HasCount (suc n) [] = ⊥
HasCount (suc n) (o ∷ os) = HasCount n os

opened_top : (os : List (ℕ × Mode × ℕ)) (s : Stack) → IsPixel s.top → IsPixel (opened os s).top
opened_top [] s h = h
opened_top (o ∷ os) s h = clear_is_pixel

-- a group in which nothing stands leaves what is below it
closed_clear : (g : Group) → IsPixel g.backdrop → group_over_backdrop g clear ≡ g.backdrop
unfolding group_over_backdrop
closed_clear g h =
    ap (λ (c : Px). blended g.mode c g.backdrop) (ap (λ (c : Px). scaled c g.cover) (scaled_clear g.opacity) ∙ scaled_clear g.cover)
    ∙ clear_source_leaves g.mode g.backdrop h.premultiplied h.byte

hidden_from : (store : StoreModel) (x y : ℤ) (es : List Entry) (n : ℕ) (os : List (ℕ × Mode × ℕ)) (s : Stack) → IsStore store → All IsEntry es → All (IsHidden x y) es → IsPixel s.top → HasCount n os → balanced n es ≡ true
    → run store x y es (opened os s) ≡ s
hidden_from store x y [] zero [] s h all none k c b = refl
hidden_from store x y [] zero (o ∷ os) s h all none k c b = absurd c
hidden_from store x y [] (suc n) os s h all none k c b = absurd (true≢false (sym b))
hidden_from store x y (entry.Primitive p ∷ es) n os s h all none k c b =
    ap (run store x y es) (hidden_leaves_stack store x y p (opened os s) h (All-head IsEntry (entry.Primitive p) es all) (opened_top os s k) (All-head (IsHidden x y) (entry.Primitive p) es none))
    ∙ hidden_from store x y es n os s h (All-tail IsEntry (entry.Primitive p) es all) (All-tail (IsHidden x y) (entry.Primitive p) es none) k c b
hidden_from store x y (entry.Push o m clips ∷ es) n os s h all none k c b =
    hidden_from store x y es (suc n) ((o, m, chain_coverage clips 255 x y) ∷ os) s h (All-tail IsEntry (entry.Push o m clips) es all) (All-tail (IsHidden x y) (entry.Push o m clips) es none) k c b
hidden_from store x y (entry.Pop ∷ es) zero os s h all none k c b = absurd (true≢false (sym b))
hidden_from store x y (entry.Pop ∷ es) (suc n) [] s h all none k c b = absurd c
hidden_from store x y (entry.Pop ∷ es) (suc n) (o ∷ os) s h all none k c b =
    let g : Group = record { backdrop = (opened os s).top; opacity = o.0; mode = o.1; cover = o.2 } in
    ap (λ (top : Px). run store x y es (stack top (opened os s).groups)) (closed_clear g (opened_top os s k))
    ∙ hidden_from store x y es n os s h (All-tail IsEntry entry.Pop es all) (All-tail (IsHidden x y) entry.Pop es none) k c b

pub hidden_list_leaves_stack : HiddenListLeavesStack
hidden_list_leaves_stack store x y es s h all k b none = hidden_from store x y es 0 [] s h all none k tt b
