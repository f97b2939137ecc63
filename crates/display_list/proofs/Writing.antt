-- The bytes of items.
use Rattle.std.proofs.Common.{◌≡◌, ℕ, zero, suc, ◌^◌, subst, ◌+◌, ◌<◌, ◌≤◌, List, [], ◌∷◌, ◌++◌, length, drop, get_or, refl, sym, ap, ◌∙◌, append_assoc, arith}
use Rattle.std.specs.Global.{Vec}
use Rattle.std.specs.List.{flat_map}
use Rattle.display_list.specs.declared.token.Token.TheVariants as token
use Rattle.display_list.specs.declared.token.Push.{Push}
use Rattle.std.specs.Prelude.{All}
use Rattle.std.proofs.Math.Seq.{drop-cons}
use Rattle.std.proofs.lemmas.List.Elements.{All-head, All-tail}
use Rattle.blend_rules.specs.declared.colour.Px.{Px}
use Rattle.display_list.specs.declared.item.Spot.{Spot}
use Rattle.display_list.specs.declared.item.GlyphAt.{GlyphAt}
use Rattle.display_list.specs.declared.item.Item.TheVariants as item
use Rattle.display_list.specs.declared.item.Item.TheVariants.{rolls-Text}
use Rattle.display_list.specs.declared.item.Item.TheOpen.{Item-F}
use Rattle.display_list.specs.declared.item.Item.TheFolds.{fold-roll-Item}
use Rattle.display_list.specs.declared.token.Token.{Token}
use Rattle.display_list.specs.Counts.{HasFewGlyphs}
use Rattle.std.proofs.lemmas.List.{append-nil, nil_from_length, length-drop, length-append}
use Rattle.display_list.specs.declared.item.Item.{Item}
use Rattle.display_list.specs.Tokens.{tokens_step, item_tokens, tokens_of}
use Rattle.display_list.specs.Spelling.{token_bytes, push_bytes}
use Rattle.display_list.proofs.Trees.{context_of, context_tokens, all_split}

pub flat_map-append : {X : Type 0} (f : X → List ℕ) (xs ys : List X) → flat_map f (xs ++ ys) ≡ flat_map f xs ++ flat_map f ys
flat_map-append f [] ys = refl
flat_map-append f (x ∷ xs) ys = ap (λ (o : List ℕ). f x ++ o) (flat_map-append f xs ys) ∙ sym (append_assoc (f x) (flat_map f xs) (flat_map f ys))

pub context_bytes : (p : Push) (children : Vec Item)
    → flat_map token_bytes (item_tokens (context_of p children)) ≡ push_bytes p ++ (flat_map token_bytes (tokens_of children.items) ++ 11 ∷ [])
context_bytes p children =
    ap (flat_map token_bytes) (context_tokens p children)
    ∙ ap (λ (o : List ℕ). push_bytes p ++ o) (flat_map-append token_bytes (tokens_of children.items) (token.Pop ∷ []))

-- of what is left from an item on
pub left_bytes : (is : List Item) (k : ℕ) (i : Item) → k < length is → i ≡ get_or is k i
    → flat_map token_bytes (tokens_of (drop k is)) ≡ flat_map token_bytes (item_tokens i) ++ flat_map token_bytes (tokens_of (drop (suc k) is))
unfolding tokens_of
left_bytes is k i lt e =
    ap (λ (js : List Item). flat_map token_bytes (tokens_of js)) (drop-cons is k i lt ∙ ap (λ (j : Item). j ∷ drop (suc k) is) (sym e))
    ∙ flat_map-append token_bytes (item_tokens i) (tokens_of (drop (suc k) is))

-- one item more is written
pub more_written : (is : List Item) (k : ℕ) (i : Item) (written now total : List ℕ) → k < length is → i ≡ get_or is k i
    → now ≡ written ++ flat_map token_bytes (item_tokens i) → written ++ flat_map token_bytes (tokens_of (drop k is)) ≡ total
    → now ++ flat_map token_bytes (tokens_of (drop (k + 1) is)) ≡ total
more_written is k i written now total lt e w h =
    let next : k + 1 ≡ suc k = omega arith in
    rw (w, next)
    (append_assoc written (flat_map token_bytes (item_tokens i)) (flat_map token_bytes (tokens_of (drop (suc k) is)))
    ∙ ap (λ (o : List ℕ). written ++ o) (sym (left_bytes is k i lt e)) ∙ h)

-- none is left
pub all_written : (is : List Item) (k : ℕ) (written total : List ℕ) → length is ≤ k → written ++ flat_map token_bytes (tokens_of (drop k is)) ≡ total → written ≡ total
unfolding tokens_of
all_written is k written total le h =
    let none : drop k is ≡ [] = nil_from_length (drop k is) (omega (arith, length-drop k is)) in
    sym (append-nil written) ∙ ap (λ (js : List Item). written ++ flat_map token_bytes (tokens_of js)) (sym none) ∙ h

-- ---- counts of glyphs

text_tokens : (o : Spot) (f : ℕ) (q : Px) (gs : List GlyphAt) → item_tokens (item.Text o f q gs) ≡ token.Text o f q gs ∷ []
text_tokens o f q gs = ap item_tokens (sym (rolls-Text o f q gs)) ∙ fold-roll-Item (List Token) tokens_step (Item-F.Text o f q gs)

pub few_text : (o : Spot) (f : ℕ) (q : Px) (gs : List GlyphAt) → All HasFewGlyphs (item_tokens (item.Text o f q gs)) → length gs < 2 ^ 16
few_text o f q gs h = All-head HasFewGlyphs (token.Text o f q gs) [] (subst (All HasFewGlyphs) (text_tokens o f q gs) h)

pub few_children : (p : Push) (children : Vec Item) → All HasFewGlyphs (item_tokens (context_of p children)) → All HasFewGlyphs (tokens_of children.items)
few_children p children h =
    let k = subst (All HasFewGlyphs) (context_tokens p children) h in
    (all_split HasFewGlyphs (tokens_of children.items) (token.Pop ∷ []) (All-tail HasFewGlyphs (token.Push p) _ k)).0

pub few_item : (is : List Item) (k : ℕ) (i : Item) → k < length is → i ≡ get_or is k i → All HasFewGlyphs (tokens_of is) → All HasFewGlyphs (item_tokens i)
unfolding tokens_of
few_item [] k i lt e h = absurd (omega arith)
few_item (j ∷ is) zero i lt e h = subst (λ (o : Item). All HasFewGlyphs (item_tokens o)) (sym e) (all_split HasFewGlyphs (item_tokens j) (tokens_of is) h).0
few_item (j ∷ is) (suc k) i lt e h = few_item is k i (omega arith) e (all_split HasFewGlyphs (item_tokens j) (tokens_of is) h).1

-- ---- how many tokens are left

pub context_length : (p : Push) (children : Vec Item) → length (item_tokens (context_of p children)) ≡ length (tokens_of children.items) + 2
context_length p children =
    ap (λ (ts : List Token). length ts) (context_tokens p children) ∙ omega (arith, length-append (tokens_of children.items) (token.Pop ∷ []))

pub item_length : (is : List Item) (k : ℕ) (i : Item) → k < length is → i ≡ get_or is k i → length (item_tokens i) ≤ length (tokens_of is)
unfolding tokens_of
item_length [] k i lt e = absurd (omega arith)
item_length (j ∷ is) zero i lt e = omega (arith, length-append (item_tokens j) (tokens_of is), ap (λ (o : Item). length (item_tokens o)) e)
item_length (j ∷ is) (suc k) i lt e = omega (arith, item_length is k i (omega arith) e, length-append (item_tokens j) (tokens_of is))

pub ruleset writing = context_bytes
