-- The tokens of trees tell the trees.
use Rattle.std.proofs.Common.{◌≡◌, List, [], ◌∷◌, ◌++◌, map, refl, sym, ap, subst, ◌∙◌, append_assoc}
use Rattle.std.proofs.lemmas.List.{append-nil}
use Rattle.std.specs.Global.{Vec}
use Rattle.display_list.specs.declared.token.Token.{Token}
use Rattle.display_list.specs.declared.token.Token.TheVariants as token
use Rattle.display_list.specs.declared.token.Push.{Push}
use Rattle.display_list.specs.declared.item.Item.{Item}
use Rattle.display_list.specs.declared.item.Item.TheVariants as item
use Rattle.display_list.specs.declared.item.Item.TheVariants.{rolls-Solid, rolls-Image, rolls-Border, rolls-Text, rolls-Context, rolls-Iframe, rolls-HitArea}
use Rattle.display_list.specs.declared.item.Item.TheOpen.{Item-F}
use Rattle.display_list.specs.declared.item.Item.TheViews.{roll-Item}
use Rattle.display_list.specs.declared.item.Item.TheFolds.{fold-roll-Item, ind-Item, map-Item}
use Rattle.display_list.specs.Tokens.{tokens_step, item_tokens, tokens_of}
use Rattle.display_list.specs.Trees.{Tree, solid, image, border, text, context, iframe, hit_area, Trees, none, more, row_of, tree_step, tree_of, trees_of, joint, and_tree, told_after, told, tree_tokens, trees_tokens}
use Rattle.display_list.proofs.Trees.{joined-map}

joint-none : (ts : Trees) → joint ts none ≡ ts
joint-none none = refl
joint-none (more t ts) = ap (more t) (joint-none ts)

joint-one : (ts us : Trees) (t : Tree) → joint (and_tree ts t) us ≡ joint ts (more t us)
joint-one none us t = refl
joint-one (more s ts) us t = ap (more s) (joint-one ts us t)

mutual
  told_tree : (t : Tree) (ts : List Token) (open_ : List (Push × Trees)) (now : Trees) → told_after (tree_tokens t ++ ts) open_ now ≡ told_after ts open_ (and_tree now t)
  told_tree (solid o c) ts os now = refl
  told_tree (image o k u v) ts os now = refl
  told_tree (border o w t r b l c) ts os now = refl
  told_tree (text o f c gs) ts os now = refl
  told_tree (context p us) ts os now =
      ap (λ (vs : List Token). told_after vs ((p, now) ∷ os) none) (append_assoc (trees_tokens us) (token.Pop ∷ []) ts)
      ∙ told_trees us (token.Pop ∷ ts) ((p, now) ∷ os) none
  told_tree (iframe o n) ts os now = refl
  told_tree (hit_area o n) ts os now = refl

  told_trees : (us : Trees) (ts : List Token) (open_ : List (Push × Trees)) (now : Trees) → told_after (trees_tokens us ++ ts) open_ now ≡ told_after ts open_ (joint now us)
  told_trees none ts os now = ap (told_after ts os) (sym (joint-none now))
  told_trees (more u us) ts os now =
      ap (λ (vs : List Token). told_after vs os now) (append_assoc (tree_tokens u) (trees_tokens us) ts)
      ∙ told_tree u (trees_tokens us ++ ts) os now
      ∙ told_trees us ts os (and_tree now u)
      ∙ ap (told_after ts os) (joint-one now us u)

-- the tokens of trees tell the trees
pub told_again : (us : Trees) → told (trees_tokens us) ≡ us
unfolding told
told_again us = ap (λ (vs : List Token). told_after vs [] none) (sym (append-nil (trees_tokens us))) ∙ told_trees us [] [] none

-- ---- the tree of each kind of item

pub tree-solid : (o : _) (c : _) → tree_of (item.Solid o c) ≡ solid o c
tree-solid o c = ap tree_of (sym (rolls-Solid o c)) ∙ fold-roll-Item Tree tree_step (Item-F.Solid o c)

pub tree-image : (o : _) (k : _) (u : _) (v : _) → tree_of (item.Image o k u v) ≡ image o k u v
tree-image o k u v = ap tree_of (sym (rolls-Image o k u v)) ∙ fold-roll-Item Tree tree_step (Item-F.Image o k u v)

pub tree-border : (o : _) (w : _) (t : _) (r : _) (b : _) (l : _) (c : _) → tree_of (item.Border o w t r b l c) ≡ border o w t r b l c
tree-border o w t r b l c = ap tree_of (sym (rolls-Border o w t r b l c)) ∙ fold-roll-Item Tree tree_step (Item-F.Border o w t r b l c)

pub tree-text : (o : _) (f : _) (c : _) (gs : _) → tree_of (item.Text o f c gs) ≡ text o f c gs
tree-text o f c gs = ap tree_of (sym (rolls-Text o f c gs)) ∙ fold-roll-Item Tree tree_step (Item-F.Text o f c gs)

pub tree-iframe : (o : _) (n : _) → tree_of (item.Iframe o n) ≡ iframe o n
tree-iframe o n = ap tree_of (sym (rolls-Iframe o n)) ∙ fold-roll-Item Tree tree_step (Item-F.Iframe o n)

pub tree-hit_area : (o : _) (n : _) → tree_of (item.HitArea o n) ≡ hit_area o n
tree-hit_area o n = ap tree_of (sym (rolls-HitArea o n)) ∙ fold-roll-Item Tree tree_step (Item-F.HitArea o n)

row_of-map : (is : List Item) → row_of (map tree_of is) ≡ trees_of is
row_of-map [] = refl
row_of-map (i ∷ is) = ap (more (tree_of i)) (row_of-map is)

pub tree-context : (n : _) (c : _) (o : _) (p : _) (m : _) (i : _) (children : Vec Item)
    → tree_of (item.Context n c o p m i children) ≡ context (record { node = n; chain = c; opacity = o; prop = p; mode = m; isolate = i }) (trees_of children.items)
tree-context n c o p m i children =
    ap tree_of (sym (rolls-Context n c o p m i children)) ∙ fold-roll-Item Tree tree_step (Item-F.Context n c o p m i children) ∙ rw (row_of-map children.items) refl

-- the equations that tie an item to its tree
pub ruleset trees = (tree-solid, tree-image, tree-border, tree-text, tree-iframe, tree-hit_area, tree-context)

-- ---- of items

-- an item's tokens are those of its tree
record IsTold (i : Item) : Type 0 where
  tokens : item_tokens i ≡ tree_tokens (tree_of i)

abbrev items : List ((i : Item) × IsTold i) → List Item
items = map (λ e. e.0)

all_told : (es : List ((i : Item) × IsTold i)) → tokens_of (items es) ≡ trees_tokens (trees_of (items es))
unfolding tokens_of
all_told [] = refl
all_told (e ∷ es) =
    ap (λ (ts : List Token). ts ++ tokens_of (items es)) e.1.tokens ∙ ap (λ (ts : List Token). tree_tokens (tree_of e.0) ++ ts) (all_told es)

-- a layer without children
leaf_told : (y : Item-F Item) (t : Token) (u : Tree) → tree_tokens u ≡ t ∷ [] → item_tokens (roll-Item y) ≡ t ∷ [] → tree_of (roll-Item y) ≡ u → IsTold (roll-Item y)
leaf_told y t u h e f = record { tokens = e ∙ sym h ∙ ap tree_tokens (sym f) }

context_told : (p : Push) (children : Vec Item) → tokens_of children.items ≡ trees_tokens (trees_of children.items) → IsTold (roll-Item (Item-F.Context p.node p.chain p.opacity p.prop p.mode p.isolate children))
context_told p children h =
    let y : Item-F Item = Item-F.Context p.node p.chain p.opacity p.prop p.mode p.isolate children in
    let tree_is : tree_of (roll-Item y) ≡ context p (trees_of children.items) = fold-roll-Item Tree tree_step y ∙ rw (row_of-map children.items) refl in
    let tokens_are : item_tokens (roll-Item y) ≡ token.Push p ∷ (tokens_of children.items ++ token.Pop ∷ []) = fold-roll-Item (List Token) tokens_step y ∙ rw (joined-map children.items) refl in
    record { tokens = tokens_are ∙ ap (λ (ts : List Token). token.Push p ∷ (ts ++ token.Pop ∷ [])) h ∙ ap tree_tokens (sym tree_is) }

layer_told : (y : Item-F ((i : Item) × IsTold i)) → IsTold (roll-Item (map-Item _ _ (λ e. e.0) y))
layer_told (Item-F.Solid o c) = leaf_told (Item-F.Solid o c) (token.Solid o c) (solid o c) refl (fold-roll-Item (List Token) tokens_step (Item-F.Solid o c)) (fold-roll-Item Tree tree_step (Item-F.Solid o c))
layer_told (Item-F.Image o k u v) =
    leaf_told (Item-F.Image o k u v) (token.Image o k u v) (image o k u v) refl (fold-roll-Item (List Token) tokens_step (Item-F.Image o k u v)) (fold-roll-Item Tree tree_step (Item-F.Image o k u v))
layer_told (Item-F.Border o w t r b l c) =
    leaf_told (Item-F.Border o w t r b l c) (token.Border o w t r b l c) (border o w t r b l c) refl
    (fold-roll-Item (List Token) tokens_step (Item-F.Border o w t r b l c))
    (fold-roll-Item Tree tree_step (Item-F.Border o w t r b l c))
layer_told (Item-F.Text o f c gs) =
    leaf_told (Item-F.Text o f c gs) (token.Text o f c gs) (text o f c gs) refl (fold-roll-Item (List Token) tokens_step (Item-F.Text o f c gs)) (fold-roll-Item Tree tree_step (Item-F.Text o f c gs))
layer_told (Item-F.Context n c o p m i children) =
    context_told (record { node = n; chain = c; opacity = o; prop = p; mode = m; isolate = i }) _ (all_told children.items)
layer_told (Item-F.Iframe o n) = leaf_told (Item-F.Iframe o n) (token.Iframe o n) (iframe o n) refl (fold-roll-Item (List Token) tokens_step (Item-F.Iframe o n)) (fold-roll-Item Tree tree_step (Item-F.Iframe o n))
layer_told (Item-F.HitArea o n) =
    leaf_told (Item-F.HitArea o n) (token.HitArea o n) (hit_area o n) refl (fold-roll-Item (List Token) tokens_step (Item-F.HitArea o n)) (fold-roll-Item Tree tree_step (Item-F.HitArea o n))

item_told : (i : Item) → IsTold i
item_told = ind-Item IsTold (λ x y is. subst (λ (z : Item-F Item). IsTold (roll-Item z)) is (layer_told y))

list_told : (is : List Item) → tokens_of is ≡ trees_tokens (trees_of is)
unfolding tokens_of
list_told [] = refl
list_told (i ∷ is) = ap (λ (ts : List Token). ts ++ tokens_of is) (item_told i).tokens ∙ ap (λ (ts : List Token). tree_tokens (tree_of i) ++ ts) (list_told is)

-- the tokens of items tell their trees
pub told_law : (is : List Item) → told (tokens_of is) ≡ trees_of is
told_law is = ap told (list_told is) ∙ told_again (trees_of is)

-- items of the same tokens are the same trees
pub one_tree : (is js : List Item) → tokens_of is ≡ tokens_of js → trees_of is ≡ trees_of js
one_tree is js e = sym (told_law is) ∙ ap told e ∙ told_law js
