-- What holds of the trees that a list's tokens tell.
use Rattle.std.proofs.Common.{◌≡◌, ℕ, ◌+◌, ◌-◌, ◌<◌, ◌≤◌, List, [], ◌∷◌, ◌++◌, length, refl, sym, ap, subst, ◌∙◌, append_assoc, arith}
use Rattle.std.specs.Prelude.{All}
use Rattle.std.proofs.lemmas.List.{append-nil}
use Rattle.std.proofs.lemmas.List.Elements.{All-head, All-tail}
use Rattle.display_list.specs.declared.token.Token.{Token}
use Rattle.display_list.specs.declared.token.Token.TheVariants as token
use Rattle.display_list.specs.declared.token.Push.{Push}
use Rattle.display_list.specs.ListModel.{ListModel}
use Rattle.display_list.proofs.Trees.{all_split}
use Rattle.display_list.specs.Levels.{Nests}
use Rattle.display_list.specs.Facts.{IsToken, IsList}
use Rattle.display_list.specs.Grammar.{AllNameAbove, Fits}
use Rattle.display_list.specs.Trees.{Tree, solid, image, border, text, context, iframe, hit_area, Trees, none, more, joint, and_tree, told_after, told, tree_tokens, trees_tokens, tree_nesting, nesting_of, IsTree, AreTrees, TreeNamesAbove, TreesNameAbove}

-- ---- tokens that nest are those of the trees that they tell

-- the tokens of contexts that are open, with what stands before each
abbrev open_tokens : List (Push × Trees) → List Token
open_tokens [] = []
open_tokens (o ∷ os) = open_tokens os ++ (trees_tokens o.1 ++ token.Push o.0 ∷ [])

joint_tokens : (ts us : Trees) → trees_tokens (joint ts us) ≡ trees_tokens ts ++ trees_tokens us
joint_tokens none us = refl
joint_tokens (more t ts) us = ap (λ (o : List Token). tree_tokens t ++ o) (joint_tokens ts us) ∙ sym (append_assoc (tree_tokens t) (trees_tokens ts) (trees_tokens us))

and_tokens : (ts : Trees) (t : Tree) → trees_tokens (and_tree ts t) ≡ trees_tokens ts ++ tree_tokens t
and_tokens ts t = joint_tokens ts (more t none) ∙ ap (λ (o : List Token). trees_tokens ts ++ o) (append-nil (tree_tokens t))

-- what is told so far, and the tokens that are left
abbrev so_far : List (Push × Trees) → Trees → List Token → List Token
so_far os now ts = open_tokens os ++ (trees_tokens now ++ ts)

leaf_so_far : (os : List (Push × Trees)) (now : Trees) (u : Tree) (t : Token) (ts : List Token) → tree_tokens u ≡ t ∷ [] → so_far os (and_tree now u) ts ≡ so_far os now (t ∷ ts)
leaf_so_far os now u t ts h = rw (and_tokens now u, h) (ap (λ (o : List Token). open_tokens os ++ o) (append_assoc (trees_tokens now) (t ∷ []) ts))

push_so_far : (os : List (Push × Trees)) (now : Trees) (p : Push) (ts : List Token) → so_far ((p, now) ∷ os) none ts ≡ so_far os now (token.Push p ∷ ts)
push_so_far os now p ts =
    append_assoc (open_tokens os) (trees_tokens now ++ token.Push p ∷ []) ts ∙ ap (λ (o : List Token). open_tokens os ++ o) (append_assoc (trees_tokens now) (token.Push p ∷ []) ts)

pop_so_far : (os : List (Push × Trees)) (before now : Trees) (p : Push) (ts : List Token) → so_far os (and_tree before (context p now)) ts ≡ so_far ((p, before) ∷ os) now (token.Pop ∷ ts)
pop_so_far os before now p ts = rw and_tokens (simp append_assoc)

told_back : (os : List (Push × Trees)) (now : Trees) (ts : List Token) → Nests (length os) ts 0 → trees_tokens (told_after ts os now) ≡ so_far os now ts
told_back [] now [] h = sym (append-nil (trees_tokens now))
told_back (o ∷ os) now [] h = absurd (omega arith)
told_back os now (token.Push p ∷ ts) h =
    let deeper : length os + 1 ≡ length ((p, now) ∷ os) = omega arith in
    told_back ((p, now) ∷ os) none ts (subst (λ (d : ℕ). Nests d ts 0) deeper h.1) ∙ push_so_far os now p ts
told_back [] now (token.Pop ∷ ts) h = absurd (let k = h.0 in omega arith)
told_back (o ∷ os) now (token.Pop ∷ ts) h =
    let higher : length (o ∷ os) - 1 ≡ length os = omega arith in
    told_back os (and_tree o.1 (context o.0 now)) ts (subst (λ (d : ℕ). Nests d ts 0) higher h.1) ∙ pop_so_far os o.1 now o.0 ts
told_back os now (token.Solid o c ∷ ts) h = told_back os (and_tree now (solid o c)) ts h.1 ∙ leaf_so_far os now (solid o c) (token.Solid o c) ts refl
told_back os now (token.Image o k u v ∷ ts) h = told_back os (and_tree now (image o k u v)) ts h.1 ∙ leaf_so_far os now (image o k u v) (token.Image o k u v) ts refl
told_back os now (token.Border o w t r b l c ∷ ts) h = told_back os (and_tree now (border o w t r b l c)) ts h.1 ∙ leaf_so_far os now (border o w t r b l c) (token.Border o w t r b l c) ts refl
told_back os now (token.Text o f c gs ∷ ts) h = told_back os (and_tree now (text o f c gs)) ts h.1 ∙ leaf_so_far os now (text o f c gs) (token.Text o f c gs) ts refl
told_back os now (token.Iframe o n ∷ ts) h = told_back os (and_tree now (iframe o n)) ts h.1 ∙ leaf_so_far os now (iframe o n) (token.Iframe o n) ts refl
told_back os now (token.HitArea o n ∷ ts) h = told_back os (and_tree now (hit_area o n)) ts h.1 ∙ leaf_so_far os now (hit_area o n) (token.HitArea o n) ts refl

pub trees_tell : (l : ListModel) → IsList l → trees_tokens (told l.items) ≡ l.items
unfolding told
trees_tell l h = told_back [] none l.items h.items.nested

-- ---- facts of every token are facts of the trees

mutual
  tree_fields : (n c : ℕ) (t : Tree) → All (IsToken n c) (tree_tokens t) → IsTree n c t
  tree_fields n c (solid o q) h = All-head (IsToken n c) (token.Solid o q) [] h
  tree_fields n c (image o k u v) h = All-head (IsToken n c) (token.Image o k u v) [] h
  tree_fields n c (border o w t r b l q) h = All-head (IsToken n c) (token.Border o w t r b l q) [] h
  tree_fields n c (text o f q gs) h = All-head (IsToken n c) (token.Text o f q gs) [] h
  tree_fields n c (context p ts) h =
      (All-head (IsToken n c) (token.Push p) _ h, trees_fields n c ts (all_split (IsToken n c) (trees_tokens ts) (token.Pop ∷ []) (All-tail (IsToken n c) (token.Push p) _ h)).0)
  tree_fields n c (iframe o k) h = All-head (IsToken n c) (token.Iframe o k) [] h
  tree_fields n c (hit_area o k) h = All-head (IsToken n c) (token.HitArea o k) [] h

  trees_fields : (n c : ℕ) (ts : Trees) → All (IsToken n c) (trees_tokens ts) → AreTrees n c ts
  trees_fields n c none h = tt
  trees_fields n c (more t ts) h =
      let both = all_split (IsToken n c) (tree_tokens t) (trees_tokens ts) h in
      (tree_fields n c t both.0, trees_fields n c ts both.1)

pub list_trees : (l : ListModel) → IsList l → AreTrees (length l.nodes + 1) (length l.chains) (told l.items)
list_trees l h = trees_fields _ _ (told l.items) (subst (All (IsToken (length l.nodes + 1) (length l.chains))) (sym (trees_tell l h)) h.items.each)

-- ---- nesting

-- trees at a depth leave it, and reach no deeper than 64
record IsLow (height depth last : ℕ) (ts : List Token) : Type 0 where
  low : depth ≤ 64 → height + depth ≤ 64
  rest : Nests depth ts last

higher : (d : ℕ) → d + 1 - 1 ≡ d
higher d = omega arith

mutual
  tree_low : (d e : ℕ) (t : Tree) (ts : List Token) → Nests d (tree_tokens t ++ ts) e → IsLow (tree_nesting t) d e ts
  tree_low d e (solid o q) ts h = record { low = λ k. omega arith; rest = h.1 }
  tree_low d e (image o k u v) ts h = record { low = λ k. omega arith; rest = h.1 }
  tree_low d e (border o w t r b l q) ts h = record { low = λ k. omega arith; rest = h.1 }
  tree_low d e (text o f q gs) ts h = record { low = λ k. omega arith; rest = h.1 }
  tree_low d e (context p us) ts h =
      let inner = trees_low (d + 1) e us (token.Pop ∷ ts) (subst (λ (o : List Token). Nests (d + 1) o e) (append_assoc (trees_tokens us) (token.Pop ∷ []) ts) h.1) in
      let room : d < 64 = h.0 in
      let low : nesting_of us + (d + 1) ≤ 64 = inner.low (omega arith) in
      record { low = λ k. omega arith; rest = subst (λ (n : ℕ). Nests n ts e) (higher d) inner.rest.1 }
  tree_low d e (iframe o k) ts h = record { low = λ j. omega arith; rest = h.1 }
  tree_low d e (hit_area o k) ts h = record { low = λ j. omega arith; rest = h.1 }

  trees_low : (d e : ℕ) (us : Trees) (ts : List Token) → Nests d (trees_tokens us ++ ts) e → IsLow (nesting_of us) d e ts
  trees_low d e none ts h = record { low = λ k. omega arith; rest = h }
  trees_low d e (more u us) ts h =
      let first = tree_low d e u (trees_tokens us ++ ts) (subst (λ (o : List Token). Nests d o e) (append_assoc (tree_tokens u) (trees_tokens us) ts) h) in
      let others = trees_low d e us ts first.rest in
      record { low = λ k. let a = first.low k in let b = others.low k in omega arith; rest = others.rest }

pub trees_are_low : (l : ListModel) → IsList l → nesting_of (told l.items) ≤ 64
trees_are_low l h =
    let nested : Nests 0 (trees_tokens (told l.items) ++ []) 0 = subst (λ (o : List Token). Nests 0 o 0) (sym (append-nil (trees_tokens (told l.items)) ∙ trees_tell l h)) h.items.nested in
    let low : nesting_of (told l.items) + 0 ≤ 64 = (trees_low 0 0 (told l.items) [] nested).low (omega arith) in
    omega arith

-- ---- which pipelines are named

names_split : (own : ℕ) (xs ys : List Token) → AllNameAbove own (xs ++ ys) → AllNameAbove own xs × AllNameAbove own ys
names_split own [] ys h = (tt, h)
names_split own (x ∷ xs) ys h = let rest = names_split own xs ys h.1 in ((h.0, rest.0), rest.1)

names_join : (own : ℕ) (xs ys : List Token) → AllNameAbove own xs → AllNameAbove own ys → AllNameAbove own (xs ++ ys)
names_join own [] ys h k = k
names_join own (x ∷ xs) ys h k = (h.0, names_join own xs ys h.1 k)

mutual
  tree_named : (own : ℕ) (t : Tree) → AllNameAbove own (tree_tokens t) → TreeNamesAbove own t
  tree_named own (solid o q) h = tt
  tree_named own (image o k u v) h = tt
  tree_named own (border o w t r b l q) h = tt
  tree_named own (text o f q gs) h = tt
  tree_named own (context p ts) h = trees_named own ts (names_split own (trees_tokens ts) (token.Pop ∷ []) h.1).0
  tree_named own (iframe o k) h = h.0
  tree_named own (hit_area o k) h = tt

  trees_named : (own : ℕ) (ts : Trees) → AllNameAbove own (trees_tokens ts) → TreesNameAbove own ts
  trees_named own none h = tt
  trees_named own (more t ts) h =
      let both = names_split own (tree_tokens t) (trees_tokens ts) h in
      (tree_named own t both.0, trees_named own ts both.1)

mutual
  tree_names : (own : ℕ) (t : Tree) → TreeNamesAbove own t → AllNameAbove own (tree_tokens t)
  tree_names own (solid o q) h = (tt, tt)
  tree_names own (image o k u v) h = (tt, tt)
  tree_names own (border o w t r b l q) h = (tt, tt)
  tree_names own (text o f q gs) h = (tt, tt)
  tree_names own (context p ts) h = (tt, names_join own (trees_tokens ts) (token.Pop ∷ []) (trees_names own ts h) (tt, tt))
  tree_names own (iframe o k) h = (h, tt)
  tree_names own (hit_area o k) h = (tt, tt)

  trees_names : (own : ℕ) (ts : Trees) → TreesNameAbove own ts → AllNameAbove own (trees_tokens ts)
  trees_names own none h = tt
  trees_names own (more t ts) h = names_join own (tree_tokens t) (trees_tokens ts) (tree_names own t h.0) (trees_names own ts h.1)

pub fits_trees : (own : ℕ) (l : ListModel) → IsList l → Fits own l → TreesNameAbove own (told l.items)
fits_trees own l h f = trees_named own (told l.items) (subst (AllNameAbove own) (sym (trees_tell l h)) f)

pub trees_fit : (own : ℕ) (l : ListModel) → IsList l → TreesNameAbove own (told l.items) → Fits own l
trees_fit own l h f = subst (AllNameAbove own) (trees_tell l h) (trees_names own (told l.items) f)
