-- The tokens of growing trees.
use Rattle.std.proofs.Common.{◌≡◌, arith, List, length, [], ◌∷◌, ◌++◌, map, refl, sym, ap, ◌∙◌, append_assoc}
use Rattle.std.specs.Prelude.{All}
use Rattle.std.proofs.lemmas.List.{append-nil, nil_from_length}
use Rattle.std.proofs.lemmas.List.Elements.{All-cons, All-head, All-tail}
use Rattle.std.specs.Global.{Vec}
use Rattle.display_list.specs.declared.token.Token.{Token}
use Rattle.display_list.specs.declared.token.Token.TheVariants as token
use Rattle.display_list.specs.declared.token.Push.{Push}
use Rattle.display_list.specs.declared.item.Item.{Item}
use Rattle.display_list.specs.declared.item.Item.TheVariants.{Context, rolls-Context}
use Rattle.display_list.specs.declared.item.Item.TheOpen.{Item-F}
use Rattle.display_list.specs.declared.item.Item.TheFolds.{fold-roll-Item}
use Rattle.display_list.specs.declared.builder.Open.{Open}
use Rattle.display_list.specs.Tokens.{joined, tokens_step, item_tokens, tokens_of, open_tokens}

pub joined-map : (is : List Item) → joined (map item_tokens is) ≡ tokens_of is
unfolding tokens_of
joined-map [] = refl
joined-map (i ∷ is) = ap (λ (ts : List Token). item_tokens i ++ ts) (joined-map is)

-- a context with these children
abbrev pub context_of : Push → Vec Item → Item
context_of p children = Context p.node p.chain p.opacity p.prop p.mode p.isolate children

pub context_tokens : (p : Push) (children : Vec Item) → item_tokens (context_of p children) ≡ token.Push p ∷ (tokens_of children.items ++ token.Pop ∷ [])
context_tokens p children =
    ap item_tokens (sym (rolls-Context p.node p.chain p.opacity p.prop p.mode p.isolate children))
    ∙ fold-roll-Item (List Token) tokens_step (Item-F.Context p.node p.chain p.opacity p.prop p.mode p.isolate children)
    ∙ rw (joined-map children.items) refl

-- one more item
pub tokens_of-push : (is : List Item) (i : Item) → tokens_of (is ++ i ∷ []) ≡ tokens_of is ++ item_tokens i
unfolding tokens_of
tokens_of-push [] i = append-nil (item_tokens i)
tokens_of-push (j ∷ is) i = ap (λ (ts : List Token). item_tokens j ++ ts) (tokens_of-push is i) ∙ sym (append_assoc (item_tokens j) (tokens_of is) (item_tokens i))

-- one more context that is pushed
pub open_tokens-push : (os : List Open) (o : Open) → open_tokens (os ++ o ∷ []) ≡ open_tokens os ++ (tokens_of o.before.items ++ token.Push o.push ∷ [])
unfolding open_tokens
open_tokens-push [] o = refl
open_tokens-push (p ∷ os) o =
    ap (λ (ts : List Token). tokens_of p.before.items ++ (token.Push p.push ∷ ts)) (open_tokens-push os o)
    ∙ sym (append_assoc (tokens_of p.before.items) (token.Push p.push ∷ open_tokens os) (tokens_of o.before.items ++ token.Push o.push ∷ []))

-- what a growing tree stands for, after an item, a push and a pop
pub item_step : (os : List Open) (is : List Item) (i : Item) → open_tokens os ++ tokens_of (is ++ i ∷ []) ≡ (open_tokens os ++ tokens_of is) ++ item_tokens i
item_step os is i = rw (tokens_of-push is i) (sym (append_assoc (open_tokens os) (tokens_of is) (item_tokens i)))

pub push_step : (os : List Open) (o : Open) → open_tokens (os ++ o ∷ []) ++ tokens_of [] ≡ (open_tokens os ++ tokens_of o.before.items) ++ token.Push o.push ∷ []
unfolding tokens_of
push_step os o = rw (open_tokens-push os o, append-nil (open_tokens os ++ (tokens_of o.before.items ++ token.Push o.push ∷ []))) (sym (append_assoc (open_tokens os) (tokens_of o.before.items) (token.Push o.push ∷ [])))

pub pop_step : (os : List Open) (o : Open) (children : Vec Item) → open_tokens os ++ tokens_of (o.before.items ++ context_of o.push children ∷ []) ≡ (open_tokens (os ++ o ∷ []) ++ tokens_of children.items) ++ token.Pop ∷ []
pop_step os o children = rw (tokens_of-push o.before.items (context_of o.push children), context_tokens o.push children, open_tokens-push os o) (simp append_assoc)

-- with no context pushed there are the items alone
pub closed : (os : List Open) (is : List Item) → length os ≡ 0 → open_tokens os ++ tokens_of is ≡ tokens_of is
unfolding open_tokens
closed os is h = rw (nil_from_length os h) refl

-- a fact of each of two parts
pub all_split : (P : Token → Type 0) (xs ys : List Token) → All P (xs ++ ys) → All P xs × All P ys
all_split P [] ys h = (λ k d lt. absurd (omega arith), h)
all_split P (x ∷ xs) ys h =
    let rest = all_split P xs ys (All-tail P x (xs ++ ys) h) in
    (All-cons P x xs (All-head P x (xs ++ ys) h) rest.0, rest.1)
