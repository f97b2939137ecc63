-- The tokens of items, in order.
use Rattle.std.specs.Prelude.{List, [], ◌∷◌, ◌++◌}
use Rattle.display_list.specs.declared.token.Token.{Token}
use Rattle.display_list.specs.declared.token.Token.TheVariants as token
use Rattle.display_list.specs.declared.item.Item.{Item}
use Rattle.display_list.specs.declared.item.Item.TheOpen.{Item-F}
use Rattle.display_list.specs.declared.item.Item.TheFolds.{fold-Item}
use Rattle.display_list.specs.declared.builder.Open.{Open}

-- one list after another
abbrev pub joined : List (List Token) → List Token
joined [] = []
joined (ts ∷ tss) = ts ++ joined tss

abbrev pub tokens_step : Item-F (List Token) → List Token
tokens_step (Item-F.Solid spot colour) = token.Solid spot colour ∷ []
tokens_step (Item-F.Image spot key u v) = token.Image spot key u v ∷ []
tokens_step (Item-F.Border spot widths top right bottom l radii) = token.Border spot widths top right bottom l radii ∷ []
tokens_step (Item-F.Text spot font colour glyphs) = token.Text spot font colour glyphs ∷ []
tokens_step (Item-F.Context node chain opacity prop mode isolate children) =
    token.Push (record { node = node; chain = chain; opacity = opacity; prop = prop; mode = mode; isolate = isolate }) ∷ (joined children.items ++ token.Pop ∷ [])
tokens_step (Item-F.Iframe spot pipeline) = token.Iframe spot pipeline ∷ []
tokens_step (Item-F.HitArea spot tag) = token.HitArea spot tag ∷ []

abbrev pub item_tokens : Item → List Token
item_tokens = fold-Item (List Token) tokens_step

unfoldable pub tokens_of : List Item → List Token
tokens_of [] = []
tokens_of (i ∷ is) = item_tokens i ++ tokens_of is

-- of the contexts that are open, the outermost first
unfoldable pub open_tokens : List Open → List Token
open_tokens [] = []
open_tokens (o ∷ os) = tokens_of o.before.items ++ (token.Push o.push ∷ open_tokens os)
