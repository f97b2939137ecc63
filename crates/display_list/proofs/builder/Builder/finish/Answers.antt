use Rattle.std.proofs.Common.{◌≡◌, ap, sym, subst, ◌∙◌, List}
use Rattle.display_list.specs.declared.token.Token.{Token}
use Rattle.display_list.specs.ListModel.{ListModel}
use Rattle.display_list.specs.PartialList.{PartialList, list_of}
use Rattle.display_list.specs.Tokens.{tokens_of}
use Rattle.display_list.specs.Grammar.{IsSpelled}
use Rattle.display_list.proofs.Trees.{closed}
use Rattle.display_list.proofs.builder.Builder.finish.Goals as goal

pub new-requires : goal.new-requires
new-requires c =
    let inside : ListModel =
    record { nodes = c.self.inside.nodes.items; clips = c.self.inside.clips.items; chains = c.self.inside.chains.items; items = tokens_of c.self.inside.items.items } in
    let alone = closed c.self.inside.contexts.items c.self.inside.items.items (ap (λ (s : PartialList). s.depth) c.self.view_is ∙ c.requires.closed) in
    let same : list_of c.args.self ≡ inside = ap list_of (sym c.self.view_is) ∙ ap (λ (ts : List Token). let l : ListModel = record inside { items = ts } in l) alone in
    subst IsSpelled same c.requires.spelled

pub returns : goal.returns
returns c =
    let alone = closed c.self.inside.contexts.items c.self.inside.items.items (ap (λ (s : PartialList). s.depth) c.self.view_is ∙ c.requires.closed) in
    let inside : ListModel =
    record { nodes = c.self.inside.nodes.items; clips = c.self.inside.clips.items; chains = c.self.inside.chains.items; items = tokens_of c.self.inside.items.items } in
    c.new.ensures ∙ ap (λ (ts : List Token). let l : ListModel = record inside { items = ts } in l) (sym alone) ∙ ap list_of c.self.view_is
