use Rattle.std.proofs.Common.{refl, ◌∷◌, []}
use Rattle.std.proofs.lemmas.List.{length-append}
use Rattle.display_list.specs.declared.builder.Open.{Open}
use Rattle.display_list.proofs.Trees.{push_step}
use Rattle.display_list.proofs.builder.Builder.push_context.Goals as goal

pub returns : goal.returns
returns c =
    let o : Open = record { push = c.args.push; before = c.self.inside.items } in
    rw (c.in_ok-push.ensures.items, ← c.self.view_is, c.replace-before.ensures.value, c.replace-before.ensures.after, c.new.ensures.items, push_step c.self.inside.contexts.items o, length-append c.self.inside.contexts.items (o ∷ [])) refl
