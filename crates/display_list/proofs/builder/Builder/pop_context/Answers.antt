use Rattle.std.proofs.Common.{refl, ap, ◌∙◌, ◌∷◌, [], ◌≡◌, ◌-◌, length, arith, ◌++◌}
use Rattle.std.proofs.lemmas.List.{length-append}
use Rattle.display_list.proofs.Trees.{pop_step}
use Rattle.display_list.proofs.builder.Builder.pop_context.Goals as goal

pub returns : goal.returns
returns c =
    let less : length (c.pop.new.self.items ++ c.in-Some.field-0 ∷ []) - 1 ≡ length c.pop.new.self.items = omega (arith, length-append c.pop.new.self.items (c.in-Some.field-0 ∷ [])) in
    let same : c.shrink_to_fit.new.self.items ≡ c.self.inside.items.items = c.shrink_to_fit.ensures.items ∙ ap (λ v. v.items) c.replace-children.ensures.value in
    rw (c.in_ok-push.ensures.items, c.make_room.ensures, ← c.self.view_is, c.in-Some.ensures.items, c.replace-children.ensures.after, ← same, ← pop_step c.pop.new.self.items c.in-Some.field-0 c.shrink_to_fit.new.self, less) refl
