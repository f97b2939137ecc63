use Rattle.std.proofs.Common.{◌≡◌, ◌≤◌, List, length, IsTrue, sym, ap, ap₂, subst, ◌∙◌, arith}
use Rattle.std.specs.Prelude.{All}
use Rattle.std.proofs.lemmas.List.Elements.{All-weaker}
use Rattle.primitives.specs.Stacks.{is_shallow}
use Rattle.primitives.specs.Tops.{AreTops, top_entries}
use Rattle.scene_flatten.specs.Tops.{scene_tops}
use Rattle.scene_flatten.proofs.Nesting.{tops_are_shallow, tops_have_few_entries}
use Rattle.picture_slices.specs.Facts.{HaveGoodEntries}
use Rattle.picture_slices.specs.Slices.{picture_slices}
use Rattle.picture_slices.specs.Values.{slices_over}
use Rattle.picture_slices.specs.declared.slice.Slice.{Slice}
use Rattle.picture_slices.proofs.Nesting.{slices_are_shallow, slices_have_few_entries}
use Rattle.scene_slices.specs.Picture.{view_rect}
use Rattle.scene_slices.proofs.Painted.{painted}
use Rattle.scene_slices.proofs.slices.scene_slices.Goals as goal

pub returns-clause-picture : goal.returns-clause-picture
returns-clause-picture c x y inside =
    let scene = c.args.scene.now in
    let same : c.in_ok-all.all ≡ scene_tops scene = c.in_ok-all.ensures.value in
    ap (λ slices. slices_over scene.store x y slices scene.clear) (c.in_ok-found.ensures.value ∙ ap₂ picture_slices c.view_rect.ensures same)
    ∙ painted scene x y c.know_scene.ensures (subst AreTops same c.in_ok-all.ensures.tops) (subst HaveGoodEntries same c.in_ok-found.ensures.good) inside

pub returns-clause-shallow : goal.returns-clause-shallow
returns-clause-shallow c =
    let scene = c.args.scene.now in
    let same : c.in_ok-all.all ≡ scene_tops scene = c.in_ok-all.ensures.value in
    let made = c.in_ok-found.ensures.value ∙ ap₂ picture_slices c.view_rect.ensures same in
    subst (λ (slices : List Slice). All (λ (s : Slice). IsTrue (is_shallow 64 s.entries)) slices) (sym made)
    (slices_are_shallow (view_rect scene) (scene_tops scene) 64 (subst AreTops same c.in_ok-all.ensures.tops) (tops_are_shallow scene c.know_scene.ensures))

pub returns-clause-few : goal.returns-clause-few
returns-clause-few c =
    let scene = c.args.scene.now in
    let same : c.in_ok-all.all ≡ scene_tops scene = c.in_ok-all.ensures.value in
    let made = c.in_ok-found.ensures.value ∙ ap₂ picture_slices c.view_rect.ensures same in
    let few = tops_have_few_entries scene c.know_scene.ensures in
    subst (λ (slices : List Slice). All (λ (s : Slice). length s.entries ≤ 131072) slices) (sym made)
    (All-weaker (λ (s : Slice). length s.entries ≤ length (top_entries (scene_tops scene))) (λ (s : Slice). length s.entries ≤ 131072) (λ s h. omega (arith, h, few))
    (picture_slices (view_rect scene) (scene_tops scene)) (slices_have_few_entries (view_rect scene) (scene_tops scene)))
