use Rattle.std.proofs.Common.{sym, subst}
use Rattle.pipelines.specs.Listed.{ListedModel}
use Rattle.pipelines.specs.Table.{IsListOf}
use Rattle.scene_state.proofs.draft.Draft.set_list.Goals as goal

pub set_list-requires : goal.set_list-requires
set_list-requires c =
    let l = c.in-Ok.list in
    let fits : IsListOf c.args.pipeline l = record { list = c.spelling_laws.ensures.lists l (_, c.in-Ok.ensures.found); fits = c.in-Ok.ensures.fits } in
    subst (λ (listed : ListedModel). IsListOf c.args.pipeline listed.list) (sym c.in_ok-listed-in-Ok.ensures) fits
