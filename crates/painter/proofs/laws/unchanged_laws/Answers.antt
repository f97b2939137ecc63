use Rattle.painter.proofs.Unchanged.{primitive_inside, item_inside, iframe_inside, no_cover, clipped_away, empty_iframe, empty_tops}
use Rattle.painter.proofs.laws.unchanged_laws.Goals as goal

pub returns : goal.returns
returns c = record {
  primitive = primitive_inside;
  item = item_inside;
  iframe = iframe_inside;
  no_cover = no_cover;
  clipped_away = clipped_away;
  empty_iframe = empty_iframe;
  empty_tops = empty_tops;
}
