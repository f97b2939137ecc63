use Rattle.image_store.proofs.Steps.{adding_is_a_step, updating_is_a_step, adding_glyph_is_a_step, deleting_is_a_step, deleting_font_is_a_step, steps_keep_bound}
use Rattle.image_store.proofs.laws.generation_laws.Goals as goal

pub returns : goal.returns
returns c = record {
  added = adding_is_a_step;
  updated = updating_is_a_step;
  glyph_added = adding_glyph_is_a_step;
  deleted = deleting_is_a_step;
  font_deleted = deleting_font_is_a_step;
  bound = steps_keep_bound;
}
