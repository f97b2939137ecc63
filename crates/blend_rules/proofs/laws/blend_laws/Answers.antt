use Rattle.blend_rules.proofs.Blends.{blend_is_premultiplied, blend_is_pixel, clear_source_leaves, clear_backdrop_shows, opaque_covers, normal_needs_no_limit}
use Rattle.blend_rules.proofs.laws.blend_laws.Goals as goal

pub returns : goal.returns
returns c = record {
  premultiplied = blend_is_premultiplied;
  pixel = blend_is_pixel;
  clear_source = clear_source_leaves;
  clear_backdrop = clear_backdrop_shows;
  opaque = opaque_covers;
  no_limit = normal_needs_no_limit;
}
