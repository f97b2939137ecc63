use Rattle.image_store.proofs.ImageLaws.{patched_by_texel, first_bad_is_first, none_is_bad}
use Rattle.image_store.proofs.laws.image_laws.Goals as goal

pub returns : goal.returns
returns c = record { patched = patched_by_texel; first = first_bad_is_first; none = none_is_bad }
