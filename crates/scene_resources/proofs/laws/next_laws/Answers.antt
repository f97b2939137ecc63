use Rattle.scene_resources.proofs.Counting.{next_counter_is_a_bound}
use Rattle.scene_resources.proofs.Staying.{stores_agree, tiles_stay_sound, tiles_are_sound_above}
use Rattle.scene_resources.proofs.laws.next_laws.Goals as goal

pub returns : goal.returns
returns c = record { next = next_counter_is_a_bound; agrees = stores_agree; sound = tiles_stay_sound; below = tiles_are_sound_above }
