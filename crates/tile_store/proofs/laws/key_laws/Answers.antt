use Rattle.tile_store.proofs.Keys.{key_same, key_from}
use Rattle.tile_store.proofs.laws.key_laws.Goals as goal

pub returns : goal.returns
returns c = λ a b. (key_same a b, key_from a b)
