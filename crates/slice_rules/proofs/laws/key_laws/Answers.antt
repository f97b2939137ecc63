use Rattle.slice_rules.proofs.Keys.{each_key, key_homes, keys_distinct}
use Rattle.slice_rules.proofs.laws.key_laws.Goals as goal

pub returns : goal.returns
returns g c = record { each = each_key; homes = key_homes; distinct = keys_distinct }
