-- The keys of slices.
use Rattle.std.specs.Prelude.{List, [], ◌∷◌, ◌++◌, map}
use Rattle.std.specs.List.{count_by}
use Rattle.wr_geom.specs.declared.keys.SliceKey.{SliceKey}
use Rattle.slice_rules.specs.Homes.{Home, same_home}
use Rattle.slice_rules.specs.Runs.{Run}

-- the key of a slice: its home, and its number, from 0, among the slices with that home; these homes are before it
abbrev pub key_after : List Home → Home → SliceKey
key_after before home = record { scroll = home; nth = count_by (λ h. same_home h home) before }

-- the keys of slices of these homes, after slices of others
abbrev pub keys_after : List Home → List Home → List SliceKey
keys_after before [] = []
keys_after before (h ∷ hs) = key_after before h ∷ keys_after (before ++ h ∷ []) hs

abbrev pub slice_keys : {T : Type 0} → List (Run T) → List SliceKey
slice_keys slices = keys_after [] (map (λ r. r.home) slices)
