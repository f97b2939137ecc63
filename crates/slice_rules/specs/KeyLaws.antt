-- What holds of the keys of slices, as laws on the definitions.
use Rattle.std.specs.Prelude.{◌≡◌, ◌≢◌, List, map, length, AllPairs}
use Rattle.slice_rules.specs.Runs.{Run, mapped}
use Rattle.slice_rules.specs.Keys.{slice_keys}

-- each slice has a key
abbrev pub EachSliceHasAKey : Type 0 → Type 0
EachSliceHasAKey T = (slices : List (Run T)) → length (slice_keys slices) ≡ length slices

-- it is the home of the slice
abbrev pub KeysNameHomes : Type 0 → Type 0
KeysNameHomes T = (slices : List (Run T)) → map (λ key. key.scroll) (slice_keys slices) ≡ map (λ slice. slice.home) slices

-- no two slices have the same key
abbrev pub KeysAreDistinct : Type 0 → Type 0
KeysAreDistinct T = (slices : List (Run T)) → AllPairs (λ k l. k ≢ l) (slice_keys slices)

-- the keys know nothing of the members
abbrev pub KeysOfMapped : Type 0 → Type 0 → Type 0
KeysOfMapped A B = (f : A → B) (slices : List (Run A)) → slice_keys (map (mapped f) slices) ≡ slice_keys slices
