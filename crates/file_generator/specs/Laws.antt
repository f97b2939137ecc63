-- What holds of each generated file.
use Rattle.std.specs.Prelude.{◌≡◌, ℕ, ◌≤◌, ◌<◌, ◌^◌, List, [], length, All, Some}
use Rattle.record_frame.specs.Framing.{entries_of, after_closing, max_entries}
use Rattle.record_frame.specs.Transactions.{transactions}
use Rattle.file_generator.specs.Files.{payloads, file}

-- Its transactions are the payloads, and it ends with its closing byte.
pub record IsFileOf (number count : ℕ) : Type 0 where
  pub entries : entries_of transactions (file number count) ≡ payloads number count
  pub closed : after_closing transactions (file number count) ≡ Some []

abbrev pub FilesHavePayloads : Type 0
FilesHavePayloads = (number count : ℕ) → count ≤ max_entries → IsFileOf number count

-- a payload is short
abbrev pub IsShort : List ℕ → Type 0
IsShort payload = length payload < 2 ^ 11

-- Each payload has fewer than 2,048 bytes.
abbrev pub PayloadsAreShort : Type 0
PayloadsAreShort = (number count : ℕ) → All IsShort (payloads number count)
