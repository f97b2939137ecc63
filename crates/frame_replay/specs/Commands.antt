-- The words of a run, and what each command leaves.
use Rattle.std.specs.Prelude.{◌≡◌, ◌⊎◌, ◌&&◌, ◌≤◌, ℕ, true, false, List, [], ◌∷◌, length, map, codes, nat_le, if◌then◌else◌, Option, Some, None, String}
use Rattle.std.specs.Global.{Global}
use Rattle.std.specs.Str.{all_ascii_digits, bytes_eq}
use Rattle.std.specs.Str.Parse.{digits_value}
use Rattle.std.specs.String.{string_bytes}
use Rattle.file_generator.specs.declared.limits.TheConstants.{MAX_TRANSACTIONS}
use Rattle.frame_replay.specs.Answer.{replayed}
use Rattle.frame_replay.specs.Load.{Summarises}
use Rattle.frame_replay.specs.Painting.{painted}
use Rattle.frame_replay.specs.Outcome.{Outcome, Completes}
use Rattle.frame_replay.specs.declared.words.Command.{Command}
use Rattle.frame_replay.specs.declared.words.Command.TheVariants.{Replay, Paint, Load}

-- this holds of the numbers of a load
abbrev pub IfLoad : Command → (ℕ → ℕ → Type 0) → Type 0
IfLoad (Replay stats) P = Unit {0}
IfLoad Paint P = Unit {0}
IfLoad (Load number count) P = P number count

-- a load makes at least one transaction, and not too many
abbrev pub IsCommand : Command → Type 0
IsCommand command = IfLoad command (λ number count. (1 ≤ count) × (count ≤ MAX_TRANSACTIONS))

-- the number that 1 to 10 decimal digits write; zeros may lead
abbrev pub number_in : List ℕ → Option ℕ
number_in word = if nat_le 1 (length word) && nat_le (length word) 10 && all_ascii_digits word then Some (digits_value 10 word) else None

-- a number, and how many transactions to make of it, at least one
abbrev pub load_of : Option ℕ → Option ℕ → Option Command
load_of None count = None
load_of (Some number) None = None
load_of (Some number) (Some count) = if nat_le 1 count && nat_le count MAX_TRANSACTIONS then Some (Load number count) else None

-- the command that words name
abbrev pub command_in : List (List ℕ) → Option Command
command_in [] = None
command_in (word ∷ []) = if bytes_eq word (codes "replay") then Some (Replay false) else if bytes_eq word (codes "paint") then Some Paint else None
command_in (word ∷ flag ∷ []) = if bytes_eq word (codes "replay") && bytes_eq flag (codes "--stats") then Some (Replay true) else None
command_in (word ∷ number ∷ count ∷ []) = if bytes_eq word (codes "load") then load_of (number_in number) (number_in count) else None
command_in (word ∷ number ∷ count ∷ next ∷ words) = None

abbrev pub command_named : List (String Global) → Option Command
command_named words = command_in (map string_bytes words)

-- what a command leaves, by its status: `load` takes nothing of the input
abbrev pub leaves : Command → ℕ → Option (List ℕ) → Option (List ℕ) → List ℕ → List ℕ → Type 0
leaves (Replay stats) status old new taken rest = Outcome (replayed stats) status old new taken rest
leaves Paint status old new taken rest = Outcome painted status old new taken rest
leaves (Load number count) status old new taken rest = (taken ≡ []) × Summarises number count status old new

-- the status of a command where no call failed
abbrev pub completes : Command → ℕ → List ℕ → Type 0
completes (Replay stats) status input = Completes (replayed stats) status input
completes Paint status input = Completes painted status input
completes (Load number count) status input = (status ≡ 0) ⊎ (status ≡ 5)
