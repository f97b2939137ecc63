-- A list from left to right, or its first fault.
use Rattle.std.specs.Prelude.{ℕ, zero, suc, ◌+◌, List, length, Option, Some, None, Result, Ok}
use Rattle.wr_io.specs.Unread.{Unread}
use Rattle.wr_io.specs.declared.fault.Fault.{Fault}
use Rattle.wr_io.specs.declared.fault.Code.TheVariants as code
use Rattle.display_list.specs.declared.token.Part.{Part}
use Rattle.field_forms.specs.Form.{next, fault, read, nothing_left}
use Rattle.display_list.specs.ListModel.{ListModel}
use Rattle.display_list.specs.PartialList.{PartialList, start, after, list_of}
use Rattle.display_list.specs.Parts.{next_part}

-- what follows a part, or the End
abbrev pub and_then : PartialList → Option Part × Unread → (Part → Unread → Result PartialList Fault) → Result PartialList Fault
and_then s (None, left) more = next (nothing_left left) (λ _. Ok s)
and_then s (Some p, left) more = more p left

-- the parts up to the End, at most n of them with it, after what was read
unfoldable pub read_parts : ℕ → ℕ → PartialList → Unread → Result PartialList Fault
read_parts min_pipeline zero s left = fault code.Short left.at
read_parts min_pipeline (suc n) s left = next (read (next_part min_pipeline s) left) (λ x. and_then s x (λ p. read_parts min_pipeline n (after s p)))

-- all the bytes; each part takes one, so there are no more parts than bytes
unfoldable pub read_list : ℕ → List ℕ → Result PartialList Fault
read_list min_pipeline bytes = read_parts min_pipeline (length bytes + 1) start (record { at = 0; bytes = bytes })

-- a list of the pipeline own: its Iframes name greater ones
abbrev pub list_at : ℕ → List ℕ → Result ListModel Fault
list_at own bytes = next (read_list (own + 1) bytes) (λ s. Ok (list_of s))
