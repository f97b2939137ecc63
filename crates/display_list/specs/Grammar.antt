-- Which bytes spell a list, and where the first fault of others is.
use Rattle.std.specs.Prelude.{◌≡◌, ℕ, ◌+◌, ◌<◌, List, [], ◌∷◌, ◌++◌, length, Some, None, Result, Ok, Err}
use Rattle.wr_io.specs.declared.fault.Code.{Code}
use Rattle.wr_io.specs.declared.fault.Code.TheVariants as code
use Rattle.wr_io.specs.declared.fault.DecodeError.{DecodeError}
use Rattle.wr_io.specs.declared.fault.DecodeError.TheVariants as errors
use Rattle.display_list.specs.declared.token.Part.{Part}
use Rattle.display_list.specs.declared.token.Token.{Token}
use Rattle.display_list.specs.declared.token.Token.TheVariants.{Iframe}
use Rattle.field_forms.specs.Form.{Passes, Refuses}
use Rattle.display_list.specs.ListModel.{ListModel}
use Rattle.display_list.specs.PartialList.{PartialList, start, after, list_of}
use Rattle.display_list.specs.Parts.{next_part}

-- From a position, the bytes are these parts, one after another, each of which passes after what was read before it; they lead to t.
abbrev pub Lead : ℕ → ℕ → PartialList → List Part → List ℕ → PartialList → Type 0
Lead min_pipeline at s [] bytes t = (bytes ≡ []) × (t ≡ s)
Lead min_pipeline at s (p ∷ ps) bytes t =
    (piece : List ℕ) × (rest : List ℕ) × (bytes ≡ piece ++ rest) × Passes (next_part min_pipeline s) at piece (Some p) × Lead min_pipeline (at + length piece) (after s p) ps rest t

-- The bytes are the parts of a list and then the End. An Iframe names no pipeline below the first that may be named.
pub record SpellsFrom (min_pipeline : ℕ) (l : ListModel) (bytes : List ℕ) : Type 0 where
  pub parts : List Part
  pub whole : PartialList
  pub prefix : List ℕ
  pub last : List ℕ
  pub bytes_are : bytes ≡ prefix ++ last
  pub lead : Lead min_pipeline 0 start parts prefix whole
  pub ends : Passes (next_part min_pipeline whole) (length prefix) last None
  pub list_is : list_of whole ≡ l

-- The bytes spell the list, of whichever pipeline it is.
abbrev pub Spells : ListModel → List ℕ → Type 0
Spells = SpellsFrom 0

-- some bytes spell it
abbrev pub IsSpelled : ListModel → Type 0
IsSpelled l = (bytes : List ℕ) × Spells l bytes

-- an Iframe names a greater pipeline
abbrev pub NamesAbove : ℕ → Token → Type 0
NamesAbove own (Iframe spot pipeline) = own < pipeline
NamesAbove own _ = Unit {0}

abbrev pub AllNameAbove : ℕ → List Token → Type 0
AllNameAbove own [] = Unit {0}
AllNameAbove own (t ∷ ts) = NamesAbove own t × AllNameAbove own ts

-- each Iframe of the list names a greater pipeline
abbrev pub Fits : ℕ → ListModel → Type 0
Fits own l = AllNameAbove own l.items

-- After what was read, the next part or the End is refused, or bytes follow the End.
pub data FailsNext (min_pipeline at : ℕ) (s : PartialList) (bytes : List ℕ) (c : Code) (position : ℕ) : Type 0 where
  refused : Refuses (next_part min_pipeline s) at bytes c position → FailsNext min_pipeline at s bytes c position
  surplus : (last more : List ℕ) → bytes ≡ last ++ more → 0 < length more → Passes (next_part min_pipeline s) at last None → c ≡ code.Trailing → position ≡ at + length last
      → FailsNext min_pipeline at s bytes c position

-- The bytes of a list of the pipeline own begin with parts that pass, and the next field fails: its code and position.
pub record IsFirstFault (own : ℕ) (bytes : List ℕ) (c : Code) (position : ℕ) : Type 0 where
  pub parts : List Part
  pub whole : PartialList
  pub prefix : List ℕ
  pub rest : List ℕ
  pub bytes_are : bytes ≡ prefix ++ rest
  pub lead : Lead (own + 1) 0 start parts prefix whole
  pub fails : FailsNext (own + 1) (length prefix) whole rest c position

-- Each fault that is answered is the first one.
abbrev pub FaultIsFirst : {X : Type 0} → Result X DecodeError → ℕ → List ℕ → Type 0
FaultIsFirst (Ok x) own bytes = Unit {0}
FaultIsFirst (Err errors.NoMemory) own bytes = Unit {0}
FaultIsFirst (Err (errors.Fault f)) own bytes = IsFirstFault own bytes f.code f.at
