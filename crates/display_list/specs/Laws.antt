-- What holds of all display lists, their spellings and their faults.
use Rattle.std.specs.Prelude.{◌≡◌, ℕ, ◌+◌, ◌≤◌, ◌↔◌, List, [], ◌++◌, length, Ok, Err}
use Rattle.wr_io.specs.declared.fault.Code.{Code}
use Rattle.wr_io.specs.declared.fault.Fault.{Fault}
use Rattle.field_forms.specs.Form.{AreBytes, fault}
use Rattle.display_list.specs.declared.item.Item.{Item}
use Rattle.display_list.specs.ListModel.{ListModel}
use Rattle.display_list.specs.Facts.{IsList}
use Rattle.display_list.specs.Decoding.{list_at}
use Rattle.display_list.specs.Grammar.{Spells, Fits, IsSpelled, IsFirstFault}
use Rattle.display_list.specs.Spelling.{spelling}
use Rattle.display_list.specs.Tokens.{tokens_of}
use Rattle.display_list.specs.Trees.{trees_of, trees_tokens, told, nesting_of, AreTrees, TreesNameAbove}

-- ---- spellings

-- what spells a list is its spelling
abbrev pub OneSpelling : Type 0
OneSpelling = (l : ListModel) (bytes : List ℕ) → Spells l bytes → bytes ≡ spelling l

-- what spells two lists spells one
abbrev pub OneList : Type 0
OneList = (l m : ListModel) (bytes : List ℕ) → Spells l bytes → Spells m bytes → l ≡ m

-- no spelling begins another
abbrev pub NoneBegins : Type 0
NoneBegins = (l m : ListModel) (bytes more : List ℕ) → Spells l bytes → Spells m (bytes ++ more) → more ≡ []

-- what is spelled meets each check, in a list's own terms
abbrev pub SpelledAreLists : Type 0
SpelledAreLists = (l : ListModel) → IsSpelled l → IsList l

-- what meets each check is spelled
abbrev pub ListsAreSpelled : Type 0
ListsAreSpelled = (l : ListModel) → IsList l → IsSpelled l

-- ---- faults

-- bytes have one first fault at most
abbrev pub OneFault : Type 0
OneFault = (own : ℕ) (bytes : List ℕ) (c d : Code) (p q : ℕ) → IsFirstFault own bytes c p → IsFirstFault own bytes d q → (c ≡ d) × (p ≡ q)

-- what spells a list that fits has no fault
abbrev pub ListsHaveNoFault : Type 0
ListsHaveNoFault = (own : ℕ) (bytes : List ℕ) (c : Code) (p : ℕ) (l : ListModel) → IsFirstFault own bytes c p → Spells l bytes → Fits own l → ⊥

-- a first fault stands in the bytes, or just after them
abbrev pub FaultsAreWithin : Type 0
FaultsAreWithin = (own : ℕ) (bytes : List ℕ) (c : Code) (p : ℕ) → IsFirstFault own bytes c p → p ≤ length bytes

-- ---- reading

-- a list that is read is spelled by the bytes and fits the pipeline
abbrev pub ReadIsSpelled : Type 0
ReadIsSpelled = (own : ℕ) (bytes : List ℕ) (l : ListModel) → AreBytes bytes → list_at own bytes ≡ Ok l → Spells l bytes × Fits own l

-- a list that the bytes spell and that fits the pipeline is read
abbrev pub SpelledIsRead : Type 0
SpelledIsRead = (own : ℕ) (bytes : List ℕ) (l : ListModel) → Spells l bytes → Fits own l → list_at own bytes ≡ Ok l

-- a fault that is read is the first one
abbrev pub ReadFaultIsFirst : Type 0
ReadFaultIsFirst = (own : ℕ) (bytes : List ℕ) (f : Fault) → AreBytes bytes → list_at own bytes ≡ Err f → IsFirstFault own bytes f.code f.at

-- the first fault is read
abbrev pub FirstFaultIsRead : Type 0
FirstFaultIsRead = (own : ℕ) (bytes : List ℕ) (c : Code) (p : ℕ) → IsFirstFault own bytes c p → list_at own bytes ≡ fault c p

-- ---- trees

-- the tokens of items tell the items' trees
abbrev pub TokensTellTrees : Type 0
TokensTellTrees = (is : List Item) → told (tokens_of is) ≡ trees_of is

-- items of the same tokens are the same trees
abbrev pub OneTree : Type 0
OneTree = (is js : List Item) → tokens_of is ≡ tokens_of js → trees_of is ≡ trees_of js

-- a list's tokens are those of its trees
abbrev pub TreesTellTokens : Type 0
TreesTellTokens = (l : ListModel) → IsList l → trees_tokens (told l.items) ≡ l.items

-- a list's trees have the fields of items at every depth
abbrev pub ListsAreTrees : Type 0
ListsAreTrees = (l : ListModel) → IsList l → AreTrees (length l.nodes + 1) (length l.chains) (told l.items)

-- at most 64 contexts stand in one another
abbrev pub TreesAreLow : Type 0
TreesAreLow = (l : ListModel) → IsList l → nesting_of (told l.items) ≤ 64

-- a list fits a pipeline exactly where its trees name greater pipelines
abbrev pub TreesFit : Type 0
TreesFit = (own : ℕ) (l : ListModel) → IsList l → Fits own l ↔ TreesNameAbove own (told l.items)
