-- Parts that lead to a list are those that may follow one another, and their bytes are its spelling.
use Rattle.std.proofs.Common.{◌≡◌, ℕ, ◌+◌, List, [], ◌∷◌, ◌++◌, length, Some, None, refl, sym, ap, subst, ◌∙◌, append_assoc, arith}
use Rattle.std.specs.List.{flat_map}
use Rattle.std.proofs.lemmas.List.{append-nil}
use Rattle.display_list.specs.declared.token.Token.{Token}
use Rattle.display_list.specs.declared.token.Token.TheVariants.{Solid, Image, Border, Text, Push, Pop, Iframe, HitArea}
use Rattle.display_list.specs.declared.token.Part.{Part}
use Rattle.display_list.specs.declared.token.Part.TheVariants as part
use Rattle.display_list.specs.ListModel.{ListModel}
use Rattle.display_list.specs.PartialList.{PartialList, start, after, after_all, list_of}
use Rattle.display_list.specs.Following.{NamesFrom, CanFollow, AllFollow}
use Rattle.display_list.specs.Grammar.{Lead, SpellsFrom, Spells, NamesAbove, AllNameAbove, Fits}
use Rattle.display_list.specs.Spelling.{part_bytes}
use Rattle.display_list.proofs.NextPart.{next_spelling}

-- ---- parts that lead somewhere

pub lead_follows : (m at : ℕ) (s t : PartialList) (ps : List Part) (bytes : List ℕ) → Lead m at s ps bytes t → AllFollow m s ps
lead_follows m at s t [] bytes h = tt
lead_follows m at s t (p ∷ ps) bytes (piece, rest, e, passes, lead) =
    (((next_spelling m s).spelled at piece (Some p) passes).1, lead_follows m (at + length piece) (after s p) t ps rest lead)

pub lead_after : (m at : ℕ) (s t : PartialList) (ps : List Part) (bytes : List ℕ) → Lead m at s ps bytes t → after_all s ps ≡ t
lead_after m at s t [] bytes (z, w) = sym w
lead_after m at s t (p ∷ ps) bytes (piece, rest, e, passes, lead) = lead_after m (at + length piece) (after s p) t ps rest lead

pub lead_bytes : (m at : ℕ) (s t : PartialList) (ps : List Part) (bytes : List ℕ) → Lead m at s ps bytes t → bytes ≡ flat_map part_bytes ps
lead_bytes m at s t [] bytes (z, w) = z
lead_bytes m at s t (p ∷ ps) bytes (piece, rest, e, passes, lead) =
    e ∙ ap (λ (o : List ℕ). o ++ rest) ((next_spelling m s).spelled at piece (Some p) passes).0
    ∙ ap (λ (o : List ℕ). part_bytes p ++ o) (lead_bytes m (at + length piece) (after s p) t ps rest lead)

pub lead_of : (m at : ℕ) (s : PartialList) (ps : List Part) → AllFollow m s ps → Lead m at s ps (flat_map part_bytes ps) (after_all s ps)
lead_of m at s [] h = (refl, refl)
lead_of m at s (p ∷ ps) h =
    (part_bytes p, flat_map part_bytes ps, refl, (next_spelling m s).passes at (Some p) h.0, lead_of m (at + length (part_bytes p)) (after s p) ps h.1)

-- ---- whole lists

-- parts that may follow one another and leave no context open
pub record IsMadeOf (m : ℕ) (l : ListModel) (ps : List Part) : Type 0 where
  pub follow : AllFollow m start ps
  pub closed : (after_all start ps).depth ≡ 0
  pub list_is : list_of (after_all start ps) ≡ l

pub made_of : (m : ℕ) (l : ListModel) (bytes : List ℕ) (h : SpellsFrom m l bytes) → IsMadeOf m l h.parts
made_of m l bytes h =
    let whole : after_all start h.parts ≡ h.whole = lead_after m 0 start h.whole h.parts h.prefix h.lead in
    let last = (next_spelling m h.whole).spelled (length h.prefix) h.last None h.ends in
    record {
      follow = lead_follows m 0 start h.whole h.parts h.prefix h.lead;
      closed = ap (λ (s : PartialList). s.depth) whole ∙ last.1;
      list_is = ap list_of whole ∙ h.list_is;
    }

-- the bytes of parts, and then the End
abbrev pub all_bytes : List Part → List ℕ
all_bytes ps = flat_map part_bytes ps ++ 0 ∷ []

pub spelled_by : (m : ℕ) (l : ListModel) (bytes : List ℕ) (h : SpellsFrom m l bytes) → bytes ≡ all_bytes h.parts
spelled_by m l bytes h =
    let last = (next_spelling m h.whole).spelled (length h.prefix) h.last None h.ends in
    h.bytes_are
    ∙ ap (λ (o : List ℕ). o ++ h.last) (lead_bytes m 0 start h.whole h.parts h.prefix h.lead)
    ∙ ap (λ (o : List ℕ). flat_map part_bytes h.parts ++ o) last.0

pub spells_parts : (m : ℕ) (l : ListModel) (ps : List Part) → IsMadeOf m l ps → SpellsFrom m l (all_bytes ps)
spells_parts m l ps h = record {
  parts = ps;
  whole = after_all start ps;
  prefix = flat_map part_bytes ps;
  last = 0 ∷ [];
  bytes_are = refl;
  lead = lead_of m 0 start ps h.follow;
  ends = (next_spelling m (after_all start ps)).passes (length (flat_map part_bytes ps)) None h.closed;
  list_is = h.list_is;
}

-- ---- which pipelines may be named

abbrev NamesFromPart : ℕ → Part → Type 0
NamesFromPart m (part.Node o) = Unit {0}
NamesFromPart m (part.Clip o) = Unit {0}
NamesFromPart m (part.Chain o) = Unit {0}
NamesFromPart m (part.Item t) = NamesFrom m t

-- the same part where another pipeline is the first that may be named
renamed : (m n : ℕ) (s : PartialList) (p : Part) → CanFollow m s p → NamesFromPart n p → CanFollow n s p
renamed m n s (part.Node o) h k = h
renamed m n s (part.Clip o) h k = h
renamed m n s (part.Chain o) h k = h
renamed m n s (part.Item t) h k = record { token = h.token; nest = h.nest; named = k }

any_token : (t : Token) → NamesFrom 0 t
any_token (Iframe o n) = omega arith
any_token (Solid o c) = tt
any_token (Image o k u v) = tt
any_token (Border o w t r b l c) = tt
any_token (Text o f c gs) = tt
any_token (Push p) = tt
any_token Pop = tt
any_token (HitArea o n) = tt

any_part : (p : Part) → NamesFromPart 0 p
any_part (part.Node o) = tt
any_part (part.Clip o) = tt
any_part (part.Chain o) = tt
any_part (part.Item t) = any_token t

pub any_pipeline : (m : ℕ) (s : PartialList) (p : Part) → CanFollow m s p → CanFollow 0 s p
any_pipeline m s p h = renamed m 0 s p h (any_part p)

all_any : (m : ℕ) (s : PartialList) (ps : List Part) → AllFollow m s ps → AllFollow 0 s ps
all_any m s [] h = tt
all_any m s (p ∷ ps) h = (any_pipeline m s p h.0, all_any m (after s p) ps h.1)

above_from : (own : ℕ) (t : Token) → NamesFrom (own + 1) t → NamesAbove own t
above_from own (Iframe o n) h = omega arith
above_from own (Solid o c) h = tt
above_from own (Image o k u v) h = tt
above_from own (Border o w t r b l c) h = tt
above_from own (Text o f c gs) h = tt
above_from own (Push p) h = tt
above_from own Pop h = tt
above_from own (HitArea o n) h = tt

from_above : (own : ℕ) (t : Token) → NamesAbove own t → NamesFrom (own + 1) t
from_above own (Iframe o n) h = omega arith
from_above own (Solid o c) h = tt
from_above own (Image o k u v) h = tt
from_above own (Border o w t r b l c) h = tt
from_above own (Text o f c gs) h = tt
from_above own (Push p) h = tt
from_above own Pop h = tt
from_above own (HitArea o n) h = tt

-- the items among parts
abbrev items_of : List Part → List Token
items_of [] = []
items_of (part.Node n ∷ ps) = items_of ps
items_of (part.Clip c ∷ ps) = items_of ps
items_of (part.Chain c ∷ ps) = items_of ps
items_of (part.Item t ∷ ps) = t ∷ items_of ps

items_after : (s : PartialList) (ps : List Part) → (after_all s ps).items ≡ s.items ++ items_of ps
items_after s [] = sym (append-nil s.items)
items_after s (part.Node n ∷ ps) = items_after (after s (part.Node n)) ps
items_after s (part.Clip c ∷ ps) = items_after (after s (part.Clip c)) ps
items_after s (part.Chain c ∷ ps) = items_after (after s (part.Chain c)) ps
items_after s (part.Item t ∷ ps) = items_after (after s (part.Item t)) ps ∙ append_assoc s.items (t ∷ []) (items_of ps)

named_above : (own : ℕ) (s : PartialList) (ps : List Part) → AllFollow (own + 1) s ps → AllNameAbove own (items_of ps)
named_above own s [] h = tt
named_above own s (part.Node n ∷ ps) h = named_above own (after s (part.Node n)) ps h.1
named_above own s (part.Clip c ∷ ps) h = named_above own (after s (part.Clip c)) ps h.1
named_above own s (part.Chain c ∷ ps) h = named_above own (after s (part.Chain c)) ps h.1
named_above own s (part.Item t ∷ ps) h = (above_from own t h.0.named, named_above own (after s (part.Item t)) ps h.1)

all_above : (own : ℕ) (s : PartialList) (ps : List Part) → AllFollow 0 s ps → AllNameAbove own (items_of ps) → AllFollow (own + 1) s ps
all_above own s [] h k = tt
all_above own s (part.Node n ∷ ps) h k = (h.0, all_above own (after s (part.Node n)) ps h.1 k)
all_above own s (part.Clip c ∷ ps) h k = (h.0, all_above own (after s (part.Clip c)) ps h.1 k)
all_above own s (part.Chain c ∷ ps) h k = (h.0, all_above own (after s (part.Chain c)) ps h.1 k)
all_above own s (part.Item t ∷ ps) h k =
    (renamed 0 (own + 1) s (part.Item t) h.0 (from_above own t k.0), all_above own (after s (part.Item t)) ps h.1 k.1)

listed : (m : ℕ) (l : ListModel) (ps : List Part) → IsMadeOf m l ps → l.items ≡ items_of ps
listed m l ps h = ap (λ (k : ListModel). k.items) (sym h.list_is) ∙ items_after start ps

-- a list of a pipeline is a list, and it fits the pipeline
pub spells_of : (own : ℕ) (l : ListModel) (bytes : List ℕ) → SpellsFrom (own + 1) l bytes → Spells l bytes
spells_of own l bytes h =
    let made = made_of (own + 1) l bytes h in
    subst (Spells l) (sym (spelled_by (own + 1) l bytes h))
    (spells_parts 0 l h.parts (record { follow = all_any (own + 1) start h.parts made.follow; closed = made.closed; list_is = made.list_is }))

pub fits_of : (own : ℕ) (l : ListModel) (bytes : List ℕ) → SpellsFrom (own + 1) l bytes → Fits own l
fits_of own l bytes h =
    let made = made_of (own + 1) l bytes h in
    subst (AllNameAbove own) (sym (listed (own + 1) l h.parts made)) (named_above own start h.parts made.follow)

pub spells_own : (own : ℕ) (l : ListModel) (bytes : List ℕ) → Spells l bytes → Fits own l → SpellsFrom (own + 1) l bytes
spells_own own l bytes h fits =
    let made = made_of 0 l bytes h in
    let named = subst (AllNameAbove own) (listed 0 l h.parts made) fits in
    subst (SpellsFrom (own + 1) l) (sym (spelled_by 0 l bytes h))
    (spells_parts (own + 1) l h.parts (record { follow = all_above own start h.parts made.follow named; closed = made.closed; list_is = made.list_is }))
