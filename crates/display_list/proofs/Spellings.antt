-- A list has one spelling.
use Rattle.std.proofs.Common.{◌≡◌, ℕ, List, [], ◌∷◌, ◌++◌, refl, sym, ap, subst, ◌∙◌, append_assoc, arith}
use Rattle.std.specs.Prelude.{All, IsTrue}
use Rattle.std.specs.List.{flat_map}
use Rattle.std.proofs.lemmas.List.{append-nil}
use Rattle.std.proofs.lemmas.List.Elements.{All-push}
use Rattle.display_list.specs.declared.token.Part.{Part}
use Rattle.display_list.specs.declared.token.Part.TheVariants as part
use Rattle.display_list.specs.declared.token.Section.{Section}
use Rattle.display_list.specs.declared.token.Section.TheVariants.{Nodes, Clips, Chains, Items}
use Rattle.display_list.specs.ListModel.{ListModel}
use Rattle.display_list.specs.PartialList.{PartialList, start, after, after_all, list_of, takes_nodes, takes_clips, takes_chains}
use Rattle.display_list.specs.Following.{CanFollow, AllFollow}
use Rattle.display_list.specs.Counts.{HasFewClips}
use Rattle.display_list.specs.Grammar.{SpellsFrom, Spells, IsSpelled}
use Rattle.display_list.specs.Spelling.{node_bytes, clip_bytes, chain_bytes, token_bytes, part_bytes, spelling}
use Rattle.display_list.proofs.Lists.{IsMadeOf, made_of, all_bytes, spelled_by}
use Rattle.display_list.proofs.Writing.{flat_map-append}

-- the bytes of what was read, without an End
abbrev written : PartialList → List ℕ
written s = flat_map node_bytes s.nodes ++ (flat_map clip_bytes s.clips ++ (flat_map chain_bytes s.chains ++ flat_map token_bytes s.items))

-- No later part stands where an earlier one may still come.
pub record IsOrdered (s : PartialList) : Type 0 where
  pub clips : IsTrue (takes_nodes s.section) → s.clips ≡ []
  pub chains : IsTrue (takes_clips s.section) → s.chains ≡ []
  pub items : IsTrue (takes_chains s.section) → s.items ≡ []

pub then_clips : (s : Section) → IsTrue (takes_nodes s) → IsTrue (takes_clips s)
then_clips Nodes h = h
then_clips Clips h = absurd cc
then_clips Chains h = h
then_clips Items h = h

pub then_chains : (s : Section) → IsTrue (takes_clips s) → IsTrue (takes_chains s)
then_chains Nodes h = h
then_chains Clips h = h
then_chains Chains h = absurd cc
then_chains Items h = h

pub starts_ordered : IsOrdered start
starts_ordered = record { clips = λ _. refl; chains = λ _. refl; items = λ _. refl }

pub ordered_after : (m : ℕ) (s : PartialList) (p : Part) → IsOrdered s → CanFollow m s p → IsOrdered (after s p)
ordered_after m s (part.Node n) o f = record { clips = o.clips; chains = o.chains; items = o.items }
ordered_after m s (part.Clip c) o f = record { clips = λ h. absurd cc; chains = λ h. o.chains f.section; items = λ h. o.items (then_chains s.section f.section) }
ordered_after m s (part.Chain c) o f = record { clips = λ h. absurd cc; chains = λ h. absurd cc; items = λ h. o.items f.section }
ordered_after m s (part.Item t) o f = record { clips = λ h. absurd cc; chains = λ h. absurd cc; items = λ h. absurd cc }

one_more : {X : Type 0} (f : X → List ℕ) (xs : List X) (x : X) → flat_map f (xs ++ x ∷ []) ≡ flat_map f xs ++ f x
one_more f xs x = flat_map-append f xs (x ∷ []) ∙ ap (λ (o : List ℕ). flat_map f xs ++ o) (append-nil (f x))

written_after : (m : ℕ) (s : PartialList) (p : Part) → IsOrdered s → CanFollow m s p → written (after s p) ≡ written s ++ part_bytes p
written_after m s (part.Node n) o f =
    let clips = o.clips f.section in
    let chains = o.chains (then_clips s.section f.section) in
    let items = o.items (then_chains s.section (then_clips s.section f.section)) in
    rw (clips, chains, items, one_more node_bytes s.nodes n) (simp (append_assoc, append-nil))
written_after m s (part.Clip c) o f =
    let chains = o.chains f.section in
    let items = o.items (then_chains s.section f.section) in
    rw (chains, items, one_more clip_bytes s.clips c) (simp (append_assoc, append-nil))
written_after m s (part.Chain c) o f =
    let items = o.items f.section in
    rw (items, one_more chain_bytes s.chains c) (simp (append_assoc, append-nil))
written_after m s (part.Item t) o f = rw (one_more token_bytes s.items t) (simp append_assoc)

-- all that is written after parts
all_written : (m : ℕ) (s : PartialList) (ps : List Part) → IsOrdered s → AllFollow m s ps → written (after_all s ps) ≡ written s ++ flat_map part_bytes ps
all_written m s [] o h = sym (append-nil (written s))
all_written m s (p ∷ ps) o h =
    all_written m (after s p) ps (ordered_after m s p o h.0) h.1
    ∙ ap (λ (b : List ℕ). b ++ flat_map part_bytes ps) (written_after m s p o h.0)
    ∙ append_assoc (written s) (part_bytes p) (flat_map part_bytes ps)

spelling_is : (s : PartialList) → spelling (list_of s) ≡ written s ++ 0 ∷ []
spelling_is s = simp append_assoc

-- the bytes of parts that make a list are its spelling
pub parts_spelled : (m : ℕ) (l : ListModel) (ps : List Part) → IsMadeOf m l ps → all_bytes ps ≡ spelling l
parts_spelled m l ps h =
    ap (λ (b : List ℕ). b ++ 0 ∷ []) (sym (all_written m start ps starts_ordered h.follow))
    ∙ sym (spelling_is (after_all start ps))
    ∙ ap spelling h.list_is

pub spelled : (m : ℕ) (l : ListModel) (bytes : List ℕ) → SpellsFrom m l bytes → bytes ≡ spelling l
spelled m l bytes h = spelled_by m l bytes h ∙ parts_spelled m l h.parts (made_of m l bytes h)

-- what is spelled is spelled by its spelling
pub spelled_so : (l : ListModel) → IsSpelled l → Spells l (spelling l)
spelled_so l (bytes, h) = subst (Spells l) (spelled 0 l bytes h) h

-- ---- counts

chains_few : (m : ℕ) (s : PartialList) (ps : List Part) → All HasFewClips s.chains → AllFollow m s ps → All HasFewClips (after_all s ps).chains
chains_few m s [] h k = h
chains_few m s (part.Node n ∷ ps) h k = chains_few m (after s (part.Node n)) ps h k.1
chains_few m s (part.Clip c ∷ ps) h k = chains_few m (after s (part.Clip c)) ps h k.1
chains_few m s (part.Chain c ∷ ps) h k =
    chains_few m (after s (part.Chain c)) ps (All-push HasFewClips s.chains c h (record { few = let t = k.0.total in omega arith })) k.1
chains_few m s (part.Item t ∷ ps) h k = chains_few m (after s (part.Item t)) ps h k.1

pub few_clips : (l : ListModel) → IsSpelled l → All HasFewClips l.chains
few_clips l (bytes, h) =
    let made = made_of 0 l bytes h in
    subst (λ (m : ListModel). All HasFewClips m.chains) made.list_is (chains_few 0 start h.parts (λ k d lt. absurd (omega arith)) made.follow)
