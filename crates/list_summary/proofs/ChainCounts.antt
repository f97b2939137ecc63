-- The number of clips of each chain, chain by chain.
use Rattle.std.proofs.Common.{◌≡◌, ℕ, suc, ◌+◌, ◌<◌, ◌≤◌, List, [], ◌∷◌, ◌++◌, length, drop, get_or, Option, Some, None, refl, sym, ap, subst, ◌∙◌, append_assoc, arith}
use Rattle.std.specs.Prelude.{All}
use Rattle.std.proofs.lemmas.List.{append-nil}
use Rattle.std.proofs.Math.Seq.{drop-cons}
use Rattle.std.specs.List.{fold}
use Rattle.display_list.specs.ListModel.{ListModel}
use Rattle.display_list.specs.declared.node.ChainDef.{ChainDef}
use Rattle.display_list.specs.Facts.{IsList}
use Rattle.display_list.specs.Levels.{inherited, with_total, totals_of}
use Rattle.list_summary.specs.Shown.{chain_clip_count}

-- what stands is kept
kept : (counts : List ℕ) (cs : List ChainDef) → (more : List ℕ) × (fold with_total counts cs ≡ counts ++ more)
kept counts [] = ([], sym (append-nil counts))
kept counts (c ∷ cs) =
    let next : List ℕ = (inherited counts c.parent + length c.clips) ∷ [] in
    let h = kept (counts ++ next) cs in
    (next ++ h.0, h.1 ∙ append_assoc counts next h.0)

abbrev AreFew : List ℕ → Type 0
AreFew = All (λ total. total ≤ 255)

one_of : (counts : List ℕ) (n : ℕ) (more : List ℕ) → AreFew ((counts ++ n ∷ []) ++ more) → n ≤ 255
one_of [] n more h = h 0 0 (omega arith)
one_of (x ∷ xs) n more h = one_of xs n more (λ k d lt. h (suc k) d (omega arith))

first_is : (counts : List ℕ) (c : ChainDef) (cs : List ChainDef) → AreFew (fold with_total counts (c ∷ cs)) → inherited counts c.parent + length c.clips ≤ 255
first_is counts c cs h =
    let n = inherited counts c.parent + length c.clips in
    let k = kept (counts ++ n ∷ []) cs in
    one_of counts n k.0 (subst AreFew k.1 h)

-- at the start
pub begun : (l : ListModel) (counts : List ℕ) (cs : List ChainDef) → counts ≡ [] → cs ≡ l.chains → IsList l
    → (fold with_total counts cs ≡ totals_of l.chains) × AreFew (fold with_total counts cs)
unfolding totals_of
begun l counts cs e f h =
    let g : fold with_total counts cs ≡ fold with_total [] l.chains = rw (e, f) refl in
    (g, subst AreFew (sym g) h.chains.totals)

-- the next is one of all
pub next_is : (counts : List ℕ) (cs : List ChainDef) (k : ℕ) (c : ChainDef) → k < length cs → c ≡ get_or cs k c
    → AreFew (fold with_total counts (drop k cs)) → inherited counts c.parent + length c.clips ≤ 255
next_is counts cs k c lt e h =
    first_is counts c (drop (suc k) cs) (subst (λ (ds : List ChainDef). AreFew (fold with_total counts ds)) (drop-cons cs k c lt ∙ ap (λ (d : ChainDef). d ∷ drop (suc k) cs) (sym e)) h)

-- a chain's clips by the table, under both names
pub clips_inherited : (counts : List ℕ) (parent : Option ℕ) → chain_clip_count counts parent ≡ inherited counts parent
clips_inherited counts None = refl
clips_inherited counts (Some chain) = refl
