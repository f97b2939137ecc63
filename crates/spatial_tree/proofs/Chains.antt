-- A chain's clips with its parents'.
use Rattle.std.proofs.Common.{◌≡◌, ℕ, zero, suc, ◌+◌, ◌<◌, ◌≤◌, List, [], ◌∷◌, ◌++◌, length, map, get_or, take, Option, Some, None, refl, sym, ap, ap₂, subst, ◌∙◌, append_assoc, arith}
use Rattle.std.specs.Prelude.{All, reverse, drop, slice_index, slice_get, flat_map, option_to_list}
use Rattle.std.specs.List.{refill}
use Rattle.std.proofs.lemmas.Grind.{flat_map-append}
use Rattle.std.proofs.lemmas.List.{append-nil, length-append, length-reverse, reverse-append, reverse-reverse, take_at, take_all, take_more, map-append}
use Rattle.std.proofs.lemmas.List.Elements.{All-append, All-nil, All-push, All-head, All-tail}
use Rattle.std.proofs.lemmas.Option.{slice_get-get_or}
use Rattle.field_forms.specs.Facts.{IsDefined}
use Rattle.display_list.specs.declared.node.ClipDef.{ClipDef}
use Rattle.display_list.specs.declared.node.ChainDef.{ChainDef}
use Rattle.display_list.specs.Facts.{IsClip, AreChains, IsList}
use Rattle.display_list.specs.ListModel.{ListModel}
use Rattle.display_list.specs.Levels.{inherited, totals_of}
use Rattle.spatial_tree.specs.Lineage.{lineage, chains_to, clip_numbers, members_at, clips_of}
use Rattle.spatial_tree.specs.Laws.{ClipsOfNone, ClipsAfterParents, ClipForEachNumber, ClipsAreClips}
use Rattle.spatial_tree.proofs.Lineages.{HasParentsFirst, defined_more, lineage-none, lineage-step, lineage-all}
use Rattle.spatial_tree.proofs.Tables.{table-length, table-at, table-before}

abbrev pub parent_chain : ChainDef → Option ℕ
parent_chain c = c.parent

pub clip_numbers-none : (chains : List ChainDef) → clip_numbers chains None ≡ []
unfolding clip_numbers chains_to
clip_numbers-none chains = ap (flat_map (λ (c : ChainDef). c.clips)) (lineage-none parent_chain chains (length chains))

-- a chain's clips are its parent's and then its own
pub clip_numbers-step : (chains : List ChainDef) (i : ℕ) (d : ChainDef) → HasParentsFirst parent_chain chains → i < length chains
    → clip_numbers chains (Some i) ≡ clip_numbers chains (get_or chains i d).parent ++ (get_or chains i d).clips
unfolding clip_numbers chains_to
clip_numbers-step chains i d h w =
    let f = λ (c : ChainDef). c.clips in
    let c = get_or chains i d in
    let above = lineage parent_chain chains (length chains) c.parent in
    ap (flat_map f) (lineage-step parent_chain chains h (length chains) i d w w)
    ∙ flat_map-append f above (c ∷ [])
    ∙ ap (λ (ks : List ℕ). flat_map f above ++ ks) (append-nil c.clips)

-- one step of a walk from a chain to its parent
pub chain_up : (chains : List ChainDef) (o : Option ℕ) (number : ℕ) (c : ChainDef) → HasParentsFirst parent_chain chains → IsDefined (length chains) o → o ≡ Some number
    → c ≡ get_or chains number c → IsDefined (length chains) c.parent × (clip_numbers chains o ≡ clip_numbers chains c.parent ++ c.clips)
chain_up chains o number c h w e is =
    let within : number < length chains = subst (IsDefined (length chains)) e w in
    let before : IsDefined number c.parent = subst (λ (k : ChainDef). IsDefined number k.parent) (sym is) (h number c within) in (
      defined_more number (length chains) c.parent (omega arith) before,
      ap (clip_numbers chains) e ∙ clip_numbers-step chains number c h within ∙ ap (λ (k : ChainDef). clip_numbers chains k.parent ++ k.clips) (sym is),
    )

-- the same in a display list
pub chain_up_in : (chains : List ChainDef) (l : ListModel) (o : Option ℕ) (number : ℕ) (c : ChainDef) → chains ≡ l.chains → IsList l → IsDefined (length chains) o → o ≡ Some number
    → c ≡ get_or chains number c → IsDefined (length chains) c.parent × (clip_numbers chains o ≡ clip_numbers chains c.parent ++ c.clips)
chain_up_in chains l o number c same is = chain_up chains o number c (subst (HasParentsFirst parent_chain) (sym same) is.chains.parents)

-- more than the number of a chain, or 0 for none
abbrev pub height : Option ℕ → ℕ
height None = 0
height (Some k) = suc k

-- ---- how many there are

inherited_before : (t s : List ℕ) (i : ℕ) (o : Option ℕ) → ((j : ℕ) → j < i → get_or t j 0 ≡ get_or s j 0) → IsDefined i o → inherited t o ≡ inherited s o
inherited_before t s i None f h = refl
inherited_before t s i (Some k) f h = f k h

total-step : (chains : List ChainDef) (i : ℕ) (d : ChainDef) → HasParentsFirst parent_chain chains → i < length chains
    → slice_index (totals_of chains) i ≡ inherited (totals_of chains) (get_or chains i d).parent + length (get_or chains i d).clips
unfolding totals_of
total-step chains i d h w =
    let f = λ (totals : List ℕ) (c : ChainDef). inherited totals c.parent + length c.clips in
    let c = get_or chains i d in
    let none : List ℕ = [] in
    table-at f none chains i i d w (omega arith)
    ∙ ap (λ (k : ℕ). k + length c.clips) (sym (inherited_before _ _ i c.parent (λ j l. table-before f none chains i j (omega arith) (omega arith)) (h i d w)))

count_within : (chains : List ChainDef) → HasParentsFirst parent_chain chains → (most : ℕ) (o : Option ℕ) → IsDefined most o → IsDefined (length chains) o
    → length (clip_numbers chains o) ≡ inherited (totals_of chains) o
count_within chains h most None l w = ap (λ (ks : List ℕ). length ks) (clip_numbers-none chains)
count_within chains h zero (Some i) l w = absurd (omega arith)
count_within chains h (suc most) (Some i) l w =
    let d : ChainDef = record { parent = None; clips = [] } in
    let c = get_or chains i d in
    let before : IsDefined i c.parent = h i d w in
    ap (λ (ks : List ℕ). length ks) (clip_numbers-step chains i d h w)
    ∙ length-append (clip_numbers chains c.parent) c.clips
    ∙ ap (λ (k : ℕ). k + length c.clips) (count_within chains h most c.parent (defined_more i most c.parent (omega arith) before) (defined_more i (length chains) c.parent (omega arith) before))
    ∙ sym (total-step chains i d h w)

-- a chain has as many clips as display lists count
pub clip_numbers-count : (chains : List ChainDef) (o : Option ℕ) → HasParentsFirst parent_chain chains → IsDefined (length chains) o
    → length (clip_numbers chains o) ≡ inherited (totals_of chains) o
clip_numbers-count chains o h w = count_within chains h (length chains) o w w

totals-length : (chains : List ChainDef) → length (totals_of chains) ≡ length chains
unfolding totals_of
totals-length chains = let none : List ℕ = [] in omega (arith, table-length (λ totals c. inherited totals c.parent + length c.clips) none chains)

pub clip_numbers-few : (clips : ℕ) (chains : List ChainDef) (o : Option ℕ) → AreChains clips chains → IsDefined (length chains) o → length (clip_numbers chains o) ≤ 255
clip_numbers-few clips chains None are w = omega (arith, ap (λ (ks : List ℕ). length ks) (clip_numbers-none chains))
clip_numbers-few clips chains (Some i) are w =
    let few = are.totals i 0 (omega (arith, totals-length chains)) in
    omega (arith, few, clip_numbers-count chains (Some i) are.parents w)

-- ---- which they are

all_flat : {A : Type 0} (f : A → List ℕ) (P : ℕ → Type 0) (xs : List A) → All (λ x. All P (f x)) xs → All P (flat_map f xs)
all_flat f P [] h = All-nil P
all_flat f P (x ∷ xs) h =
    All-append P (f x) (flat_map f xs) (All-head (λ y. All P (f y)) x xs h) (all_flat f P xs (All-tail (λ y. All P (f y)) x xs h))

-- each is the number of a clip
pub clip_numbers-defined : (clips : ℕ) (chains : List ChainDef) (o : Option ℕ) → AreChains clips chains → All (λ k. k < clips) (clip_numbers chains o)
unfolding clip_numbers chains_to
clip_numbers-defined clips chains o are =
    all_flat (λ (c : ChainDef). c.clips) (λ k. k < clips) (lineage parent_chain chains (length chains) o)
    (lineage-all parent_chain chains (λ (c : ChainDef). All (λ k. k < clips) c.clips) are.each (length chains) o)

-- ---- members by their numbers

-- one number more
pub members_at-more : {A : Type 0} (xs : List A) (numbers : List ℕ) (k : ℕ) (d : A) → k < length xs → members_at xs (numbers ++ k ∷ []) ≡ members_at xs numbers ++ get_or xs k d ∷ []
members_at-more xs numbers k d h =
    let f = λ (j : ℕ). option_to_list (slice_get xs j) in
    flat_map-append f numbers (k ∷ []) ∙ ap (λ ys. members_at xs numbers ++ ys) (append-nil (f k) ∙ ap option_to_list (slice_get-get_or xs k d h))

one_found : {A : Type 0} (xs : List A) (k : ℕ) → k < length xs → length (option_to_list (slice_get xs k)) ≡ 1
one_found [] k h = absurd (omega arith)
one_found (x ∷ xs) zero h = refl
one_found (x ∷ xs) (suc k) h = one_found xs k (omega arith)

pub members_at-length : {A : Type 0} (xs : List A) (numbers : List ℕ) → All (λ k. k < length xs) numbers → length (members_at xs numbers) ≡ length numbers
members_at-length xs [] h = refl
members_at-length xs (k ∷ ks) h =
    omega (arith, length-append (option_to_list (slice_get xs k)) (members_at xs ks), one_found xs k (All-head (λ j. j < length xs) k ks h), members_at-length xs ks (All-tail (λ j. j < length xs) k ks h))

-- ---- walks that gather

pub gathered_more : (above own before after all : List ℕ) → after ≡ before ++ reverse own → (above ++ own) ++ reverse before ≡ all → above ++ reverse after ≡ all
gathered_more above own before after all e was =
    ap (λ (ks : List ℕ). above ++ ks) (ap reverse e ∙ reverse-append before (reverse own) ∙ ap (λ (ks : List ℕ). ks ++ reverse before) (reverse-reverse own))
    ∙ sym (append_assoc above own (reverse before))
    ∙ was

pub gathered_all : (chains : List ChainDef) (o : Option ℕ) (numbers turned all : List ℕ) → o ≡ None → clip_numbers chains o ++ reverse numbers ≡ all → turned ≡ reverse numbers → turned ≡ all
gathered_all chains o numbers turned all none was is =
    is ∙ sym (ap (λ (ks : List ℕ). ks ++ reverse numbers) (ap (clip_numbers chains) none ∙ clip_numbers-none chains)) ∙ was

-- members that are all written again
pub refilled : (n : ℕ) (numbers turned old : List ℕ) → n ≡ length numbers → turned ≡ reverse old → old ≡ numbers → refill n numbers turned ≡ reverse numbers
refilled n numbers turned old size is e =
    let turns : turned ≡ reverse numbers = is ∙ ap reverse e in
    let long : length turned ≡ n = omega (arith, size, ap (λ (ks : List ℕ). length ks) turns, length-reverse numbers) in
    take_at turned (drop (length turned) numbers) n long ∙ turns

-- what was made of the first members, and of one more
pub made_more : {A V : Type 0} (f : A → V) (xs : List A) (numbers : List ℕ) (i : ℕ) (d : A) (made : V) (out after : List V) → i < length numbers → get_or numbers i 0 < length xs
    → made ≡ f (get_or xs (get_or numbers i 0) d) → out ≡ map f (members_at xs (take i numbers)) → after ≡ out ++ made ∷ [] → after ≡ map f (members_at xs (take (i + 1) numbers))
made_more f xs numbers i d made out after h w e was pushed =
    let k = get_or numbers i 0 in
    pushed
    ∙ ap₂ (λ ys y. ys ++ y ∷ []) was e
    ∙ sym (map-append f (members_at xs (take i numbers)) (get_or xs k d ∷ []))
    ∙ ap (map f) (sym (members_at-more xs (take i numbers) k d w))
    ∙ ap (λ ks. map f (members_at xs ks)) (sym (take_more numbers i 0 h))

pub made_all : {A V : Type 0} (f : A → V) (xs : List A) (numbers : List ℕ) (i : ℕ) (out : List V) → length numbers ≤ i → out ≡ map f (members_at xs (take i numbers)) → out ≡ map f (members_at xs numbers)
made_all f xs numbers i out h was = was ∙ ap (λ ks. map f (members_at xs ks)) (take_all i numbers h)

-- each number that was gathered is that of a clip
pub gathered_within : (clips : List ClipDef) (l : ListModel) (chain : Option ℕ) (numbers items : List ℕ) (i : ℕ) → clips ≡ l.clips → IsList l → numbers ≡ items → items ≡ clip_numbers l.chains chain
    → i < length numbers → get_or numbers i 0 < length clips
gathered_within clips l chain numbers items i same is e f h =
    subst (λ (cs : List ClipDef). get_or numbers i 0 < length cs) (sym same)
    (subst (λ (ks : List ℕ). All (λ k. k < length l.clips) ks) (sym (e ∙ f)) (clip_numbers-defined (length l.clips) l.chains chain is.chains) i 0 h)

-- and such a clip meets its checks
pub clip_within : (clips : List ClipDef) (l : ListModel) (k : ℕ) (d : ClipDef) → clips ≡ l.clips → IsList l → k < length clips → IsClip (length l.nodes + 1) (get_or clips k d)
clip_within clips l k d same is h =
    subst (λ (cs : List ClipDef). IsClip (length l.nodes + 1) (get_or cs k d)) (sym same) (is.clips.each k d (subst (λ (cs : List ClipDef). k < length cs) same h))

-- ---- laws

pub clips_none : ClipsOfNone
unfolding clips_of
clips_none l = ap (members_at l.clips) (clip_numbers-none l.chains)

pub clips_after : ClipsAfterParents
unfolding clips_of
clips_after l k d is w =
    let c = get_or l.chains k d in
    ap (members_at l.clips) (clip_numbers-step l.chains k d is.chains.parents w)
    ∙ flat_map-append (λ (j : ℕ). option_to_list (slice_get l.clips j)) (clip_numbers l.chains c.parent) c.clips

pub clip_each : ClipForEachNumber
unfolding clips_of
clip_each l chain is = members_at-length l.clips (clip_numbers l.chains chain) (clip_numbers-defined (length l.clips) l.chains chain is.chains)

all_members : {A : Type 0} (P : A → Type 0) (xs : List A) (numbers : List ℕ) → All P xs → All P (members_at xs numbers)
all_members P xs [] h = All-nil P
all_members P xs (k ∷ ks) h = All-append P (option_to_list (slice_get xs k)) (members_at xs ks) (one_of P xs k h) (all_members P xs ks h)
  where
    one_of : {A : Type 0} (P : A → Type 0) (xs : List A) (k : ℕ) → All P xs → All P (option_to_list (slice_get xs k))
    one_of P [] k h = All-nil P
    one_of P (x ∷ xs) zero h = All-push P [] x (All-nil P) (All-head P x xs h)
    one_of P (x ∷ xs) (suc k) h = one_of P xs k (All-tail P x xs h)

pub clips_are : ClipsAreClips
unfolding clips_of
clips_are l chain is = all_members (IsClip (length l.nodes + 1)) l.clips (clip_numbers l.chains chain) is.clips.each
