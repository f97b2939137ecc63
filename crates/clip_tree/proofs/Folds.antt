-- Walks over a chain's clips.
use Rattle.std.proofs.Common.{◌≡◌, ℕ, ◌+◌, ◌<◌, ℤ, List, [], ◌∷◌, ◌++◌, length, map, get_or, take, sym, ap, ap₂, ◌∙◌, append_assoc}
use Rattle.std.proofs.lemmas.List.{map-append, take_more}
use Rattle.blend_rules.specs.Colour.{product}
use Rattle.clip_masks.specs.Coverage.{coverage, chain_coverage}
use Rattle.clip_masks.specs.declared.clip.Clip.{Clip}
use Rattle.clip_masks.proofs.Chains.{chain-append}
use Rattle.display_list.specs.declared.node.ClipDef.{ClipDef}
use Rattle.spatial_tree.specs.Lineage.{members_at}
use Rattle.spatial_tree.proofs.Chains.{members_at-more}

-- what is made of one clip more
made_one : {A V : Type 0} (f : A → V) (xs : List A) (numbers : List ℕ) (i : ℕ) (d : A) → i < length numbers → get_or numbers i 0 < length xs
    → map f (members_at xs (take (i + 1) numbers)) ≡ map f (members_at xs (take i numbers)) ++ f (get_or xs (get_or numbers i 0) d) ∷ []
made_one f xs numbers i d h w =
    let k = get_or numbers i 0 in
    ap (λ ks. map f (members_at xs ks)) (take_more numbers i 0 h) ∙ ap (map f) (members_at-more xs (take i numbers) k d w) ∙ map-append f (members_at xs (take i numbers)) (get_or xs k d ∷ [])

-- after others
pub appended_more : {A V : Type 0} (f : A → V) (xs : List A) (numbers : List ℕ) (i : ℕ) (d : A) (made : V) (first out after : List V) → i < length numbers → get_or numbers i 0 < length xs
    → made ≡ f (get_or xs (get_or numbers i 0) d) → out ≡ first ++ map f (members_at xs (take i numbers)) → after ≡ out ++ made ∷ [] → after ≡ first ++ map f (members_at xs (take (i + 1) numbers))
appended_more f xs numbers i d made first out after h w e was pushed =
    let k = get_or numbers i 0 in
    let old = map f (members_at xs (take i numbers)) in
    pushed ∙ ap₂ (λ ys y. ys ++ y ∷ []) was e ∙ append_assoc first old (f (get_or xs k d) ∷ []) ∙ ap (λ ys. first ++ ys) (sym (made_one f xs numbers i d h w))

-- the fold over one clip more
pub cover_more : (f : ClipDef → Clip) (xs : List ClipDef) (numbers : List ℕ) (i : ℕ) (d : ClipDef) (clip : Clip) (outer cover next : ℕ) (x y : ℤ) → i < length numbers → get_or numbers i 0 < length xs
    → clip ≡ f (get_or xs (get_or numbers i 0) d) → cover ≡ chain_coverage (map f (members_at xs (take i numbers))) outer x y → next ≡ product cover (coverage clip x y)
    → next ≡ chain_coverage (map f (members_at xs (take (i + 1) numbers))) outer x y
unfolding chain_coverage
cover_more f xs numbers i d clip outer cover next x y h w e was is =
    let k = f (get_or xs (get_or numbers i 0) d) in
    let old = map f (members_at xs (take i numbers)) in
    is
    ∙ ap₂ (λ (c : ℕ) (j : Clip). product c (coverage j x y)) was e
    ∙ sym (chain-append old (k ∷ []) outer x y)
    ∙ ap (λ (ks : List Clip). chain_coverage ks outer x y) (sym (made_one f xs numbers i d h w))
