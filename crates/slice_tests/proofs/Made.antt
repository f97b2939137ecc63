-- Entries of tops that are made.
use Rattle.std.proofs.Common.{◌≡◌, ℕ, List, [], ◌∷◌, ◌++◌, length, sym, ap, subst, ◌∙◌}
use Rattle.std.proofs.lemmas.List.Elements.{All-nil, All-cons}
use Rattle.wr_geom.specs.Bounds.{Bounds}
use Rattle.blend_rules.specs.declared.colour.Px.{Px}
use Rattle.blend_rules.specs.declared.mode.Mode.{Mode}
use Rattle.clip_masks.specs.declared.clip.Clip.{Clip}
use Rattle.primitives.specs.declared.entry.Entry.{Entry}
use Rattle.primitives.specs.declared.entry.Entry.TheVariants as entry
use Rattle.primitives.specs.declared.kind.Kind.TheVariants as kind
use Rattle.primitives.specs.PrimitiveModel.{PrimitiveModel}
use Rattle.primitives.specs.Stacks as row
use Rattle.primitives.specs.Tops.{IsWhole, IsCloseRect, AreCloseClips, IsCloseEntry}
use Rattle.primitives.specs.Tops as whole
use Rattle.slice_tests.specs.TopOf.{IsTopOf}

abbrev solid : Px → Bounds → List Clip → PrimitiveModel
solid colour rect clips = record { kind = kind.Solid colour; rect = rect; clips = clips }

pub one_solid : (es : List Entry) (e : Entry) (n : ℕ) (colour : Px) (rect : Bounds) (clips : List Clip) → es ≡ e ∷ [] → e ≡ entry.Primitive (solid colour rect clips) → length clips ≡ n → IsCloseRect rect → AreCloseClips clips
    → IsTopOf n es
one_solid es e n colour rect clips all is count close are =
    let p = solid colour rect clips in
    subst (IsTopOf n) (sym (all ∙ ap (λ (x : Entry). x ∷ []) is)) (record {
      whole = whole.primitive p;
      clips = sym count;
      close = All-cons IsCloseEntry (entry.Primitive p) [] (record { rect = close; kind = tt; clips = are }) (All-nil IsCloseEntry);
    })

-- a group of two solids
pub two_solids : (es : List Entry) (n opacity : ℕ) (mode : Mode) (clips : List Clip) (d e : Entry) (first second : Px) (rect small : Bounds) (own none : List Clip)
    → es ≡ entry.Push opacity mode clips ∷ d ∷ e ∷ entry.Pop ∷ [] → d ≡ entry.Primitive (solid first rect own) → e ≡ entry.Primitive (solid second small none)
    → length clips ≡ n → AreCloseClips clips → IsCloseRect rect → AreCloseClips own → IsCloseRect small → AreCloseClips none
    → IsTopOf n es
two_solids es n opacity mode clips d e first second rect small own none all is also count are close its near others =
    let p = solid first rect own in
    let q = solid second small none in
    let push = entry.Push opacity mode clips in
    let inner = entry.Primitive p ∷ entry.Primitive q ∷ [] in
    subst (IsTopOf n) (sym (all ∙ ap (λ (x : Entry). push ∷ x ∷ e ∷ entry.Pop ∷ []) is ∙ ap (λ (x : Entry). push ∷ entry.Primitive p ∷ x ∷ entry.Pop ∷ []) also)) (record {
      whole = whole.group opacity mode clips inner (row.primitive p _ (row.primitive q [] row.none));
      clips = sym count;
      close =
          All-cons IsCloseEntry push (entry.Primitive p ∷ entry.Primitive q ∷ entry.Pop ∷ []) are
          (All-cons IsCloseEntry (entry.Primitive p) (entry.Primitive q ∷ entry.Pop ∷ []) (record { rect = close; kind = tt; clips = its })
          (All-cons IsCloseEntry (entry.Primitive q) (entry.Pop ∷ []) (record { rect = near; kind = tt; clips = others }) (All-cons IsCloseEntry entry.Pop [] tt (All-nil IsCloseEntry))));
    })

-- four entries that are appended
pub four : (none one two three all : List Entry) (v w x y : Entry) → none ≡ [] → one ≡ none ++ v ∷ [] → two ≡ one ++ w ∷ [] → three ≡ two ++ x ∷ [] → all ≡ three ++ y ∷ [] → all ≡ v ∷ w ∷ x ∷ y ∷ []
four none one two three all v w x y a b c d e =
    e
    ∙ ap (λ (xs : List Entry). xs ++ y ∷ []) (d ∙ ap (λ (xs : List Entry). xs ++ x ∷ []) (c ∙ ap (λ (xs : List Entry). xs ++ w ∷ []) (b ∙ ap (λ (xs : List Entry). xs ++ v ∷ []) a)))

pub one : (none all : List Entry) (v : Entry) → none ≡ [] → all ≡ none ++ v ∷ [] → all ≡ v ∷ []
one none all v a b = b ∙ ap (λ (xs : List Entry). xs ++ v ∷ []) a
