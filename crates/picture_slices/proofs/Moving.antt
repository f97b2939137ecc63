-- Entries that are moved one by one.
use Rattle.std.proofs.Common.{◌≡◌, ℕ, List, [], ◌∷◌, ◌++◌, sym, ap, subst, ◌∙◌, append_assoc, append-nil}
use Rattle.std.specs.Prelude.{All}
use Rattle.std.proofs.lemmas.List.{map-append}
use Rattle.std.proofs.lemmas.List.Elements.{All-head, All-tail, All-cons}
use Rattle.wr_geom.specs.declared.point.Point.{Point}
use Rattle.primitives.specs.declared.entry.Entry.{Entry}
use Rattle.primitives.specs.declared.entry.Top.{Top}
use Rattle.primitives.specs.Clipping.{without_clips}
use Rattle.primitives.specs.Facts.{IsEntry}
use Rattle.primitives.specs.Moves.{shifted_entry, shifted_entries}
use Rattle.primitives.specs.Tops.{IsCloseEntry}
use Rattle.picture_slices.specs.Slices.{first_without, entries_without}

-- after the first entry, with the others moved, all are
pub begun : (old now all rest : List Entry) (e m : Entry) (n : ℕ) (by : Point) → all ≡ e ∷ rest → m ≡ shifted_entry (without_clips e n) by → now ≡ old ++ m ∷ []
    → now ++ shifted_entries rest by ≡ old ++ shifted_entries (first_without n all) by
begun old now all rest e m n by whole moved put =
    ap (λ (xs : List Entry). xs ++ shifted_entries rest by) put
    ∙ append_assoc old (m ∷ []) (shifted_entries rest by)
    ∙ ap (λ (x : Entry). old ++ (x ∷ shifted_entries rest by)) moved
    ∙ sym (ap (λ (xs : List Entry). old ++ shifted_entries (first_without n xs) by) whole)

-- one entry more
pub moved_one : (now next left rest total : List Entry) (e m : Entry) (by : Point) → left ≡ e ∷ rest → m ≡ shifted_entry e by → next ≡ now ++ m ∷ []
    → now ++ shifted_entries left by ≡ total → next ++ shifted_entries rest by ≡ total
moved_one now next left rest total e m by is moved put so_far =
    ap (λ (xs : List Entry). xs ++ shifted_entries rest by) put
    ∙ append_assoc now (m ∷ []) (shifted_entries rest by)
    ∙ ap (λ (x : Entry). now ++ (x ∷ shifted_entries rest by)) moved
    ∙ sym (ap (λ (xs : List Entry). now ++ shifted_entries xs by) is)
    ∙ so_far

-- none is left
pub moved_all : (now left total : List Entry) (by : Point) → left ≡ [] → now ++ shifted_entries left by ≡ total → now ≡ total
moved_all now left total by none so_far = sym (append-nil now) ∙ ap (λ (xs : List Entry). now ++ shifted_entries xs by) (sym none) ∙ so_far

-- there was none
pub moved_none : (old all rest : List Entry) (n : ℕ) (by : Point) → all ≡ [] → rest ≡ [] → old ++ shifted_entries rest by ≡ old ++ shifted_entries (first_without n all) by
moved_none old all rest n by none also =
    ap (λ (xs : List Entry). old ++ shifted_entries xs by) also ∙ sym (ap (λ (xs : List Entry). old ++ shifted_entries (first_without n xs) by) none)

pub first_close : (all rest : List Entry) (e : Entry) → all ≡ e ∷ rest → All IsCloseEntry all → IsCloseEntry e
first_close all rest e is close = All-head IsCloseEntry e rest (subst (All IsCloseEntry) is close)

pub rest_close : (all rest : List Entry) (e : Entry) → all ≡ e ∷ rest → All IsCloseEntry all → All IsCloseEntry rest
rest_close all rest e is close = All-tail IsCloseEntry e rest (subst (All IsCloseEntry) is close)

pub next_good : (left rest : List Entry) (e : Entry) → left ≡ e ∷ rest → IsEntry e → All IsEntry rest → All IsEntry left
next_good left rest e is good others = subst (All IsEntry) (sym is) (All-cons IsEntry e rest good others)

-- ---- tops that are moved one by one

entries-more : (n : ℕ) (ts : List Top) (t : Top) → entries_without n (ts ++ t ∷ []) ≡ entries_without n ts ++ first_without n t.entries
entries-more n [] t = append-nil (first_without n t.entries)
entries-more n (u ∷ ts) t =
    ap (λ (xs : List Entry). first_without n u.entries ++ xs) (entries-more n ts t) ∙ sym (append_assoc (first_without n u.entries) (entries_without n ts) (first_without n t.entries))

-- one top more
pub top_more : (old now next : List Entry) (ts : List Top) (t : Top) (n : ℕ) (by : Point) → now ≡ old ++ shifted_entries (entries_without n ts) by → next ≡ now ++ shifted_entries (first_without n t.entries) by
    → next ≡ old ++ shifted_entries (entries_without n (ts ++ t ∷ [])) by
top_more old now next ts t n by so_far put =
    let its = shifted_entries (first_without n t.entries) by in
    put
    ∙ ap (λ (xs : List Entry). xs ++ its) so_far
    ∙ append_assoc old (shifted_entries (entries_without n ts) by) its
    ∙ ap (λ (xs : List Entry). old ++ xs)
    (sym (ap (λ (xs : List Entry). shifted_entries xs by) (entries-more n ts t) ∙ map-append (λ (e : Entry). shifted_entry e by) (entries_without n ts) (first_without n t.entries)))
