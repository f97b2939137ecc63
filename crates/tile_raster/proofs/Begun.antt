-- How far a level has been run at a point.
use Rattle.std.proofs.Common.{◌≡◌, ℕ, zero, suc, ◌+◌, ◌-◌, ◌^◌, ◌<◌, ◌≤◌, ◌⊎◌, ℤ, Bool, true, false, List, [], ◌∷◌, ◌++◌, All, length, drop, max, leb, inl, inr, if◌then◌else◌, refl, sym, ap, subst, ◌∙◌, arith, true≢false, length-drop}
use Rattle.std.proofs.lemmas.Bool.{leb-true, leb-false, cases_lt}
use Rattle.std.proofs.lemmas.List.{drop-drop, get_or-drop}
use Rattle.std.proofs.lemmas.List.Elements.{All-head, All-tail}
use Rattle.wr_geom.specs.Bounds.{holds}
use Rattle.blend_rules.specs.Colour.{IsPixel, clear, scaled, blended}
use Rattle.blend_rules.specs.declared.colour.Px.{Px}
use Rattle.blend_rules.specs.declared.mode.Mode.{Mode}
use Rattle.blend_rules.specs.declared.mode.Mode.TheVariants.{Normal}
use Rattle.blend_rules.proofs.Blends.{scaled_is_pixel, scaled_by_none, clear_is_pixel, blend_is_pixel, clear_source_leaves}
use Rattle.clip_masks.specs.Coverage.{chain_coverage}
use Rattle.clip_masks.specs.declared.clip.Clip.{Clip}
use Rattle.clip_masks.proofs.Chains.{chain_byte}
use Rattle.image_store.specs.StoreModel.{StoreModel, IsStore}
use Rattle.primitives.specs.PrimitiveModel.{PrimitiveModel, IsPrimitive}
use Rattle.primitives.specs.Colours.{primitive_colour, covered_colour}
use Rattle.primitives.specs.Facts.{IsEntry, IsOpaque}
use Rattle.primitives.specs.Stacks.{Group, Stack, group_over_backdrop, step, run, balanced}
use Rattle.primitives.specs.declared.entry.Entry.{Entry}
use Rattle.primitives.specs.declared.entry.Entry.TheVariants as entry
use Rattle.primitives.proofs.Colours.{covered_is_pixel, opaque_replaces}
use Rattle.tile_raster.specs.Levels.{IsAt, StaysWithin, IsGroupEnd, over_primitive, over_group, Begins, IsBegun}
use Rattle.tile_raster.proofs.Levels.{balanced_once, after_primitive, drop_between}

-- a stack with a colour on it
abbrev on : Px → List Group → Stack
on t groups = record { top = t; groups = groups }

begins_at : (store : StoreModel) (es : List Entry) (from n m : ℕ) (x y : ℤ) (t : Px) → n ≡ m → Begins store es from n x y t → Begins store es from m x y t
begins_at store es from n m x y t e h = subst (λ (k : ℕ). Begins store es from k x y t) e h

begins_with : (store : StoreModel) (es : List Entry) (from n : ℕ) (x y : ℤ) (t u : Px) → u ≡ t → Begins store es from n x y t → Begins store es from n x y u
begins_with store es from n x y t u e h = subst (λ (p : Px). Begins store es from n x y p) (sym e) h

begins_first : (store : StoreModel) (es : List Entry) (from : ℕ) (x y : ℤ) → Begins store es from from x y clear
begins_first store es from x y groups = refl

begins_primitive : (store : StoreModel) (es : List Entry) (from i : ℕ) (x y : ℤ) (t : Px) (q : PrimitiveModel) → drop i es ≡ entry.Primitive q ∷ drop (i + 1) es
    → Begins store es from i x y t → Begins store es from (i + 1) x y (over_primitive store q x y t)
begins_primitive store es from i x y t q d h groups = h groups ∙ ap (λ (l : List Entry). run store x y l (on t groups)) d

begins_group : (store : StoreModel) (es : List Entry) (from i j : ℕ) (x y : ℤ) (t top : Px) (o : ℕ) (m : Mode) (c : List Clip)
    → drop i es ≡ entry.Push o m c ∷ drop (i + 1) es → drop j es ≡ entry.Pop ∷ drop (j + 1) es
    → Begins store es from i x y t → Begins store es (i + 1) j x y top → Begins store es from (j + 1) x y (over_group o m c x y top t)
begins_group store es from i j x y t top o m c d e h k groups =
    let g : Group = record { backdrop = t; opacity = o; mode = m; cover = chain_coverage c 255 x y } in
    h groups
    ∙ ap (λ (l : List Entry). run store x y l (on t groups)) d
    ∙ k (g ∷ groups)
    ∙ ap (λ (l : List Entry). run store x y l (on top (g ∷ groups))) e

-- nothing is run yet
pub begun_first : (store : StoreModel) (es : List Entry) (depth from to : ℕ) (x y : ℤ) (s : ℕ) (t : Px) → s ≡ 0 → t ≡ clear → IsBegun store es depth from to from x y s t
begun_first store es depth from to x y s t e f = record {
  begins = begins_with store es from (max from s) x y clear t f (begins_at store es from from (max from s) x y clear (omega (arith, e)) (begins_first store es from x y));
  within = omega (arith, e);
  level = inl e;
}

-- all is run
pub begun_last : (store : StoreModel) (es : List Entry) (depth from to i : ℕ) (x y : ℤ) (s : ℕ) (t : Px) → i ≡ to → IsBegun store es depth from to i x y s t → Begins store es from to x y t
begun_last store es depth from to i x y s t e h = begins_at store es from (max i s) to x y t (omega (arith, e, h.within)) h.begins

-- the same at equal values
pub begun_same : (store : StoreModel) (es : List Entry) (depth from to at : ℕ) (x y : ℤ) (r s : ℕ) (u t : Px) → s ≡ r → t ≡ u
    → IsBegun store es depth from to at x y r u → IsBegun store es depth from to at x y s t
begun_same store es depth from to at x y r s u t e f h =
    subst (λ (n : ℕ). IsBegun store es depth from to at x y n t) (sym e) (subst (λ (p : Px). IsBegun store es depth from to at x y r p) (sym f) h)

-- where a later start covers an entry, the colour stays
begun_covered : (store : StoreModel) (es : List Entry) (depth from to i j : ℕ) (x y : ℤ) (s : ℕ) (t u : Px) → i ≤ j → j ≤ s → u ≡ t
    → IsBegun store es depth from to i x y s t → IsBegun store es depth from to j x y s u
begun_covered store es depth from to i j x y s t u h k e b = record {
  begins = begins_with store es from (max j s) x y t u e (begins_at store es from (max i s) (max j s) x y t (omega (arith, h, k)) b.begins);
  within = b.within;
  level = b.level;
}

-- and where none does, it is that of the entries before a later position
begun_on : (store : StoreModel) (es : List Entry) (depth from to i j : ℕ) (x y : ℤ) (s : ℕ) (t u : Px) → s ≤ i → i ≤ j
    → IsBegun store es depth from to i x y s t → (Begins store es from i x y t → Begins store es from j x y u) → IsBegun store es depth from to j x y s u
begun_on store es depth from to i j x y s t u h k b step = record {
  begins = begins_at store es from j (max j s) x y u (omega (arith, h, k)) (step (begins_at store es from (max i s) i x y t (omega (arith, h)) b.begins));
  within = b.within;
  level = b.level;
}

-- a primitive more
pub begun_primitive : (store : StoreModel) (es : List Entry) (depth from to i : ℕ) (x y : ℤ) (s : ℕ) (t u : Px) (q : PrimitiveModel) → drop i es ≡ entry.Primitive q ∷ drop (i + 1) es
    → IsBegun store es depth from to i x y s t → u ≡ (if leb s i then over_primitive store q x y t else t) → IsBegun store es depth from to (i + 1) x y s u
begun_primitive store es depth from to i x y s t u q d h e = by_test (leb s i) refl e
  where
    by_test : (b : Bool) → leb s i ≡ b → u ≡ (if b then over_primitive store q x y t else t) → IsBegun store es depth from to (i + 1) x y s u
    by_test true k f =
        begun_on store es depth from to i (i + 1) x y s t u (leb-true s i k) (omega arith) h
        (λ b. begins_with store es from (i + 1) x y (over_primitive store q x y t) u f (begins_primitive store es from i x y t q d b))
    by_test false k f = let more = leb-false s i k in begun_covered store es depth from to i (i + 1) x y s t u (omega arith) (omega (arith, more)) f h

-- a start of a level beyond a group's Push is beyond its Pop
beyond_group : (es : List Entry) (depth i j s : ℕ) → StaysWithin es (depth + 1) (i + 1) j → (s ≡ 0) ⊎ IsAt es depth s → i < s → j + 1 ≤ s
beyond_group es depth i j s w l h = elim (cases_lt j s) [
  | inl more ↦ omega (arith, more)
  | inr less ↦ elim l [
    | inl none ↦ absurd (omega (arith, none, h))
    | inr at ↦ absurd (omega (arith, w s depth (omega (arith, h)) less at))
  ]
]

-- a group more
pub begun_group : (store : StoreModel) (es : List Entry) (depth from to i j : ℕ) (x y : ℤ) (s : ℕ) (t top u : Px) (o : ℕ) (m : Mode) (c : List Clip)
    → drop i es ≡ entry.Push o m c ∷ drop (i + 1) es → IsGroupEnd es depth i j → Begins store es (i + 1) j x y top → IsBegun store es depth from to i x y s t
    → u ≡ (if leb s i then over_group o m c x y top t else t) → IsBegun store es depth from to (j + 1) x y s u
begun_group store es depth from to i j x y s t top u o m c d end k h f = by_test (leb s i) refl f
  where
    by_test : (b : Bool) → leb s i ≡ b → u ≡ (if b then over_group o m c x y top t else t) → IsBegun store es depth from to (j + 1) x y s u
    by_test true l f =
        begun_on store es depth from to i (j + 1) x y s t u (leb-true s i l) (omega (arith, end.order)) h
        (λ b. begins_with store es from (j + 1) x y (over_group o m c x y top t) u f (begins_group store es from i j x y t top o m c d end.pop b k))
    by_test false l f =
        let more = leb-false s i l in
        let past = beyond_group es depth i j s end.within h.level more in
        begun_covered store es depth from to i (j + 1) x y s t u (omega (arith, end.order)) past f h

-- ---- positions of a level are reached

-- open groups over pixels, whose opacities and covers are bytes
record IsOpenGroup (g : Group) : Type 0 where
  backdrop : IsPixel g.backdrop
  opacity : g.opacity < 2 ^ 8
  cover : g.cover < 2 ^ 8

abbrev AreOpen : List Group → Type 0
AreOpen [] = Unit {0}
AreOpen (g ∷ gs) = IsOpenGroup g × AreOpen gs

-- From the top t over some groups, what is left after c entries is reached with some pixel, and those groups are gone.
abbrev Reaches : StoreModel → List Entry → ℕ → ℤ → ℤ → Px → List Group → Type 0
Reaches store xs c x y t first = (u : Px) × (IsPixel u × ((groups : List Group) → run store x y xs (on t (first ++ groups)) ≡ run store x y (drop c xs) (on u groups)))

-- none of the next c positions is of a lower level
abbrev StaysAbove : List Entry → ℕ → ℕ → Type 0
StaysAbove xs level c = (m n : ℕ) → m ≤ c → balanced n (drop m xs) ≡ true → level ≤ n

above_next : (e : Entry) (xs : List Entry) (level c : ℕ) → StaysAbove (e ∷ xs) level (suc c) → StaysAbove xs level c
above_next e xs level c h m n less at = h (suc m) n (omega arith) at

painted_pixel : (store : StoreModel) (q : PrimitiveModel) (x y : ℤ) (t : Px) → IsStore store → IsPrimitive q → IsPixel t → IsPixel (over_primitive store q x y t)
painted_pixel store q x y t h is p = blend_is_pixel Normal (covered_colour store q x y) t (covered_is_pixel store q x y h is).byte p.byte

closed_pixel : (g : Group) (t : Px) → IsOpenGroup g → IsPixel t → IsPixel (group_over_backdrop g t)
unfolding group_over_backdrop
closed_pixel g t h p =
    let thin = scaled_is_pixel (scaled t g.opacity) g.cover h.cover (scaled_is_pixel t g.opacity h.opacity p) in
    blend_is_pixel g.mode (scaled (scaled t g.opacity) g.cover) g.backdrop thin.byte h.backdrop.byte

reaches : (store : StoreModel) (c : ℕ) (xs : List Entry) (level : ℕ) (x y : ℤ) (t : Px) (first : List Group) (n : ℕ) → n ≡ level + length first → balanced n xs ≡ true → balanced level (drop c xs) ≡ true
    → StaysAbove xs level c → IsStore store → All IsEntry xs → IsPixel t → AreOpen first → Reaches store xs c x y t first
reaches store zero xs level x y t [] n e h k w s a p o = (t, (p, λ groups. refl))
reaches store zero xs level x y t (g ∷ gs) n e h k w s a p o = absurd (omega (arith, balanced_once xs n level h k))
reaches store (suc c) [] level x y t [] n e h k w s a p o = (t, (p, λ groups. refl))
reaches store (suc c) [] level x y t (g ∷ gs) n e h k w s a p o = absurd (omega (arith, balanced_once [] n level h k))
reaches store (suc c) (entry.Primitive q ∷ xs) level x y t first n e h k w s a p o =
    reaches store c xs level x y (over_primitive store q x y t) first n e h k (above_next (entry.Primitive q) xs level c w) s (All-tail IsEntry (entry.Primitive q) xs a)
    (painted_pixel store q x y t s (All-head IsEntry (entry.Primitive q) xs a) p) o
reaches store (suc c) (entry.Push v m d ∷ xs) level x y t first n e h k w s a p o =
    let g : Group = record { backdrop = t; opacity = v; mode = m; cover = chain_coverage d 255 x y } in
    let fine : IsOpenGroup g = record { backdrop = p; opacity = All-head IsEntry (entry.Push v m d) xs a; cover = chain_byte d 255 x y (omega arith) } in
    reaches store c xs level x y clear (g ∷ first) (suc n) (omega (arith, e)) h k (above_next (entry.Push v m d) xs level c w) s (All-tail IsEntry (entry.Push v m d) xs a)
    clear_is_pixel (fine, o)
reaches store (suc c) (entry.Pop ∷ xs) level x y t first zero e h k w s a p o = absurd (true≢false (sym h))
reaches store (suc c) (entry.Pop ∷ xs) level x y t [] (suc n) e h k w s a p o = absurd (omega (arith, w 1 n (omega arith) h))
reaches store (suc c) (entry.Pop ∷ xs) level x y t (g ∷ gs) (suc n) e h k w s a p o =
    reaches store c xs level x y (group_over_backdrop g t) gs n (omega (arith, e)) h k (above_next entry.Pop xs level c w) s (All-tail IsEntry entry.Pop xs a)
    (closed_pixel g t o.0 p) o.1

entries_from : (es : List Entry) (from : ℕ) → All IsEntry es → All IsEntry (drop from es)
entries_from es from h k d less = subst IsEntry (sym (get_or-drop from es k d)) (h (from + k) d (omega (arith, less, length-drop from es)))

-- a position of a level is reached with some pixel
level_reached : (store : StoreModel) (es : List Entry) (depth from i : ℕ) (x y : ℤ) → from ≤ i → IsAt es depth from → IsAt es depth i → StaysWithin es depth from i → IsStore store → All IsEntry es
    → (t : Px) × (IsPixel t × Begins store es from i x y t)
level_reached store es depth from i x y h a b w s all =
    let r = reaches store (i - from) (drop from es) depth x y clear [] depth (omega arith) a (ap (balanced depth) (drop_between es from i h) ∙ b)
    (λ m n less at. w (from + m) n (omega arith) (omega (arith, h, less)) (ap (balanced n) (sym (drop-drop m from es)) ∙ at)) s (entries_from es from all) clear_is_pixel tt in
    (r.0, (r.1.0, λ groups. r.1.1 groups ∙ ap (λ (l : List Entry). run store x y l (on r.0 groups)) (drop_between es from i h)))

-- an opaque primitive of the level, at a point of its rectangle where its clips leave all of it
pub begun_taken : (store : StoreModel) (es : List Entry) (depth from to i : ℕ) (x y : ℤ) (s : ℕ) (u : Px) (q : PrimitiveModel) → from ≤ i → i < to → IsAt es depth from → IsAt es depth i
    → StaysWithin es depth from to → IsStore store → All IsEntry es → drop i es ≡ entry.Primitive q ∷ drop (i + 1) es → IsPrimitive q → IsOpaque store q.kind → holds q.rect x y ≡ true
    → chain_coverage q.clips 255 x y ≡ 255 → s ≡ suc i → u ≡ primitive_colour store q x y → IsBegun store es depth from to from x y s u
begun_taken store es depth from to i x y s u q h k a b w fine all d is opaque inside whole es_is us_is =
    let r = level_reached store es depth from i x y h a b (λ m n f g at. w m n f (omega (arith, g, k)) at) fine all in
    let own : over_primitive store q x y r.0 ≡ u = ap (λ (z : Stack). z.top) (opaque_replaces store q x y (on r.0 []) fine is opaque inside whole) ∙ sym us_is in
    record {
      begins = begins_at store es from (i + 1) (max from s) x y u (omega (arith, es_is, h)) (begins_with store es from (i + 1) x y (over_primitive store q x y r.0) u (sym own) (begins_primitive store es from i x y r.0 q d r.1.1));
      within = omega (arith, es_is, k);
      level = inr (subst (λ (n : ℕ). IsAt es depth n) (omega (arith, es_is)) (after_primitive es depth i q d b));
    }

-- a choice between equal colours
either_same : (b : Bool) (u d e : Px) → e ≡ d → u ≡ d → e ≡ (if b then u else d)
either_same true u d e h k = h ∙ sym k
either_same false u d e h k = h

-- a group whose clips leave nothing of it shows nothing
hidden_group : (o : ℕ) (m : Mode) (c : List Clip) (x y : ℤ) (top t : Px) → IsPixel top → o < 2 ^ 8 → IsPixel t → chain_coverage c 255 x y ≡ 0 → over_group o m c x y top t ≡ t
unfolding group_over_backdrop
hidden_group o m c x y top t p small q none =
    ap (λ (z : Px). blended m z t) (ap (scaled (scaled top o)) none ∙ scaled_by_none (scaled top o) (scaled_is_pixel top o small p)) ∙ clear_source_leaves m t q.premultiplied q.byte

-- a group more, at a point at which its clips leave nothing of it
pub begun_hidden : (store : StoreModel) (es : List Entry) (depth from to i j : ℕ) (x y : ℤ) (s : ℕ) (t u : Px) (o : ℕ) (m : Mode) (c : List Clip) → drop i es ≡ entry.Push o m c ∷ drop (i + 1) es
    → IsGroupEnd es depth i j → IsAt es (depth + 1) (i + 1) → IsStore store → All IsEntry es → o < 2 ^ 8 → IsPixel t → chain_coverage c 255 x y ≡ 0
    → IsBegun store es depth from to i x y s t → u ≡ t → IsBegun store es depth from to (j + 1) x y s u
begun_hidden store es depth from to i j x y s t u o m c d end a fine all small q none h is =
    let r = level_reached store es (depth + 1) (i + 1) j x y (omega (arith, end.order)) a end.place end.within fine all in
    begun_group store es depth from to i j x y s t r.0 u o m c d end r.1.1 h (either_same (leb s i) (over_group o m c x y r.0 t) t u is (hidden_group o m c x y r.0 t r.1.0 small q none))
