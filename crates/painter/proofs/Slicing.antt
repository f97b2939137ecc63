-- One pass over the top items gives the picture.
use Rattle.std.proofs.Common.{◌≡◌, ℕ, zero, suc, ◌+◌, ◌<◌, ◌≤◌, nat_lt, Bool, true, false, true≢false, ◌||◌, ◌&&◌, not, ◌==◌, List, [], ◌∷◌, ◌++◌, if◌then◌else◌, Some, None, refl, sym, ap, ap₂, ◌∙◌, arith}
use Rattle.std.specs.List.{fold}
use Rattle.std.proofs.lemmas.List.{append-nil}
use Rattle.std.proofs.lemmas.Bool.{and_parts, eqb-true, lt-ltb, ne_eqb}
use Rattle.blend_rules.specs.declared.colour.Px.{Px}
use Rattle.blend_rules.specs.declared.mode.Mode.TheVariants.{Normal}
use Rattle.blend_rules.specs.Colour.{clear, blended, IsPixel}
use Rattle.blend_rules.proofs.Blends.{clear_source_leaves}
use Rattle.painter.specs.Painter.{ScenePixel}
use Rattle.slice_rules.specs.Homes.{Home, same_home}
use Rattle.slice_rules.specs.Runs.{before_runs, runs, joined, rest_in_one, slices_of}
use Rattle.slice_rules.proofs.Runs.{home_same, runs_joined}
use Rattle.painter.specs.TopItems.{TopItem, top_items, home_of, paint_top}
use Rattle.painter.specs.Slices.{Slice, paint_tops, paint_slices, picture_over}
use Rattle.painter.specs.declared.progress.Progress.{Progress}
use Rattle.painter.specs.Progress.{begin, begins, laid, after_top}

-- ---- the first run of a home, and the others

abbrev leading : Home → List Slice → List TopItem × List Slice
leading h [] = ([], [])
leading h (r ∷ rs) = if same_home h r.home then (r.members, rs) else ([], r ∷ rs)

abbrev run_of : Home → List TopItem → Slice
run_of h ts = record { home = h; members = ts }

-- a top item before runs stands in the first one, or before it, with those of its home
before_by : (t : TopItem) (r : Slice) (rs : List Slice) (b : Bool) → same_home (home_of t) r.home ≡ b
    → before_runs home_of t (r ∷ rs) ≡ run_of (home_of t) (t ∷ (leading (home_of t) (r ∷ rs)).0) ∷ (leading (home_of t) (r ∷ rs)).1
before_by t r rs true e = rw e refl
before_by t r rs false e = rw e refl

before_leading : (t : TopItem) (rs : List Slice) → before_runs home_of t rs ≡ run_of (home_of t) (t ∷ (leading (home_of t) rs).0) ∷ (leading (home_of t) rs).1
before_leading t [] = refl
before_leading t (r ∷ rs) = before_by t r rs (same_home (home_of t) r.home) refl

-- and its home leads there
leading_same : (h : Home) (t : TopItem) (rs : List Slice) → same_home h (home_of t) ≡ true → leading h (before_runs home_of t rs) ≡ (t ∷ (leading h rs).0, (leading h rs).1)
leading_same h t rs e =
    let same : h ≡ home_of t = home_same h (home_of t) e in
    ap (leading h) (before_leading t rs)
    ∙ ap (λ (b : Bool). if b then (t ∷ (leading (home_of t) rs).0, (leading (home_of t) rs).1) else ([], run_of (home_of t) (t ∷ (leading (home_of t) rs).0) ∷ (leading (home_of t) rs).1)) e
    ∙ ap (λ (g : Home). (let x : List TopItem × List Slice = (t ∷ (leading g rs).0, (leading g rs).1) in x)) (sym same)

-- another home leads nowhere
leading_other : (h : Home) (t : TopItem) (rs : List Slice) → same_home h (home_of t) ≡ false → leading h (before_runs home_of t rs) ≡ ([], before_runs home_of t rs)
leading_other h t rs e =
    let x = run_of (home_of t) (t ∷ (leading (home_of t) rs).0) in
    let xs = (leading (home_of t) rs).1 in
    let whole = before_leading t rs in
    ap (leading h) whole ∙ ap (λ (b : Bool). if b then (x.members, xs) else ([], x ∷ xs)) e ∙ ap (λ (ys : List Slice). (let z : List TopItem × List Slice = ([], ys) in z)) (sym whole)

-- ---- painting in one pass

abbrev finished : ScenePixel → Progress → List TopItem → Px
finished s p ts = laid (fold (after_top s) p ts)

abbrev at : ℕ → Home → Px → Px → Progress
at n h v q = record { runs = n; home = h; slice = v; picture = q }

-- from the eighth run on, all is painted into one slice
last_slice : (s : ScenePixel) (h : Home) (v q : Px) (ts : List TopItem) → finished s (at 8 h v q) ts ≡ blended Normal (paint_tops s ts v) q
last_slice s h v q [] = refl
last_slice s h v q (t ∷ ts) = last_slice s h (paint_top s t v) q ts

-- the rest of the runs where none or one slice is left
rest_painted : (s : ScenePixel) (rs : List Slice) (q : Px) (r : Slice) → paint_slices s (rest_in_one 0 (r ∷ rs)) q ≡ blended Normal (paint_tops s (joined (r ∷ rs)) clear) q
rest_painted s [] q r = ap (λ (xs : List TopItem). blended Normal (paint_tops s xs clear) q) (sym (append-nil r.members))
rest_painted s (x ∷ xs) q r = refl

few : (n : ℕ) → n ≤ 7 → nat_lt n 8 ≡ true
few n le = lt-ltb n 8 (omega (arith, le))

-- what a top item leaves, by whether it begins a slice
abbrev left_by : ScenePixel → Progress → TopItem → Bool → Progress
left_by s p t b =
    let q : Progress = if b then at (p.runs + 1) (home_of t) clear (laid p) else p in
    at q.runs q.home (paint_top s t q.slice) q.picture

left_is : (s : ScenePixel) (p : Progress) (t : TopItem) (b : Bool) → begins (home_of t) p ≡ b → after_top s p t ≡ left_by s p t b
left_is s p t b e = ap (left_by s p t) e

begins_by : (z few same : Bool) → z ≡ false → (z || (few && not same)) ≡ (few && not same)
begins_by z few same e = rw e refl

none_begun : (n : ℕ) → 0 < n → (n == 0) ≡ false
none_begun n lt = ne_eqb n 0 (λ (e : n ≡ 0). omega (arith, lt, e))

and_none : (b : Bool) → (b && false) ≡ false
and_none true = refl
and_none false = refl

-- a top item that stays in its slice
stays : (s : ScenePixel) (n : ℕ) (h : Home) (v q : Px) (t : TopItem) → 0 < n → same_home h (home_of t) ≡ true → after_top s (at n h v q) t ≡ at n h (paint_top s t v) q
stays s n h v q t lt e =
    left_is s (at n h v q) t false
    (begins_by (n == 0) (nat_lt n 8) (same_home h (home_of t)) (none_begun n lt) ∙ ap (λ (b : Bool). nat_lt n 8 && not b) e ∙ and_none (nat_lt n 8))

-- one that begins the next slice
begins_next : (s : ScenePixel) (n : ℕ) (h : Home) (v q : Px) (t : TopItem) → 0 < n → n ≤ 7 → same_home h (home_of t) ≡ false
    → after_top s (at n h v q) t ≡ at (n + 1) (home_of t) (paint_top s t clear) (blended Normal v q)
begins_next s n h v q t lt le e =
    left_is s (at n h v q) t true
    (begins_by (n == 0) (nat_lt n 8) (same_home h (home_of t)) (none_begun n lt) ∙ ap₂ (λ (a b : Bool). a && not b) (few n le) e)

-- after so many runs, where so many more may be slices of their own before the last
abbrev Ends : ScenePixel → List TopItem → Type 0
Ends s ts = (k n : ℕ) (h : Home) (v q : Px) → 0 < n → n + k ≡ 7
    → finished s (at n h v q) ts ≡ paint_slices s (rest_in_one k (leading h (runs home_of ts)).1) (blended Normal (paint_tops s (leading h (runs home_of ts)).0 v) q)

-- what is painted of a run that leads, and of the runs after it
abbrev after_lead : ScenePixel → ℕ → Px → Px → List TopItem × List Slice → Px
after_lead s k v q lead = paint_slices s (rest_in_one k lead.1) (blended Normal (paint_tops s lead.0 v) q)

ends_same : (s : ScenePixel) (t : TopItem) (ts : List TopItem) (k n : ℕ) (h : Home) (v q : Px) → Ends s ts → 0 < n → n + k ≡ 7 → same_home h (home_of t) ≡ true
    → finished s (at n h v q) (t ∷ ts) ≡ after_lead s k v q (leading h (runs home_of (t ∷ ts)))
ends_same s t ts k n h v q ih lt sum e =
    ap (λ (p : Progress). finished s p ts) (stays s n h v q t lt e) ∙ ih k n h (paint_top s t v) q lt sum ∙ sym (ap (after_lead s k v q) (leading_same h t (runs home_of ts) e))

ends_other : (s : ScenePixel) (t : TopItem) (ts : List TopItem) (k n : ℕ) (h : Home) (v q : Px) → Ends s ts → 0 < n → n + k ≡ 7 → same_home h (home_of t) ≡ false
    → finished s (at n h v q) (t ∷ ts) ≡ after_lead s k v q (leading h (runs home_of (t ∷ ts)))
ends_other s t ts zero n h v q ih lt sum e =
    let seven : n ≡ 7 = omega (arith, sum) in
    let next : Progress = at 8 (home_of t) (paint_top s t clear) (blended Normal v q) in
    let x = run_of (home_of t) (t ∷ (leading (home_of t) (runs home_of ts)).0) in
    let xs = (leading (home_of t) (runs home_of ts)).1 in
    let all : joined (x ∷ xs) ≡ t ∷ ts = ap joined (sym (before_leading t (runs home_of ts))) ∙ runs_joined home_of (t ∷ ts) in
    ap (λ (p : Progress). finished s p ts) (begins_next s n h v q t lt (omega (arith, sum)) e ∙ ap (λ (i : ℕ). at (i + 1) (home_of t) (paint_top s t clear) (blended Normal v q)) seven)
    ∙ last_slice s (home_of t) (paint_top s t clear) (blended Normal v q) ts
    ∙ sym (ap (after_lead s 0 v q) (leading_other h t (runs home_of ts) e)
    ∙ ap (λ (rs : List Slice). paint_slices s (rest_in_one 0 rs) (blended Normal v q)) (before_leading t (runs home_of ts))
    ∙ rest_painted s xs (blended Normal v q) x
    ∙ ap (λ (us : List TopItem). blended Normal (paint_tops s us clear) (blended Normal v q)) all)
ends_other s t ts (suc k) n h v q ih lt sum e =
    let x = run_of (home_of t) (t ∷ (leading (home_of t) (runs home_of ts)).0) in
    let xs = (leading (home_of t) (runs home_of ts)).1 in
    ap (λ (p : Progress). finished s p ts) (begins_next s n h v q t lt (omega (arith, sum)) e)
    ∙ ih k (n + 1) (home_of t) (paint_top s t clear) (blended Normal v q) (omega arith) (omega (arith, sum))
    ∙ sym (ap (after_lead s (suc k) v q) (leading_other h t (runs home_of ts) e)
    ∙ ap (λ (rs : List Slice). paint_slices s (rest_in_one (suc k) rs) (blended Normal v q)) (before_leading t (runs home_of ts)))

ends_by : (s : ScenePixel) (t : TopItem) (ts : List TopItem) (k n : ℕ) (h : Home) (v q : Px) (b : Bool) → Ends s ts → 0 < n → n + k ≡ 7 → same_home h (home_of t) ≡ b
    → finished s (at n h v q) (t ∷ ts) ≡ after_lead s k v q (leading h (runs home_of (t ∷ ts)))
ends_by s t ts k n h v q true ih lt sum e = ends_same s t ts k n h v q ih lt sum e
ends_by s t ts k n h v q false ih lt sum e = ends_other s t ts k n h v q ih lt sum e

none_left : (s : ScenePixel) (k : ℕ) (q : Px) → paint_slices s (rest_in_one k []) q ≡ q
none_left s zero q = refl
none_left s (suc k) q = refl

ends : (s : ScenePixel) (ts : List TopItem) → Ends s ts
ends s [] k n h v q lt sum = sym (none_left s k (blended Normal v q))
ends s (t ∷ ts) k n h v q lt sum = ends_by s t ts k n h v q (same_home h (home_of t)) (ends s ts) lt sum refl

-- the whole
first : (s : ScenePixel) (behind : Px) (t : TopItem) → after_top s (begin behind) t ≡ at 1 (home_of t) (paint_top s t clear) (blended Normal clear behind)
first s behind t = refl

all_painted : (s : ScenePixel) (ts : List TopItem) (behind : Px) → blended Normal clear behind ≡ behind → finished s (begin behind) ts ≡ paint_slices s (slices_of home_of ts) behind
all_painted s [] behind e = e
all_painted s (t ∷ ts) behind e =
    ap (λ (p : Progress). finished s p ts) (first s behind t)
    ∙ ap (λ (q : Px). finished s (at 1 (home_of t) (paint_top s t clear) q) ts) e
    ∙ ends s ts 6 1 (home_of t) (paint_top s t clear) behind (omega arith) (omega arith)
    ∙ sym (ap (λ (rs : List Slice). paint_slices s (rest_in_one 7 rs) behind) (before_leading t (runs home_of ts)))

pub one_pass : (s : ScenePixel) (behind : Px) (p : Progress) → IsPixel behind → p ≡ fold (after_top s) (begin behind) (top_items s.pipelines) → laid p ≡ picture_over s behind
unfolding picture_over
one_pass s behind p is e = ap laid e ∙ all_painted s (top_items s.pipelines) behind (clear_source_leaves Normal behind is.premultiplied is.byte)
