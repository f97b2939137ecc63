-- Slices with their keys, one after another, and what holds of each.
use Rattle.std.proofs.Common.{◌≡◌, ℕ, suc, ℤ, true, List, [], ◌∷◌, ◌++◌, length, map, zip, refl, sym, ap, ap₂, subst, ◌∙◌, arith}
use Rattle.std.specs.Prelude.{All}
use Rattle.std.proofs.lemmas.List.{append_assoc, append-nil, map-append}
use Rattle.std.proofs.lemmas.List.Elements.{All-nil, All-cons, All-head, All-tail}
use Rattle.wr_geom.specs.Bounds.{Bounds, holds}
use Rattle.wr_geom.specs.declared.keys.SliceKey.{SliceKey}
use Rattle.blend_rules.specs.declared.colour.Px.{Px}
use Rattle.blend_rules.specs.declared.mode.Mode.TheVariants.{Normal}
use Rattle.blend_rules.specs.Colour.{blended}
use Rattle.image_store.specs.StoreModel.{StoreModel, IsStore}
use Rattle.primitives.specs.declared.entry.Top.{Top}
use Rattle.primitives.specs.Facts.{IsEntry}
use Rattle.slice_rules.specs.Homes.{Home}
use Rattle.slice_rules.specs.Runs.{Run, joined}
use Rattle.slice_rules.specs.Keys.{key_after, keys_after, slice_keys}
use Rattle.slice_rules.proofs.Keys.{each_key, key_homes}
use Rattle.slice_rules.proofs.Runs.{slices_joined}
use Rattle.picture_slices.specs.TopClips.{home_of_top}
use Rattle.picture_slices.specs.Facts.{HaveGoodEntries}
use Rattle.primitives.specs.Tops.{IsTop, AreTops}
use Rattle.picture_slices.specs.Slices.{slice_of, keyed_slices, top_slices}
use Rattle.picture_slices.specs.Values.{slices_over, runs_over}
use Rattle.picture_slices.specs.Laws.{SlicesHaveTheKeys, SlicesPaintTheTops}
use Rattle.picture_slices.specs.declared.slice.Slice.{Slice}
use Rattle.picture_slices.proofs.Painting.{all_first, slice_paints}

-- ---- one slice more

keys-more : (before hs : List Home) (h : Home) → keys_after before (hs ++ h ∷ []) ≡ keys_after before hs ++ key_after (before ++ hs) h ∷ []
keys-more before [] h = ap (λ (gs : List Home). key_after gs h ∷ []) (sym (append-nil before))
keys-more before (g ∷ hs) h =
    ap (λ (ks : List SliceKey). key_after before g ∷ ks)
    (keys-more (before ++ g ∷ []) hs h ∙ ap (λ (gs : List Home). keys_after (before ++ g ∷ []) hs ++ key_after gs h ∷ []) (append_assoc before (g ∷ []) hs))

abbrev pub homes_of_runs : List (Run Top) → List Home
homes_of_runs rs = map (λ (r : Run Top). r.home) rs

zip-more : {A B : Type 0} (xs : List A) (ys : List B) (x : A) (y : B) → length xs ≡ length ys → zip (xs ++ x ∷ []) (ys ++ y ∷ []) ≡ zip xs ys ++ (x, y) ∷ []
zip-more [] [] x y e = refl
zip-more [] (b ∷ ys) x y e = absurd (omega arith)
zip-more (a ∷ xs) [] x y e = absurd (omega arith)
zip-more {A} {B} (a ∷ xs) (b ∷ ys) x y e = ap (λ (ps : List (A × B)). (a, b) ∷ ps) (zip-more xs ys x y (omega arith))

pub keyed-more : (view : Bounds) (rs : List (Run Top)) (r : Run Top)
    → keyed_slices view (slice_keys (rs ++ r ∷ [])) (rs ++ r ∷ []) ≡ keyed_slices view (slice_keys rs) rs ++ slice_of view (key_after (homes_of_runs rs) r.home) r ∷ []
keyed-more view rs r =
    let f : SliceKey × Run Top → Slice = λ s. slice_of view s.0 s.1 in
    let key = key_after (homes_of_runs rs) r.home in
    let keys : slice_keys (rs ++ r ∷ []) ≡ slice_keys rs ++ key ∷ [] = ap (keys_after []) (map-append (λ (q : Run Top). q.home) rs (r ∷ [])) ∙ keys-more [] (homes_of_runs rs) r.home in
    ap (λ (ks : List SliceKey). map f (zip ks (rs ++ r ∷ []))) keys
    ∙ ap (map f) (zip-more (slice_keys rs) rs key r (each_key rs))
    ∙ map-append f (zip (slice_keys rs) rs) ((key, r) ∷ [])

-- ---- their keys

keyed_keys : (view : Bounds) (ks : List SliceKey) (rs : List (Run Top)) → length ks ≡ length rs → map (λ (s : Slice). s.key) (keyed_slices view ks rs) ≡ ks
keyed_keys view [] rs e = refl
keyed_keys view (k ∷ ks) [] e = absurd (omega arith)
keyed_keys view (k ∷ ks) (r ∷ rs) e = ap (λ (js : List SliceKey). k ∷ js) (keyed_keys view ks rs (omega arith))

pub keys_of_slices : (view : Bounds) (rs : List (Run Top)) → map (λ (s : Slice). s.key) (keyed_slices view (slice_keys rs) rs) ≡ slice_keys rs
keys_of_slices view rs = keyed_keys view (slice_keys rs) rs (each_key rs)

pub have_the_keys : SlicesHaveTheKeys
have_the_keys view tops = keys_of_slices view (top_slices tops)

homes_of_keys : (ss : List Slice) → map (λ (s : Slice). s.key.scroll) ss ≡ map (λ (k : SliceKey). k.scroll) (map (λ (s : Slice). s.key) ss)
homes_of_keys [] = refl
homes_of_keys (s ∷ ss) = ap (λ (hs : List Home). s.key.scroll ∷ hs) (homes_of_keys ss)

pub homes_of_slices : (view : Bounds) (rs : List (Run Top)) → map (λ (s : Slice). s.key.scroll) (keyed_slices view (slice_keys rs) rs) ≡ homes_of_runs rs
homes_of_slices view rs =
    homes_of_keys (keyed_slices view (slice_keys rs) rs) ∙ ap (map (λ (k : SliceKey). k.scroll)) (keys_of_slices view rs) ∙ key_homes rs

keyed-length : (view : Bounds) (ks : List SliceKey) (rs : List (Run Top)) → length ks ≡ length rs → length (keyed_slices view ks rs) ≡ length rs
keyed-length view [] [] e = refl
keyed-length view [] (r ∷ rs) e = absurd (omega arith)
keyed-length view (k ∷ ks) [] e = absurd (omega arith)
keyed-length view (k ∷ ks) (r ∷ rs) e = ap (λ (n : ℕ). suc n) (keyed-length view ks rs (omega arith))

pub slices-length : (view : Bounds) (rs : List (Run Top)) → length (keyed_slices view (slice_keys rs) rs) ≡ length rs
slices-length view rs = keyed-length view (slice_keys rs) rs (each_key rs)

-- ---- what holds of the tops of each run

all_second : {X : Type 0} (P : X → Type 0) (xs ys : List X) → All P (xs ++ ys) → All P ys
all_second P [] ys all = all
all_second P (x ∷ xs) ys all = all_second P xs ys (All-tail P x (xs ++ ys) all)

each_run : (P : Top → Type 0) (rs : List (Run Top)) → All P (joined rs) → All (λ (r : Run Top). All P r.members) rs
each_run P [] all = All-nil (λ (r : Run Top). All P r.members)
each_run P (r ∷ rs) all =
    All-cons (λ (q : Run Top). All P q.members) r rs (all_first P r.members (joined rs) all) (each_run P rs (all_second P r.members (joined rs) all))

pub each_slice : (P : Top → Type 0) (tops : List Top) → All P tops → All (λ (r : Run Top). All P r.members) (top_slices tops)
each_slice P tops all = each_run P (top_slices tops) (subst (All P) (sym (slices_joined home_of_top tops)) all)

all_append : {X : Type 0} (P : X → Type 0) (xs ys : List X) → All P xs → All P ys → All P (xs ++ ys)
all_append P [] ys all more = more
all_append P (x ∷ xs) ys all more = All-cons P x (xs ++ ys) (All-head P x xs all) (all_append P xs ys (All-tail P x xs all) more)

all_joined : (P : Top → Type 0) (rs : List (Run Top)) → All (λ (r : Run Top). All P r.members) rs → All P (joined rs)
all_joined P [] all = All-nil P
all_joined P (r ∷ rs) all =
    all_append P r.members (joined rs) (All-head (λ (q : Run Top). All P q.members) r rs all) (all_joined P rs (All-tail (λ (q : Run Top). All P q.members) r rs all))

pub all_tops : (P : Top → Type 0) (tops : List Top) → All (λ (r : Run Top). All P r.members) (top_slices tops) → All P tops
all_tops P tops all = subst (All P) (slices_joined home_of_top tops) (all_joined P (top_slices tops) all)

-- ---- over a backdrop

over_backdrop : (store : StoreModel) (view : Bounds) (ks : List SliceKey) (rs : List (Run Top)) (x y : ℤ) (backdrop : Px) → length ks ≡ length rs → IsStore store
    → All (λ (r : Run Top). AreTops r.members) rs → All (λ (r : Run Top). HaveGoodEntries r.members) rs → holds view x y ≡ true
    → slices_over store x y (keyed_slices view ks rs) backdrop ≡ runs_over store x y rs backdrop
over_backdrop store view [] [] x y backdrop e stored are good here = refl
over_backdrop store view [] (r ∷ rs) x y backdrop e stored are good here = absurd (omega arith)
over_backdrop store view (k ∷ ks) [] x y backdrop e stored are good here = absurd (omega arith)
over_backdrop store view (k ∷ ks) (r ∷ rs) x y backdrop e stored are good here =
    let its = slice_paints store view k r x y stored (All-head (λ (q : Run Top). AreTops q.members) r rs are) (All-head (λ (q : Run Top). HaveGoodEntries q.members) r rs good) here in
    ap (λ (c : Px). slices_over store x y (keyed_slices view ks rs) (blended Normal c backdrop)) its
    ∙ over_backdrop store view ks rs x y _ (omega arith) stored (All-tail (λ (q : Run Top). AreTops q.members) r rs are) (All-tail (λ (q : Run Top). HaveGoodEntries q.members) r rs good) here

pub paint_the_tops : SlicesPaintTheTops
paint_the_tops store view tops x y backdrop stored are good here =
    let rs = top_slices tops in
    over_backdrop store view (slice_keys rs) rs x y backdrop (each_key rs) stored (each_slice IsTop tops are) (each_slice (λ t. All IsEntry t.entries) tops good) here

-- ---- one slice more, as it is made

pub slice_more : (view : Bounds) (rs : List (Run Top)) (r : Run Top) (ss now next : List Slice) (key : SliceKey) (s : Slice) → ss ≡ keyed_slices view (slice_keys rs) rs → now ≡ ss
    → key ≡ key_after (map (λ (q : Slice). q.key.scroll) now) r.home → s ≡ slice_of view key r → next ≡ ss ++ s ∷ []
    → next ≡ keyed_slices view (slice_keys (rs ++ r ∷ [])) (rs ++ r ∷ [])
slice_more view rs r ss now next key s so_far seen named made put =
    let homes : map (λ (q : Slice). q.key.scroll) now ≡ homes_of_runs rs = ap (map (λ (q : Slice). q.key.scroll)) (seen ∙ so_far) ∙ homes_of_slices view rs in
    let name : key ≡ key_after (homes_of_runs rs) r.home = named ∙ ap (λ (hs : List Home). key_after hs r.home) homes in
    put
    ∙ ap₂ (λ (qs : List Slice) (q : Slice). qs ++ q ∷ []) so_far (made ∙ ap (λ (k : SliceKey). slice_of view k r) name)
    ∙ sym (keyed-more view rs r)
