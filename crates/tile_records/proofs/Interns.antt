-- Entries that are interned one after another, and records of them.
use Rattle.std.proofs.Common.{◌≡◌, ◌<◌, ◌+◌, ◌*◌, ◌/◌, ◌%◌, ℕ, zero, suc, Bool, true, false, cond, List, [], ◌∷◌, ◌++◌, length, get_or, map, Option, Some, IsSome, refl, sym, ap, ap₂, subst, ◌∙◌, append-nil, arith}
use Rattle.std.specs.Ordering.{nat_cmp, eq_by_cmp}
use Rattle.std.specs.FinMap.{get, insert, remove}
use Rattle.std.proofs.lemmas.List.Elements.{All-cons, All-nil}
use Rattle.std.proofs.lemmas.List.{length-map, length_push}
use Rattle.wr_geom.specs.Bounds.{Bounds}
use Rattle.std.proofs.lemmas.Nat.{div_below, mod_below, div-add-mod'}
use Rattle.primitives.specs.declared.entry.Entry.{Entry}
use Rattle.tile_records.specs.declared.id.Id.{Id}
use Rattle.tile_records.specs.declared.interner.Found.{Found}
use Rattle.tile_records.specs.declared.interner.Found.TheVariants as found
use Rattle.tile_records.specs.declared.record.TileRecord.{TileRecord}
use Rattle.tile_records.specs.declared.tiles.Tiles.{Tiles}
use Rattle.tile_records.specs.declared.tiles.Tiles.TheVariants.{One}
use Rattle.tile_records.specs.Interning.{Interning, AreHeld, entry_of, entry_at, entries_under, ids_keys, record_keys}
use Rattle.tile_records.specs.Counts.{times, raised_all, raised_records, swept_all, IsAcquired, Moves}
use Rattle.tile_records.specs.Making.{IsFound, NotesFound, ForgetsFound, IsGrown, Extends, AreInterned, AreRecordsOf, unused}
use Rattle.tile_records.specs.Passing.{joined, keys_of_records}
use Rattle.tile_records.specs.Picks.{picked_after, picked, shows_in}
use Rattle.tile_records.specs.Tiles.{columns_of, rows_of, rect_at}
use Rattle.tile_records.proofs.Acquiring.{grown_more, inserted_extends, held_where}
use Rattle.tile_records.proofs.Claims.{acquired_moves}
use Rattle.tile_records.proofs.Counting.{acquired_in_all, named_entry, raised_records_all}
use Rattle.tile_records.proofs.Holding.{times_append}
use Rattle.tile_records.proofs.Picking.{pick_mapped}
use Rattle.tile_records.proofs.Recounts.{get_inserted, removed_inserted}
use Rattle.tile_records.proofs.Reaches.{keys_append}
use Rattle.tile_records.proofs.Views.{same_eq, eq_same}

-- ---- one entry more

pub record IsInternedOne (old new : Interning) (k : ℕ) (e : Entry) : Type 0 where
  pub stands : entry_at new k ≡ Some e
  pub extends : Extends old new

pub interned_one : (old mid new : Interning) (f : Found) (added more : List Id) (id : Id) (e : Entry) → IsFound old mid f e → NotesFound mid new f added more id → IsInternedOne old new id.key e
interned_one old mid new (found.Old i) added more id e f n =
    let same : new ≡ old = n.0 ∙ f.1 in
    record {
      stands = ap₂ (λ (m : Interning) (j : Id). entry_at m j.key) same n.2 ∙ f.0;
      extends = λ k x h. ap (λ (m : Interning). entry_at m k) same ∙ h;
    }
interned_one old mid new (found.New i) added more id e f n =
    let same : new ≡ insert old i.key (unused e) = n.0 ∙ f.1 in
    record {
      stands = ap₂ (λ (m : Interning) (j : Id). entry_at m j.key) same n.2 ∙ ap entry_of (get_inserted old i.key (unused e));
      extends = λ k x h. ap (λ (m : Interning). entry_at m k) same ∙ inserted_extends old e i.key f.0 k x h;
    }

grown_same : (base old new : Interning) (added more : List Id) → new ≡ old → more ≡ added → IsGrown base old (ids_keys added) → IsGrown base new (ids_keys more)
grown_same base old new added more e f g = subst (λ (m : Interning). IsGrown base m (ids_keys more)) (sym e) (subst (λ (l : List Id). IsGrown base old (ids_keys l)) (sym f) g)

pub grown_noted : (base old mid new : Interning) (f : Found) (added more : List Id) (id : Id) (e : Entry) → IsFound old mid f e → NotesFound mid new f added more id → IsGrown base old (ids_keys added) → IsGrown base new (ids_keys more)
grown_noted base old mid new (found.Old i) added more id e f n g = grown_same base old new added more (n.0 ∙ f.1) n.1 g
grown_noted base old mid new (found.New i) added more id e f n g =
    subst (λ (m : Interning). IsGrown base m (ids_keys more)) (sym (n.0 ∙ f.1))
    (subst (IsGrown base (insert old i.key (unused e))) (sym (ap ids_keys n.1 ∙ keys_append added (i ∷ []))) (grown_more base old e i.key (ids_keys added) f.0 g))

pub grown_forgotten : (base old mid new : Interning) (f : Found) (added more : List Id) (e : Entry) → IsFound old mid f e → ForgetsFound mid new f added more → IsGrown base old (ids_keys added) → IsGrown base new (ids_keys more)
grown_forgotten base old mid new (found.Old i) added more e f n g = grown_same base old new added more (n.0 ∙ f.1) n.1 g
grown_forgotten base old mid new (found.New i) added more e f n g =
    grown_same base old new added more (n.0 ∙ ap (λ (m : Interning). remove m i.key) f.1 ∙ removed_inserted old i.key (unused e) f.0) n.1 g

-- ---- many

map_append : {A B : Type 0} (f : A → B) (xs ys : List A) → map f (xs ++ ys) ≡ map f xs ++ map f ys
map_append f [] ys = refl
map_append {B = B} f (x ∷ xs) ys = ap (λ (l : List B). f x ∷ l) (map_append f xs ys)

interned_kept : (m n : Interning) → Extends m n → (ks : List ℕ) (es : List Entry) → AreInterned m ks es → AreInterned n ks es
interned_kept m n ext [] es h = h
interned_kept m n ext (k ∷ ks) [] h = absurd cc
interned_kept m n ext (k ∷ ks) (e ∷ es) h =
    let first : entry_at m k ≡ Some e = cc in
    let later : AreInterned m ks es = cc in
    ap₂ (λ (x : Option Entry) (l : List (Option Entry)). x ∷ l) (ext k e first) (interned_kept m n ext ks es later)

pub interned_more : (m n : Interning) (ids more : List Id) (id : Id) (es : List Entry) (e : Entry) → AreInterned m (ids_keys ids) es → more ≡ ids ++ (id ∷ []) → entry_at n id.key ≡ Some e → Extends m n → AreInterned n (ids_keys more) (es ++ (e ∷ []))
interned_more m n ids more id es e h noted stands ext =
    ap (λ (l : List Id). map (entry_at n) (ids_keys l)) noted
    ∙ ap (map (entry_at n)) (keys_append ids (id ∷ []))
    ∙ map_append (entry_at n) (ids_keys ids) (id.key ∷ [])
    ∙ ap₂ (λ (l r : List (Option Entry)). l ++ r) (interned_kept m n ext (ids_keys ids) es h) (ap (λ (x : Option Entry). x ∷ []) stands)
    ∙ sym (map_append (λ (x : Entry). Some x) es (e ∷ []))

-- ---- what is picked of ids stands for what is picked of entries

pub picked_interned : (m : Interning) (ks : List ℕ) (es : List Entry) (rect : _) → AreInterned m ks es → AreInterned m (picked_after (shows_in rect) [] es ks) (picked rect es)
picked_interned m ks es rect h =
    pick_mapped (entry_at m) (shows_in rect) [] es ks
    ∙ ap (picked_after (shows_in rect) [] es) h
    ∙ sym (pick_mapped (λ (e : Entry). Some e) (shows_in rect) [] es es)

pub interned_length : (m : Interning) (ks : List ℕ) (es : List Entry) → AreInterned m ks es → length ks ≡ length es
interned_length m [] [] h = refl
interned_length m [] (e ∷ es) h = absurd cc
interned_length m (k ∷ ks) [] h = absurd cc
interned_length m (k ∷ ks) (e ∷ es) h = let later : AreInterned m ks es = cc in ap suc (interned_length m ks es later)

-- ---- ids that a list names

pub named_first : (k : ℕ) (ks : List ℕ) → 0 < times k (k ∷ ks)
named_first k ks = let e = eq_same k k refl in rw e (omega arith)

pub named_later : (q k : ℕ) (ks : List ℕ) → 0 < times q ks → 0 < times q (k ∷ ks)
named_later q k ks h = omega (arith, h)

pub by_named : {P : Type 0} (q k : ℕ) (ks : List ℕ) (b : Bool) → eq_by_cmp nat_cmp q k ≡ b → 0 < times q (k ∷ ks) → (q ≡ k → P) → (0 < times q ks → P) → P
by_named q k ks true e h f g = f (same_eq q k e)
by_named q k ks false e h f g = g (let r : 0 < cond false 1 0 + times q ks = rw e at h in omega (arith, r))

named_held : (m : Interning) (ks : List ℕ) (es : List Entry) → AreInterned m ks es → (q : ℕ) → 0 < times q ks → IsSome (get m q)
named_held m [] es h q n = absurd (omega (arith, n))
named_held m (k ∷ ks) [] h q n = absurd cc
named_held m (k ∷ ks) (e ∷ es) h q n =
    let first : entry_at m k ≡ Some e = cc in
    let later : AreInterned m ks es = cc in
    by_named q k ks (eq_by_cmp nat_cmp q k) refl n (λ s. held_where m q e (ap (entry_at m) s ∙ first)) (λ r. named_held m ks es later q r)

-- each list stands for some entries
abbrev AllStand : Interning → List (List ℕ) → Type 0
AllStand m rs = (i : ℕ) → i < length rs → (es : List Entry) × AreInterned m (get_or rs i []) es

joined_held : (m : Interning) (rs : List (List ℕ)) → AllStand m rs → (q : ℕ) → 0 < times q (joined rs) → IsSome (get m q)
joined_held m [] f q n = absurd (omega (arith, n))
joined_held m (r ∷ rs) f q n =
    let first = f 0 (omega arith) in
    by_part (times q r) refl (named_held m r first.0 first.1 q) (joined_held m rs (λ i h. f (suc i) (omega (arith, h))) q)
  where
    by_part : (c : ℕ) → times q r ≡ c → (0 < times q r → IsSome (get m q)) → (0 < times q (joined rs) → IsSome (get m q)) → IsSome (get m q)
    by_part zero e g h = h (let t = times_append q r (joined rs) in omega (arith, t, e, n))
    by_part (suc c) e g h = g (omega (arith, e))

part_named : (rs : List (List ℕ)) (i q : ℕ) → 0 < times q (get_or rs i []) → 0 < times q (joined rs)
part_named [] i q h = h
part_named (r ∷ rs) zero q h = let t = times_append q r (joined rs) in omega (arith, t, h)
part_named (r ∷ rs) (suc i) q h = let t = times_append q r (joined rs) in let k = part_named rs i q h in omega (arith, t, k)

interned_along : (m n : Interning) (ks : List ℕ) (es : List Entry) → ((q : ℕ) → 0 < times q ks → entry_at n q ≡ entry_at m q) → AreInterned m ks es → AreInterned n ks es
interned_along m n ks es f h = same_along ks f ∙ h
  where
    same_along : (ks : List ℕ) → ((q : ℕ) → 0 < times q ks → entry_at n q ≡ entry_at m q) → map (entry_at n) ks ≡ map (entry_at m) ks
    same_along [] f = refl
    same_along (k ∷ ks) f = ap₂ (λ (x : Option Entry) (l : List (Option Entry)). x ∷ l) (f k (named_first k ks)) (same_along ks (λ q h. f q (named_later q k ks h)))

-- ---- all records

some_columns : (n m k : ℕ) → k < m * n → 0 < n
some_columns zero m k h = let e : m * 0 ≡ 0 = omega arith in absurd (omega (arith, e, h))
some_columns (suc n) m k h = omega arith

module _ (over : Tiles) (es : List Entry) where
  pub records_stand : (m : Interning) (rs : List (List ℕ)) → AreRecordsOf m over rs es → AllStand m rs
  records_stand m rs a i h = (picked (rect_at over (i % columns_of over) (i / columns_of over)) es, a.entries i (subst (λ (n : ℕ). i < n) a.count h))

  -- records by column and row
  pub records_from : (m : Interning) (ks : List ℕ) (rs : List (List ℕ)) → AreInterned m ks es → length rs ≡ rows_of over * columns_of over
      → ((c r : ℕ) → c < columns_of over → r < rows_of over → get_or rs (r * columns_of over + c) [] ≡ picked_after (shows_in (rect_at over c r)) [] es ks) → AreRecordsOf m over rs es
  records_from m ks rs h count f = record {
    count = count;
    entries = λ i w.
        let n = columns_of over in
        let some : 0 < n = some_columns n (rows_of over) i w in
        let e : i / n * n + i % n ≡ i = div-add-mod' i n in
        let g = f (i % n) (i / n) (mod_below i n some) (div_below i n (rows_of over) some w) in
        subst (λ (l : List ℕ). AreInterned m l (picked (rect_at over (i % n) (i / n)) es))
        (sym (ap (λ (j : ℕ). get_or rs j []) (sym e) ∙ g)) (picked_interned m ks es (rect_at over (i % n) (i / n)) h);
  }

  pub record IsMade (old new : Interning) (rs : List (List ℕ)) : Type 0 where
    pub records : AreRecordsOf new over rs es
    pub counts : IsAcquired old new (joined rs)

  pub made : (old m mid new : Interning) (added : List ℕ) (rs : List (List ℕ)) → IsGrown old m added → AreRecordsOf m over rs es → mid ≡ raised_records m rs → new ≡ swept_all mid added → IsMade old new rs
  made old m mid new added rs g a e f =
      let at : new ≡ swept_all (raised_all m (joined rs)) added = f ∙ ap (λ (i : Interning). swept_all i added) (e ∙ raised_records_all rs m) in
      record {
        records = record {
          count = a.count;
          entries = λ i w. interned_along m new (get_or rs i []) _ (λ q h. named_entry m new added (joined rs) at q (part_named rs i q h)) (a.entries i w);
        };
        counts = acquired_in_all old m new added (joined rs) g (joined_held m rs (records_stand m rs a)) at;
      }

-- ---- what callers see

pub entries_are : (m : Interning) (ks : List ℕ) (es : List Entry) → AreInterned m ks es → entries_under m ks ≡ es
entries_are m [] [] h = refl
entries_are m [] (e ∷ es) h = absurd cc
entries_are m (k ∷ ks) [] h = absurd cc
entries_are m (k ∷ ks) (e ∷ es) h =
    let first : entry_at m k ≡ Some e = cc in
    let later : AreInterned m ks es = cc in
    rw first (ap (λ (l : List Entry). e ∷ l) (entries_are m ks es later))

pub all_held : (m : Interning) (ks : List ℕ) → ((q : ℕ) → 0 < times q ks → IsSome (get m q)) → AreHeld m ks
all_held m [] f = All-nil (λ (k : ℕ). IsSome (get m k))
all_held m (k ∷ ks) f = All-cons (λ (j : ℕ). IsSome (get m j)) k ks (f k (named_first k ks)) (all_held m ks (λ q h. f q (named_later q k ks h)))

pub record_held : (m : Interning) (ks : List ℕ) (es : List Entry) → AreInterned m ks es → AreHeld m ks
record_held m ks es h = all_held m ks (named_held m ks es h)

pub records_held : (over : Tiles) (es : List Entry) (m : Interning) (rs : List (List ℕ)) → AreRecordsOf m over rs es → AreHeld m (joined rs)
records_held over es m rs a = all_held m (joined rs) (joined_held m rs (records_stand over es m rs a))

-- ---- one record

sole : (ys : List TileRecord) (r : TileRecord) → length (keys_of_records (ys ++ (r ∷ []))) ≡ 1 → keys_of_records (ys ++ (r ∷ [])) ≡ record_keys r ∷ []
sole [] r h = refl
sole (y ∷ ys) r h = let e = length-map (ys ++ (r ∷ [])) record_keys in let f = length_push ys r in absurd (omega (arith, h, e, f))

pub record IsOneRecord (old new : Interning) (rect : Bounds) (es : List Entry) (r : TileRecord) : Type 0 where
  pub entries : entries_under new (record_keys r) ≡ picked rect es
  pub held : AreHeld new (record_keys r)
  pub counts : IsAcquired old new (record_keys r)
  pub moves : Moves old new [] (record_keys r)

pub one_record : (old new : Interning) (rect : Bounds) (es : List Entry) (rs ys : List TileRecord) (r : TileRecord)
    → AreRecordsOf new (One rect) (keys_of_records rs) es → IsAcquired old new (joined (keys_of_records rs)) → rs ≡ ys ++ (r ∷ []) → IsOneRecord old new rect es r
one_record old new rect es rs ys r a q e =
    let one : keys_of_records rs ≡ record_keys r ∷ [] = ap keys_of_records e ∙ sole ys r (sym (ap (λ (l : List TileRecord). length (keys_of_records l)) e) ∙ a.count) in
    let h : AreInterned new (record_keys r) (picked rect es) = subst (λ (l : List (List ℕ)). AreInterned new (get_or l 0 []) (picked rect es)) one (a.entries 0 (omega arith)) in
    let counts : IsAcquired old new (record_keys r) = subst (IsAcquired old new) (ap joined one ∙ append-nil (record_keys r)) q in
    record { entries = entries_are new (record_keys r) (picked rect es) h; held = record_held new (record_keys r) (picked rect es) h; counts = counts; moves = acquired_moves old new (record_keys r) counts }
