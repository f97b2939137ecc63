-- A finite map that is made of the entries of a `BTreeMap`.
use Rattle.std.proofs.Common.{T, length, subst, arith, Option, MutBor, Bool, true, false, ◌≡◌, ◌&&◌, cond, List, [], ◌∷◌, Some, None, Ordering, Less, refl, sym, ap, ◌∙◌}
use Rattle.std.proofs.lemmas.List.Elements.{recursion_from_All}
use Rattle.std.proofs.lemmas.Map.Keys.{sorted_tail}
use Rattle.std.proofs.lemmas.Map.Views.{All-after_first}
use Rattle.std.specs.BTreeMap.{is_at}
use Rattle.std.specs.Cmp.{IsTotalOrder, eq_by_cmp_equiv, tied_itself}
use Rattle.std.specs.FinMap.{IsAntisymmetric, find, get, insert, remove, empty, entries, len, len-entries, get-empty, from_entries, from_sorted, is_sorted, entries-from_sorted, get-from_sorted, get-from_entries, get-insert, get-remove, same_map}
use Rattle.std.specs.FinMap.Entries.{below_all}
use Rattle.std.specs.List.{AllByRecursion}
use Rattle.std.specs.List.Sorted.{IsStrictlySortedBy}
use Rattle.std.specs.Map.{lookup, keys_of}
use Rattle.std.specs.Option.{option_copied_mut, IsSome, OnSome}
use Rattle.std.specs.Ordering.{is_eq, is_lt}

lookup_is : {K V : Type 0} (R : K → K → Ordering) (es : List (K × V)) (q : K) → find R q es ≡ lookup (is_at (R q)) es
lookup_is R [] q = refl
lookup_is R (e ∷ es) q = ap (cond (is_at (R q) e.0) (Some e.1)) (lookup_is R es q)

-- what the map that the entries make has at a key
pub get_is : {K V : Type 0} (R : K → K → Ordering) → IsTotalOrder R → (es : List (K × V)) (q : K) → get (from_entries {R = R} es) q ≡ lookup (is_at (R q)) es
get_is R o es q = get-from_entries o es q ∙ lookup_is R es q

-- entries that differ at one key make maps that differ there
pub inserted : {K V : Type 0} (R : K → K → Ordering) → IsTotalOrder R → IsAntisymmetric R → (es fs : List (K × V)) (k : K) (v : V)
    → ((q : K) → lookup (is_at (R q)) fs ≡ cond (is_at (R k) q) (Some v) (lookup (is_at (R q)) es)) → from_entries {R = R} fs ≡ insert (from_entries es) k v
inserted R o exact es fs k v h = same_map o exact _ _ (λ q.
    get_is R o fs q ∙ h q ∙ ap (λ b. cond b (Some v) (lookup (is_at (R q)) es)) ((eq_by_cmp_equiv o).symm k q)
    ∙ sym (get-insert o (from_entries es) k v q ∙ ap (cond (is_at (R q) k) (Some v)) (get_is R o es q)))

pub removed : {K V : Type 0} (R : K → K → Ordering) → IsTotalOrder R → IsAntisymmetric R → (es fs : List (K × V)) (k : K)
    → ((q : K) → lookup (is_at (R q)) fs ≡ cond (is_at (R k) q) None (lookup (is_at (R q)) es)) → from_entries {R = R} fs ≡ remove (from_entries es) k
removed R o exact es fs k h = same_map o exact _ _ (λ q.
    get_is R o fs q ∙ h q ∙ ap (λ b. cond b None (lookup (is_at (R q)) es)) ((eq_by_cmp_equiv o).symm k q)
    ∙ sym (get-remove o (from_entries es) k q ∙ ap (cond (is_at (R q) k) None) (get_is R o es q)))

both : (a b : Bool) → T a → T b → T (a && b)
both true b p q = q
both false b p q = p

below : {K V : Type 0} (R : K → K → Ordering) (k : K) (es : List (K × V)) → AllByRecursion (λ y. R k y ≡ Less) (keys_of es) → T (below_all R k es)
below R k [] h = tt
below R k (e ∷ es) h = both _ _ (subst (λ r. T (is_lt r)) (sym h.0) tt) (below R k es h.1)

in_order : {K V : Type 0} (R : K → K → Ordering) (es : List (K × V)) → IsStrictlySortedBy R (keys_of es) → T (is_sorted R es)
in_order R [] h = tt
in_order R (e ∷ es) h =
    both _ _ (below R e.0 es (recursion_from_All _ _ (All-after_first R e.0 (keys_of es) h))) (in_order R es (sorted_tail R e.0 (keys_of es) h))

-- entries whose keys rise are those of the map that they make
pub entries_are : {K V : Type 0} (R : K → K → Ordering) → IsTotalOrder R → IsAntisymmetric R → (es : List (K × V))
    → IsStrictlySortedBy R (keys_of es) → entries (from_entries {R = R} es) ≡ es
entries_are R o exact es h =
    let sorted = in_order R es h in
    ap entries (same_map o exact (from_entries {R = R} es) (from_sorted es) (λ q. get-from_entries o es q ∙ sym (get-from_sorted R es q sorted)))
    ∙ entries-from_sorted R es sorted

-- what holds where a look-up finds something holds where it lent something
pub where_some : {A : Type 0} (r : Option (MutBor A)) (f : Option A) (P : Type 0) → option_copied_mut r ≡ f → (IsSome f → P) → OnSome r P
where_some None f P e k = tt
where_some (Some x) f P e k = k (subst IsSome e refl)

-- their number
pub number_is : {K V : Type 0} (R : K → K → Ordering) → IsTotalOrder R → IsAntisymmetric R → (es : List (K × V))
    → IsStrictlySortedBy R (keys_of es) → len (from_entries {R = R} es) ≡ length es
number_is R o exact es h = len-entries (from_entries es) ∙ ap length (entries_are R o exact es h)

pub empty_where_none : {K V : Type 0} (R : K → K → Ordering) (es : List (K × V)) → length es ≡ 0 → from_entries {R = R} es ≡ empty
empty_where_none R [] h = refl
empty_where_none R (e ∷ es) h = absurd (omega arith)

pub none_where_empty : {K V : Type 0} (R : K → K → Ordering) → IsTotalOrder R → (es : List (K × V)) → from_entries {R = R} es ≡ empty → length es ≡ 0
none_where_empty R o [] h = refl
none_where_empty R o (e ∷ es) h =
    let found : get (from_entries {R = R} (e ∷ es)) e.0 ≡ Some e.1 = get-from_entries o (e ∷ es) e.0 ∙ ap (λ r. cond (is_eq r) (Some e.1) (find R e.0 es)) (tied_itself o e.0) in
    let lost : get (from_entries {R = R} (e ∷ es)) e.0 ≡ None = ap (λ m. get m e.0) h ∙ get-empty R e.0 in
    cc
