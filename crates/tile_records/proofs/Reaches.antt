-- Lists of lists to which a number is added.
use Rattle.std.proofs.Common.{◌≡◌, ℕ, zero, suc, ◌<◌, List, [], ◌∷◌, ◌++◌, length, get_or, set, Contains, refl, sym, ap, ◌∙◌, subst, append_assoc}
use Rattle.std.specs.Global.{Vec}
use Rattle.std.proofs.lemmas.List.{map-set, get_or-map, set-set, get_or-set_same}
use Rattle.std.proofs.lemmas.List.Elements.{Contains-append_left, Contains-push}
use Rattle.tile_records.specs.declared.id.Id.{Id}
use Rattle.tile_records.specs.declared.record.TileRecord.{TileRecord}
use Rattle.tile_records.specs.Interning.{ids_keys, record_keys}
use Rattle.tile_records.specs.Passing.{views, keys_of_records}

pub set_views : (xs : List (Vec ℕ)) (i : ℕ) (v x : Vec ℕ) (n : ℕ) → i < length xs → x ≡ get_or xs i x → v.items ≡ x.items ++ (n ∷ [])
    → views (set xs i v) ≡ set (views xs) i (get_or (views xs) i [] ++ (n ∷ []))
set_views xs i v x n within r e =
    map-set (λ (w : Vec ℕ). w.items) xs i v
    ∙ ap (set (views xs) i) (e ∙ ap (λ (l : List ℕ). l ++ (n ∷ [])) (ap (λ (w : Vec ℕ). w.items) r ∙ sym (get_or-map (λ (w : Vec ℕ). w.items) xs i x [] within)))

pub keys_append : (xs ys : List Id) → ids_keys (xs ++ ys) ≡ ids_keys xs ++ ids_keys ys
keys_append [] ys = refl
keys_append (x ∷ xs) ys = ap (λ (l : List ℕ). x.key ∷ l) (keys_append xs ys)

-- the same of records and of keys
pub set_records : (xs : List TileRecord) (i : ℕ) (v x : TileRecord) (n : Id) → i < length xs → x ≡ get_or xs i x → v.ids.items ≡ x.ids.items ++ (n ∷ [])
    → keys_of_records (set xs i v) ≡ set (keys_of_records xs) i (get_or (keys_of_records xs) i [] ++ (n.key ∷ []))
set_records xs i v x n within r e =
    map-set record_keys xs i v
    ∙ ap (set (keys_of_records xs) i) (ap ids_keys e ∙ keys_append x.ids.items (n ∷ [])
    ∙ ap (λ (l : List ℕ). l ++ (n.key ∷ [])) (ap record_keys r ∙ sym (get_or-map record_keys xs i x [] within)))

-- one number more, and then the rest
pub set_more : (xs : List (List ℕ)) (t n : ℕ) (rest : List ℕ) → t < length xs
    → set (set xs t (get_or xs t [] ++ (n ∷ []))) t (get_or (set xs t (get_or xs t [] ++ (n ∷ []))) t [] ++ rest) ≡ set xs t (get_or xs t [] ++ (n ∷ rest))
set_more xs t n rest within =
    set-set xs t (get_or xs t [] ++ (n ∷ [])) _
    ∙ ap (set xs t) (ap (λ (l : List ℕ). l ++ rest) (get_or-set_same xs t (get_or xs t [] ++ (n ∷ [])) [] within) ∙ append_assoc (get_or xs t []) (n ∷ []) rest)

pub still_known : (rs : List (List ℕ)) (d t j k : ℕ) → Contains (get_or rs j []) k → Contains (get_or (set rs d (get_or rs d [] ++ (t ∷ []))) j []) k
still_known [] d t j k h = h
still_known (r ∷ rs) zero t zero k h = Contains-append_left r (t ∷ []) k h
still_known (r ∷ rs) zero t (suc j) k h = h
still_known (r ∷ rs) (suc d) t zero k h = h
still_known (r ∷ rs) (suc d) t (suc j) k h = still_known rs d t j k h

pub now_known : (rs : List (List ℕ)) (d t : ℕ) → d < length rs → Contains (get_or (set rs d (get_or rs d [] ++ (t ∷ []))) d []) t
now_known rs d t h = subst (λ (l : List ℕ). Contains l t) (sym (get_or-set_same rs d (get_or rs d [] ++ (t ∷ [])) [] h)) (Contains-push (get_or rs d []) t)
