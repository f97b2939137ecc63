-- The bytes of a list, put part by part.
use Rattle.std.proofs.Common.{◌≡◌, ℕ, List, [], ◌∷◌, ◌++◌, OnOk, Result, Ok, Err, sym, ap, subst, ◌∙◌, append_assoc, append-nil}
use Rattle.std.specs.List.{flat_map}
use Rattle.std.proofs.lemmas.List.Concat.{flat_map-append}
use Rattle.display_list.specs.Spelling.{node_bytes, clip_bytes, chain_bytes, token_bytes, spelling}
use Rattle.display_list.specs.declared.token.Token.{Token}
use Rattle.display_list.specs.declared.token.Token.TheVariants as a_token
use Rattle.file_generator.specs.Rolls.{Rolled, roll, rolled_list, IsPut}
use Rattle.file_generator.specs.Lists.{page, rounding, rounded_chain, ground, bar, context, items_of, rolled_square, rolled_overlay, rolled_items, rolled_display_list}

pub on_ok : {X E P Q : Type 0} (r : Result X E) → (P → Q) → OnOk r P → OnOk r Q
on_ok (Ok x) f h = f h
on_ok (Err e) f h = tt

abbrev ends : List Token
ends = a_token.Pop ∷ (bar ∷ [])

items_bytes : (old : List ℕ) (squares overlays : List Token) (mode : ℕ)
    → ((((old ++ token_bytes ground) ++ flat_map token_bytes squares) ++ token_bytes (context mode)) ++ flat_map token_bytes overlays) ++ flat_map token_bytes ends
    ≡ old ++ flat_map token_bytes (items_of squares mode overlays)
items_bytes old squares overlays mode =
    let g = token_bytes ground in
    let s = flat_map token_bytes squares in
    let c = token_bytes (context mode) in
    let o = flat_map token_bytes overlays in
    let e = flat_map token_bytes ends in
    append_assoc (((old ++ g) ++ s) ++ c) o e ∙ append_assoc ((old ++ g) ++ s) c (o ++ e) ∙ append_assoc (old ++ g) s (c ++ (o ++ e)) ∙ append_assoc old g (s ++ (c ++ (o ++ e)))
    ∙ ap (λ (z : List ℕ). old ++ (g ++ z)) (ap (λ (z : List ℕ). s ++ (c ++ z)) (sym (flat_map-append token_bytes overlays ends)) ∙ sym (flat_map-append token_bytes squares (context mode ∷ (overlays ++ ends))))

-- five parts of the items, one after another
pub items_put : (old o1 o2 o3 o4 o5 : List ℕ) (x s1 s2 s3 mode : ℕ)
    → o1 ≡ old ++ token_bytes ground → IsPut (flat_map token_bytes) (rolled_list rolled_square 16) o1 o2 x s1 → roll 9 s1 ≡ record { value = mode; state = s2 }
    → o3 ≡ o2 ++ token_bytes (context mode) → IsPut (flat_map token_bytes) (rolled_list rolled_overlay 4) o3 o4 s2 s3 → o5 ≡ o4 ++ flat_map token_bytes ends
    → IsPut (flat_map token_bytes) rolled_items old o5 x s3
unfolding rolled_items
items_put old o1 o2 o3 o4 o5 x s1 s2 s3 mode e1 squares rolled e3 overlays e5 =
    let first = (rolled_list rolled_square 16 x).value in
    let last = (rolled_list rolled_overlay 4 s2).value in
    let same : roll 9 (rolled_list rolled_square 16 x).state ≡ record { value = mode; state = s2 } = ap (roll 9) (sym squares.state) ∙ rolled in
    let e2 : o2 ≡ (old ++ token_bytes ground) ++ flat_map token_bytes first = squares.out ∙ ap (λ (o : List ℕ). o ++ flat_map token_bytes first) e1 in
    let e4 : o4 ≡ (((old ++ token_bytes ground) ++ flat_map token_bytes first) ++ token_bytes (context mode)) ++ flat_map token_bytes last =
    overlays.out ∙ ap (λ (o : List ℕ). o ++ flat_map token_bytes last) (e3 ∙ ap (λ (o : List ℕ). o ++ token_bytes (context mode)) e2) in
    let bytes : o5 ≡ old ++ flat_map token_bytes (items_of first mode last) = e5 ∙ ap (λ (o : List ℕ). o ++ flat_map token_bytes ends) e4 ∙ items_bytes old first last mode in
    let both =
    subst (λ (r : Rolled ℕ). (o5 ≡ old ++ flat_map token_bytes (items_of first r.value (rolled_list rolled_overlay 4 r.state).value)) × (s3 ≡ (rolled_list rolled_overlay 4 r.state).state))
    (sym same) (bytes, overlays.state) in
    record { out = both.0; state = both.1 }

list_bytes : (old items : List ℕ)
    → ((old ++ (node_bytes page ++ (clip_bytes rounding ++ chain_bytes rounded_chain))) ++ items) ++ (0 ∷ [])
    ≡ old ++ ((node_bytes page ++ []) ++ ((clip_bytes rounding ++ []) ++ ((chain_bytes rounded_chain ++ []) ++ (items ++ (0 ∷ [])))))
list_bytes old items =
    let n = node_bytes page in
    let c = clip_bytes rounding in
    let h = chain_bytes rounded_chain in
    let rest = items ++ (0 ∷ []) in
    append_assoc (old ++ (n ++ (c ++ h))) items (0 ∷ []) ∙ append_assoc old (n ++ (c ++ h)) rest ∙ ap (λ (z : List ℕ). old ++ z) (append_assoc n (c ++ h) rest)
    ∙ ap (λ (z : List ℕ). old ++ (n ++ z)) (append_assoc c h rest)
    ∙ ap (λ (z : List ℕ). old ++ (z ++ (c ++ (h ++ rest)))) (sym (append-nil n)) ∙ ap (λ (z : List ℕ). old ++ ((n ++ []) ++ (z ++ (h ++ rest)))) (sym (append-nil c))
    ∙ ap (λ (z : List ℕ). old ++ ((n ++ []) ++ ((c ++ []) ++ (z ++ rest)))) (sym (append-nil h))

-- the definitions, the items and the End
pub list_put : (old o1 o2 o3 : List ℕ) (x s : ℕ)
    → o1 ≡ old ++ (node_bytes page ++ (clip_bytes rounding ++ chain_bytes rounded_chain)) → IsPut (flat_map token_bytes) rolled_items o1 o2 x s → o3 ≡ o2 ++ (0 ∷ [])
    → IsPut spelling rolled_display_list old o3 x s
list_put old o1 o2 o3 x s e1 items e3 =
    let bytes = flat_map token_bytes (rolled_items x).value in
    record {
      out = e3 ∙ ap (λ (o : List ℕ). o ++ (0 ∷ [])) (items.out ∙ ap (λ (o : List ℕ). o ++ bytes) e1) ∙ list_bytes old bytes;
      state = items.state;
    }
