-- A tile that gets the groups that it lacks and a primitive.
use Rattle.std.proofs.Common.{◌≡◌, ◌≢◌, ◌⊎◌, inl, inr, ℕ, ◌+◌, ◌<◌, ◌≤◌, List, [], ◌∷◌, ◌++◌, length, get_or, set, drop, Contains, refl, sym, ap, ◌∙◌, subst, append_assoc, arith}
use Rattle.std.proofs.lemmas.List.{set-set, get_or-set_same, get_or-set_other, length-set, drop_more}
use Rattle.tile_records.specs.Passing.{TileState, State, IsSoundPass, HasFilled, HasDrawn, drawn, tile_of}
use Rattle.tile_records.proofs.Reaches.{set_more, still_known, now_known}

abbrev tile : List ℕ → ℕ → TileState
tile l d = record { list = l; depth = d }

pub same_tile : (l m : List ℕ) (d e : ℕ) → l ≡ m → d ≡ e → tile l d ≡ tile m e
same_tile l m d e p q = ap (λ (x : List ℕ). tile x d) p ∙ ap (tile m) q

pub below_or : (j d : ℕ) → j < d + 1 → (j < d) ⊎ (j ≡ d)
below_or j d h = grind arith

pub at_or : (j d : ℕ) → (j ≡ d) ⊎ (j ≢ d)
at_or j d = grind arith

pub low_or : (j d : ℕ) → (j < d) ⊎ (d ≤ j)
low_or j d = grind arith

-- the loop's step on lists
pub list_step : (ls new : List (List ℕ)) (t d : ℕ) (groups : List ℕ) → t < length ls → d < length groups
    → new ≡ set ls t (get_or ls t [] ++ (get_or groups d 0 ∷ []))
    → set new t (get_or new t [] ++ drop (d + 1) groups) ≡ set ls t (get_or ls t [] ++ drop d groups)
list_step ls new t d groups h k e =
    ap (λ (x : List (List ℕ)). set x t (get_or x t [] ++ drop (d + 1) groups)) e
    ∙ set_more ls t (get_or groups d 0) (drop (d + 1) groups) h
    ∙ ap (λ (r : List ℕ). set ls t (get_or ls t [] ++ r)) (sym (drop_more groups d 0 k))

pub told_step : (rs new : List (List ℕ)) (from d t : ℕ) → d < length rs → new ≡ set rs d (get_or rs d [] ++ (t ∷ []))
    → ((j : ℕ) → from ≤ j → j < d → Contains (get_or rs j []) t)
    → (j : ℕ) → from ≤ j → j < d + 1 → Contains (get_or new j []) t
told_step rs new from d t h e old j a b = elim (below_or j d b) [
  | inl x ↦ subst (λ (r : List (List ℕ)). Contains (get_or r j []) t) (sym e) (still_known rs d t j t (old j a x))
  | inr x ↦ subst (λ (i : ℕ). Contains (get_or new i []) t) (sym x) (subst (λ (r : List (List ℕ)). Contains (get_or r d []) t) (sym e) (now_known rs d t h))
]

pub more_step : (rs new : List (List ℕ)) (d t j k : ℕ) → new ≡ set rs d (get_or rs d [] ++ (t ∷ [])) → Contains (get_or rs j []) k → Contains (get_or new j []) k
more_step rs new d t j k e h = subst (λ (r : List (List ℕ)). Contains (get_or r j []) k) (sym e) (still_known rs d t j k h)

entered_lists : (ls mid new : List (List ℕ)) (t n : ℕ) (missing : List ℕ) → t < length ls → mid ≡ set ls t (get_or ls t [] ++ missing) → new ≡ set mid t (get_or mid t [] ++ (n ∷ []))
    → new ≡ set ls t (get_or ls t [] ++ (missing ++ (n ∷ [])))
entered_lists ls mid new t n missing h e f =
    f ∙ ap (λ (x : List (List ℕ)). set x t (get_or x t [] ++ (n ∷ []))) e
    ∙ set-set ls t (get_or ls t [] ++ missing) _
    ∙ ap (set ls t) (ap (λ (l : List ℕ). l ++ (n ∷ [])) (get_or-set_same ls t (get_or ls t [] ++ missing) [] h) ∙ append_assoc (get_or ls t []) missing (n ∷ []))

-- whatever a set cell is, and what each other cell is
set_cases : {A : Type 0} (P : A → Type 0) (xs : List A) (i : ℕ) (a d : A) (k : ℕ) → i < length xs → (k ≡ i → P a) → (k ≢ i → P (get_or xs k d)) → P (get_or (set xs i a) k d)
set_cases P xs i a d k h here there = elim (at_or k i) [
  | inl e ↦ subst (λ j. P (get_or (set xs i a) j d)) (sym e) (subst P (sym (get_or-set_same xs i a d h)) (here e))
  | inr n ↦ subst P (sym (get_or-set_other xs i k a d n)) (there n)
]

pub enter_law : (old : State) (t n : ℕ) (mid new reached : List (List ℕ)) → IsSoundPass old → t < length old.lists
    → HasFilled old.groups (get_or old.entered t 0) t old.lists old.reached mid reached
    → new ≡ set mid t (get_or mid t [] ++ (n ∷ []))
    → HasDrawn t (t + 1) n old (record { lists = new; entered = set old.entered t (length old.groups); groups = old.groups; reached = reached })
enter_law old t n mid new reached s h f e =
    let l : new ≡ set old.lists t (get_or old.lists t [] ++ (drop (get_or old.entered t 0) old.groups ++ (n ∷ []))) = entered_lists old.lists mid new t n (drop (get_or old.entered t 0) old.groups) h f.list e in
    let within : t < length old.entered = subst (λ m. t < m) (sym s.sides) h in
    let other : (k : ℕ) → k ≢ t → tile_of (record { lists = new; entered = set old.entered t (length old.groups); groups = old.groups; reached = reached }) k ≡ tile_of old k =
    (λ k ne. same_tile _ _ _ _ (ap (λ (x : List (List ℕ)). get_or x k []) l ∙ get_or-set_other old.lists t k _ [] ne) (get_or-set_other old.entered t k _ 0 ne)) in
    record {
      hit = λ k a b. let e : t ≡ k = omega (arith, a, b) in subst (λ i. tile_of (record { lists = new; entered = set old.entered t (length old.groups); groups = old.groups; reached = reached }) i ≡ drawn old.groups n (tile_of old i)) e
          (same_tile _ _ _ _ (ap (λ (x : List (List ℕ)). get_or x t []) l ∙ get_or-set_same old.lists t _ [] h) (get_or-set_same old.entered t _ 0 within));
      below = λ k a. other k (omega (arith, a));
      above = λ k a. other k (omega (arith, a));
      groups = refl;
      sides = ap length l ∙ length-set old.lists t _;
      sound = record {
        sides = length-set old.entered t _ ∙ s.sides ∙ sym (ap length l ∙ length-set old.lists t _);
        depths = f.sides ∙ s.depths;
        below = λ k. set_cases (λ m. m ≤ length old.groups) old.entered t (length old.groups) 0 k within (λ _. omega arith) (λ _. s.below k);
        known = λ k i. set_cases (λ m. i < m → Contains (get_or reached i []) k) old.entered t (length old.groups) 0 k within
            (λ same b. subst (λ x. Contains (get_or reached i []) x) (sym same) (elim (low_or i (get_or old.entered t 0)) [ inl x ↦ f.more i t (s.known t i x) | inr x ↦ f.told i x b ]))
            (λ _ b. f.more i k (s.known k i b));
      };
    }

pub enter_by : (old : State) (t n from d : ℕ) (groups : List ℕ) (mid new reached : List (List ℕ)) → IsSoundPass old → t < length old.lists
    → groups ≡ old.groups → from ≡ get_or old.entered t 0 → d ≡ length old.groups
    → HasFilled groups from t old.lists old.reached mid reached
    → new ≡ set mid t (get_or mid t [] ++ (n ∷ []))
    → HasDrawn t (t + 1) n old (record { lists = new; entered = set old.entered t d; groups = old.groups; reached = reached })
enter_by old t n from d groups mid new reached s h p q w f e =
    subst (λ (m : ℕ). HasDrawn t (t + 1) n old (record { lists = new; entered = set old.entered t m; groups = old.groups; reached = reached })) (sym w)
    (enter_law old t n mid new reached s h
    (subst (λ (m : ℕ). HasFilled old.groups m t old.lists old.reached mid reached) q (subst (λ (g : List ℕ). HasFilled g from t old.lists old.reached mid reached) p f)) e)

pub draw_none : (a n : ℕ) (s : State) → IsSoundPass s → HasDrawn a a n s s
draw_none a n s h = record { hit = λ k x y. let bad : ⊥ = omega (arith, x, y) in absurd bad; below = λ k x. refl; above = λ k x. refl; groups = refl; sides = refl; sound = h }

pub draw_more : (a i n : ℕ) (old mid new : State) → a ≤ i → HasDrawn a i n old mid → HasDrawn i (i + 1) n mid new → HasDrawn a (i + 1) n old new
draw_more a i n old mid new o d e = record {
  hit = λ k x y. elim (below_or k i y) [
    | inl z ↦ e.below k z ∙ d.hit k x z
    | inr z ↦ e.hit k (omega (arith, z)) y ∙ ap (λ (g : List ℕ). drawn g n (tile_of mid k)) d.groups ∙ ap (drawn old.groups n) (d.above k (omega (arith, z)))
  ];
  below = λ k x. e.below k (omega (arith, x, o)) ∙ d.below k x;
  above = λ k x. e.above k x ∙ d.above k (omega (arith, x));
  groups = e.groups ∙ d.groups;
  sides = e.sides ∙ d.sides;
  sound = e.sound;
}
