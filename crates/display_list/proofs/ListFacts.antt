-- What is spelled meets each check in a list's own terms, and what meets them is spelled.
use Rattle.std.proofs.Common.{◌≡◌, ℕ, ◌+◌, ◌<◌, ◌≤◌, Bool, true, false, List, [], ◌∷◌, ◌++◌, length, map, get_or, Option, Some, None, refl, sym, ap, subst, ◌∙◌, append_assoc, arith, inl, inr, ◌⊎◌}
use Rattle.std.specs.Prelude.{All, IsTrue, slice_index, slice_index_or}
use Rattle.std.specs.List.{AllPairs, fold, list_any}
use Rattle.std.proofs.Math.ListN.{get_or-append}
use Rattle.std.proofs.Math.Seq.{get_or-append_seam}
use Rattle.std.proofs.lemmas.List.{append-nil, length-append}
use Rattle.std.proofs.lemmas.List.Elements.{All-push, All-weaker, All-nil, All-head, All-tail}
use Rattle.std.proofs.lemmas.List.Folds.{list_any_none, list_any_at}
use Rattle.std.proofs.lemmas.List.Quantifiers.{all_pairs_push}
use Rattle.std.proofs.lemmas.List.Sums.{fold-append}
use Rattle.field_forms.specs.Facts.{IsDefined, IsReference, IsOptionalReference}
use Rattle.display_list.specs.declared.node.Node.{Node}
use Rattle.display_list.specs.declared.node.Node.TheVariants as node
use Rattle.display_list.specs.declared.node.ClipDef.{ClipDef}
use Rattle.display_list.specs.declared.node.ChainDef.{ChainDef}
use Rattle.display_list.specs.declared.token.Token.{Token}
use Rattle.display_list.specs.declared.token.Token.TheVariants as token
use Rattle.display_list.specs.declared.token.Part.{Part}
use Rattle.display_list.specs.declared.token.Part.TheVariants as part
use Rattle.display_list.specs.declared.token.Section.{Section}
use Rattle.display_list.specs.declared.token.Section.TheVariants.{Nodes, Clips, Chains, Items}
use Rattle.display_list.specs.ListModel.{ListModel}
use Rattle.display_list.specs.Levels.{parent_of, has_scroll, share_scroll, with_level, levels_of, inherited, with_total, totals_of, depth_after, MayNest, Nests}
use Rattle.display_list.specs.PartialList.{PartialList, start, after, after_all, list_of, takes_nodes, takes_clips, takes_chains}
use Rattle.display_list.specs.Facts.{EachAt, IsNode, AreNodes, IsClip, AreClips, AreChains, IsToken, IsList}
use Rattle.display_list.specs.Following.{IsNewScroll, NamesFrom, NodeFollows, ClipFollows, ChainFollows, ItemFollows, CanFollow, AllFollow}
use Rattle.display_list.specs.Grammar.{IsSpelled}
use Rattle.display_list.specs.Counts.{HasFewGlyphs}
use Rattle.display_list.proofs.Lists.{made_of, all_bytes, spells_parts}
use Rattle.display_list.proofs.Spellings.{IsOrdered, then_clips, then_chains, starts_ordered, ordered_after}

-- ---- of lists of any members

each_push : {A : Type 0} (P : ℕ → A → Type 0) (xs : List A) (x : A) → EachAt P xs → P (length xs) x → EachAt P (xs ++ x ∷ [])
each_push P xs x h p k d lt = by_place (k_cases k (length xs) (omega (arith, length-append xs (x ∷ []))))
  where
    k_cases : (i n : ℕ) → i < n + 1 → (i < n) ⊎ (i ≡ n)
    k_cases i n l = grind arith

    by_place : (k < length xs) ⊎ (k ≡ length xs) → P k (slice_index_or (xs ++ x ∷ []) k d)
    by_place (inl l) = subst (P k) (sym (get_or-append xs (x ∷ []) d k l)) (h k d l)
    by_place (inr e) = subst (λ (i : ℕ). P i (slice_index_or (xs ++ x ∷ []) i d)) (sym e) (subst (P (length xs)) (sym (get_or-append_seam xs x [] d)) p)

each_at : {A : Type 0} (P : ℕ → A → Type 0) (xs : List A) (x : A) (ys : List A) → EachAt P (xs ++ x ∷ ys) → P (length xs) x
each_at P xs x ys h =
    subst (P (length xs)) (get_or-append_seam xs x ys x) (h (length xs) x (omega (arith, length-append xs (x ∷ ys))))

all_at : {A : Type 0} (P : A → Type 0) (xs : List A) (x : A) (ys : List A) → All P (xs ++ x ∷ ys) → P x
all_at P xs x ys h = subst P (get_or-append_seam xs x ys x) (h (length xs) x (omega (arith, length-append xs (x ∷ ys))))

all_before : {A : Type 0} (P : A → Type 0) (xs ys : List A) → All P (xs ++ ys) → All P xs
all_before P xs ys h k d lt = subst P (get_or-append xs ys d k lt) (h k d (omega (arith, length-append xs ys)))

not_any : {A : Type 0} (p : A → Bool) (xs : List A) → list_any p xs ≡ false → (k : ℕ) (d : A) → k < length xs → p (get_or xs k d) ≡ false
not_any p xs h k d lt = by_test (p (get_or xs k d)) refl
  where
    by_test : (b : Bool) → p (get_or xs k d) ≡ b → p (get_or xs k d) ≡ false
    by_test false e = e
    by_test true e = let t = list_any_at p xs k d lt e in absurd cc

-- ---- levels and totals

levels_push : (nodes : List Node) (n : Node) → levels_of (nodes ++ n ∷ []) ≡ with_level (levels_of nodes) n
unfolding levels_of
levels_push nodes n = fold-append with_level (0 ∷ []) nodes (n ∷ [])

fold_levels-length : (levels : List ℕ) (nodes : List Node) → length (fold with_level levels nodes) ≡ length levels + length nodes
fold_levels-length levels [] = omega arith
fold_levels-length levels (n ∷ nodes) = omega (arith, fold_levels-length (with_level levels n) nodes, length-append levels ((slice_index levels (parent_of n) + 1) ∷ []))

levels-length : (nodes : List Node) → length (levels_of nodes) ≡ length nodes + 1
unfolding levels_of
levels-length nodes = let one : List ℕ = 0 ∷ [] in omega (arith, fold_levels-length one nodes)

-- levels only grow at their end
fold_levels : (levels : List ℕ) (nodes : List Node) → (more : List ℕ) × (fold with_level levels nodes ≡ levels ++ more)
fold_levels levels [] = ([], sym (append-nil levels))
fold_levels levels (n ∷ nodes) =
    let one : List ℕ = (slice_index levels (parent_of n) + 1) ∷ [] in
    let h = fold_levels (with_level levels n) nodes in
    (one ++ h.0, h.1 ∙ append_assoc levels one h.0)

-- the level of a node among others
level_at : (P : ℕ → Type 0) (nodes : List Node) (n : Node) (more : List Node) → All P (levels_of (nodes ++ n ∷ more)) → P (slice_index (levels_of nodes) (parent_of n) + 1)
unfolding levels_of
level_at P nodes n more h =
    let levels = levels_of nodes in
    let split : fold with_level (0 ∷ []) (nodes ++ n ∷ more) ≡ fold with_level (with_level levels n) more = fold-append with_level (0 ∷ []) nodes (n ∷ more) in
    let g = fold_levels (with_level levels n) more in
    all_at P levels (slice_index levels (parent_of n) + 1) [] (all_before P (with_level levels n) g.0 (subst (All P) (split ∙ g.1) h))

totals_push : (chains : List ChainDef) (c : ChainDef) → totals_of (chains ++ c ∷ []) ≡ with_total (totals_of chains) c
unfolding totals_of
totals_push chains c = fold-append with_total [] chains (c ∷ [])

fold_totals-length : (totals : List ℕ) (chains : List ChainDef) → length (fold with_total totals chains) ≡ length totals + length chains
fold_totals-length totals [] = omega arith
fold_totals-length totals (c ∷ chains) = omega (arith, fold_totals-length (with_total totals c) chains, length-append totals ((inherited totals c.parent + length c.clips) ∷ []))

totals-length : (chains : List ChainDef) → length (totals_of chains) ≡ length chains
unfolding totals_of
totals-length chains = let none : List ℕ = [] in omega (arith, fold_totals-length none chains)

fold_totals : (totals : List ℕ) (chains : List ChainDef) → (more : List ℕ) × (fold with_total totals chains ≡ totals ++ more)
fold_totals totals [] = ([], sym (append-nil totals))
fold_totals totals (c ∷ chains) =
    let one : List ℕ = (inherited totals c.parent + length c.clips) ∷ [] in
    let h = fold_totals (with_total totals c) chains in
    (one ++ h.0, h.1 ∙ append_assoc totals one h.0)

total_at : (P : ℕ → Type 0) (chains : List ChainDef) (c : ChainDef) (more : List ChainDef) → All P (totals_of (chains ++ c ∷ more)) → P (inherited (totals_of chains) c.parent + length c.clips)
unfolding totals_of
total_at P chains c more h =
    let totals = totals_of chains in
    let split : fold with_total [] (chains ++ c ∷ more) ≡ fold with_total (with_total totals c) more = fold-append with_total [] chains (c ∷ more) in
    let g = fold_totals (with_total totals c) more in
    all_at P totals (inherited totals c.parent + length c.clips) [] (all_before P (with_total totals c) g.0 (subst (All P) (split ∙ g.1) h))

nests_push : (a b : ℕ) (ts : List Token) (t : Token) → Nests a ts b → MayNest b t → Nests a (ts ++ t ∷ []) (depth_after b t)
nests_push a b [] t e h = (subst (λ (d : ℕ). MayNest d t) (sym e) h, ap (λ (d : ℕ). depth_after d t) e)
nests_push a b (u ∷ ts) t h k = (h.0, nests_push (depth_after a u) b ts t h.1 k)

-- ---- what was read meets the checks

pub record Meets (s : PartialList) : Type 0 where
  pub levels : s.levels ≡ levels_of s.nodes
  pub totals : s.totals ≡ totals_of s.chains
  pub nodes : AreNodes s.nodes
  pub clips : AreClips (length s.nodes + 1) s.clips
  pub chains : AreChains (length s.clips) s.chains
  pub each : All (IsToken (length s.nodes + 1) (length s.chains)) s.items
  pub nested : Nests 0 s.items s.depth
  pub ordered : IsOrdered s

no_nodes : AreNodes []
unfolding levels_of
no_nodes = record {
  count = omega arith;
  parents = λ k d lt. absurd (omega arith);
  levels = All-push (λ level. level ≤ 64) [] 0 (All-nil (λ level. level ≤ 64)) (omega arith);
  scrolls = λ i j d lt le. absurd (omega arith);
  each = All-nil IsNode;
}

no_clips : (n : ℕ) → AreClips n []
no_clips n = record { count = omega arith; each = All-nil (IsClip n) }

no_chains : (n : ℕ) → AreChains n []
unfolding totals_of
no_chains n = record {
  count = omega arith;
  parents = λ k d lt. absurd (omega arith);
  totals = All-nil (λ total. total ≤ 255);
  each = All-nil (λ c. All (λ k. k < n) c.clips);
}

start_meets : Meets start
unfolding levels_of totals_of
start_meets = record {
  levels = refl;
  totals = refl;
  nodes = no_nodes;
  clips = no_clips _;
  chains = no_chains _;
  each = All-nil (IsToken _ _);
  nested = refl;
  ordered = starts_ordered;
}

apart : (nodes : List Node) (n : Node) → IsNewScroll nodes n → (k : ℕ) (d : Node) → k < length nodes → share_scroll (get_or nodes k d) n ≡ false
apart nodes (node.Reference p x y o) h k d lt = refl
apart nodes (node.Scroll p sid vw vh cw ch) h k d lt = not_any (has_scroll sid) nodes h k d lt

node_meets : (s : PartialList) (n : Node) → Meets s → NodeFollows s n → AreNodes (s.nodes ++ n ∷ [])
node_meets s n h f =
    let m = h.nodes in
    let long : length s.levels ≡ length s.nodes + 1 = ap (λ (o : List ℕ). length o) h.levels ∙ levels-length s.nodes in
    let level : slice_index (levels_of s.nodes) (parent_of n) < 64 = subst (λ (o : List ℕ). slice_index o (parent_of n) < 64) h.levels f.level in
    let room = f.room in
    let defined = f.parent.defined in
    record {
      count = omega (arith, length-append s.nodes (n ∷ []));
      parents = each_push (λ k o. parent_of o ≤ k) s.nodes n m.parents (omega arith);
      levels = subst (All (λ k. k ≤ 64)) (sym (levels_push s.nodes n)) (All-push (λ k. k ≤ 64) (levels_of s.nodes) (slice_index (levels_of s.nodes) (parent_of n) + 1) m.levels (omega arith));
      scrolls = all_pairs_push (λ a b. share_scroll a b ≡ false) s.nodes n m.scrolls (apart s.nodes n f.new);
      each = All-push IsNode s.nodes n m.each f.fields;
    }

after_node : (s : PartialList) (n : Node) → Meets s → NodeFollows s n → Meets (after s (part.Node n))
after_node s n h f =
    let o = h.ordered in
    let clips : s.clips ≡ [] = o.clips f.section in
    let chains : s.chains ≡ [] = o.chains (then_clips s.section f.section) in
    let items : s.items ≡ [] = o.items (then_chains s.section (then_clips s.section f.section)) in
    record {
      levels = ap (λ (ls : List ℕ). with_level ls n) h.levels ∙ sym (levels_push s.nodes n);
      totals = h.totals;
      nodes = node_meets s n h f;
      clips = subst (AreClips (length (s.nodes ++ n ∷ []) + 1)) (sym clips) (no_clips _);
      chains = h.chains;
      each = subst (All (IsToken (length (s.nodes ++ n ∷ []) + 1) (length s.chains))) (sym items) (All-nil (IsToken _ _));
      nested = h.nested;
      ordered = ordered_after 0 s (part.Node n) o f;
    }

after_clip : (s : PartialList) (c : ClipDef) → Meets s → ClipFollows s c → Meets (after s (part.Clip c))
after_clip s c h f =
    let o = h.ordered in
    let m = h.clips in
    let long : length s.levels ≡ length s.nodes + 1 = ap (λ (ls : List ℕ). length ls) h.levels ∙ levels-length s.nodes in
    let chains : s.chains ≡ [] = o.chains f.section in
    let room = f.room in
    record {
      levels = h.levels;
      totals = h.totals;
      nodes = h.nodes;
      clips = record {
        count = omega (arith, length-append s.clips (c ∷ []));
        each = All-push (IsClip (length s.nodes + 1)) s.clips c m.each (subst (λ (k : ℕ). IsClip k c) long f.clip);
      };
      chains = subst (AreChains (length (s.clips ++ c ∷ []))) (sym chains) (no_chains _);
      each = h.each;
      nested = h.nested;
      ordered = ordered_after 0 s (part.Clip c) o f;
    }

defined_below : (n m : ℕ) (o : Option ℕ) → n ≡ m → IsOptionalReference n o → IsDefined m o
defined_below n m None e h = tt
defined_below n m (Some k) e h = subst (λ (j : ℕ). k < j) e h.0.defined

after_chain : (s : PartialList) (c : ChainDef) → Meets s → ChainFollows s c → Meets (after s (part.Chain c))
after_chain s c h f =
    let o = h.ordered in
    let m = h.chains in
    let long : length s.totals ≡ length s.chains = ap (λ (ts : List ℕ). length ts) h.totals ∙ totals-length s.chains in
    let items : s.items ≡ [] = o.items f.section in
    let total : inherited (totals_of s.chains) c.parent + length c.clips ≤ 255 = subst (λ (ts : List ℕ). inherited ts c.parent + length c.clips ≤ 255) h.totals f.total in
    let room = f.room in
    record {
      levels = h.levels;
      totals = ap (λ (ts : List ℕ). with_total ts c) h.totals ∙ sym (totals_push s.chains c);
      nodes = h.nodes;
      clips = h.clips;
      chains = record {
        count = omega (arith, length-append s.chains (c ∷ []));
        parents = each_push (λ k d. IsDefined k d.parent) s.chains c m.parents (defined_below (length s.totals) (length s.chains) c.parent long f.parent);
        totals = subst (All (λ k. k ≤ 255)) (sym (totals_push s.chains c)) (All-push (λ k. k ≤ 255) (totals_of s.chains) (inherited (totals_of s.chains) c.parent + length c.clips) m.totals total);
        each = All-push (λ d. All (λ k. k < length s.clips) d.clips) s.chains c m.each (All-weaker (IsReference (length s.clips)) (λ k. k < length s.clips) (λ k r. r.defined) c.clips f.clips);
      };
      each = subst (All (IsToken (length s.nodes + 1) (length (s.chains ++ c ∷ [])))) (sym items) (All-nil (IsToken _ _));
      nested = h.nested;
      ordered = ordered_after 0 s (part.Chain c) o f;
    }

after_item : (s : PartialList) (t : Token) → Meets s → ItemFollows 0 s t → Meets (after s (part.Item t))
after_item s t h f =
    let long : length s.levels ≡ length s.nodes + 1 = ap (λ (ls : List ℕ). length ls) h.levels ∙ levels-length s.nodes in
    record {
      levels = h.levels;
      totals = h.totals;
      nodes = h.nodes;
      clips = h.clips;
      chains = h.chains;
      each = All-push (IsToken (length s.nodes + 1) (length s.chains)) s.items t h.each (subst (λ (k : ℕ). IsToken k (length s.chains) t) long f.token);
      nested = nests_push 0 s.depth s.items t h.nested f.nest;
      ordered = ordered_after 0 s (part.Item t) h.ordered f;
    }

all_meet : (s : PartialList) (ps : List Part) → Meets s → AllFollow 0 s ps → Meets (after_all s ps)
all_meet s [] h f = h
all_meet s (part.Node n ∷ ps) h f = all_meet (after s (part.Node n)) ps (after_node s n h f.0) f.1
all_meet s (part.Clip c ∷ ps) h f = all_meet (after s (part.Clip c)) ps (after_clip s c h f.0) f.1
all_meet s (part.Chain c ∷ ps) h f = all_meet (after s (part.Chain c)) ps (after_chain s c h f.0) f.1
all_meet s (part.Item t ∷ ps) h f = all_meet (after s (part.Item t)) ps (after_item s t h f.0) f.1

pub spelled_is_list : (l : ListModel) → IsSpelled l → IsList l
spelled_is_list l (bytes, h) =
    let made = made_of 0 l bytes h in
    let m = all_meet start h.parts start_meets made.follow in
    subst IsList made.list_is (record {
      nodes = m.nodes;
      clips = m.clips;
      chains = m.chains;
      items = record { each = m.each; nested = subst (Nests 0 (after_all start h.parts).items) made.closed m.nested };
    })

-- ---- what meets the checks is spelled

-- parts that may follow and make a list
record Done (s : PartialList) (ps : List Part) (l : ListModel) : Type 0 where
  follow : AllFollow 0 s ps
  closed : (after_all s ps).depth ≡ 0
  list_is : list_of (after_all s ps) ≡ l

done_more : (s : PartialList) (p : Part) (ps : List Part) (l : ListModel) → CanFollow 0 s p → Done (after s p) ps l → Done s (p ∷ ps) l
done_more s p ps l f h = record { follow = (f, h.follow); closed = h.closed; list_is = h.list_is }

abbrev item_parts : List Token → List Part
item_parts = map part.Item

abbrev chain_parts : List ChainDef → List Token → List Part
chain_parts cs ts = map part.Chain cs ++ item_parts ts

abbrev clip_parts : List ClipDef → List ChainDef → List Token → List Part
clip_parts ds cs ts = map part.Clip ds ++ chain_parts cs ts

abbrev node_parts : List Node → List ClipDef → List ChainDef → List Token → List Part
node_parts ns ds cs ts = map part.Node ns ++ clip_parts ds cs ts

any_name : (t : Token) → NamesFrom 0 t
any_name (token.Iframe o n) = omega arith
any_name (token.Solid o c) = tt
any_name (token.Image o k u v) = tt
any_name (token.Border o w t r b l c) = tt
any_name (token.Text o f c gs) = tt
any_name (token.Push p) = tt
any_name token.Pop = tt
any_name (token.HitArea o n) = tt

-- a whole list, by its items
abbrev with_items : PartialList → List Token → ListModel
with_items s ts = record { nodes = s.nodes; clips = s.clips; chains = s.chains; items = ts }

items_done : (s : PartialList) (ts all : List Token) → s.items ++ ts ≡ all → All (IsToken (length s.levels) (length s.chains)) ts → Nests s.depth ts 0 → Done s (item_parts ts) (with_items s all)
items_done s [] all e h k = record { follow = tt; closed = k; list_is = ap (with_items s) (sym (append-nil s.items) ∙ e) }
items_done s (t ∷ ts) all e h k =
    done_more s (part.Item t) (item_parts ts) (with_items s all)
    (record { token = All-head (IsToken (length s.levels) (length s.chains)) t ts h; nest = k.0; named = any_name t })
    (items_done (after s (part.Item t)) ts all (append_assoc s.items (t ∷ []) ts ∙ e) (All-tail (IsToken (length s.levels) (length s.chains)) t ts h) k.1)

holds : (b : Bool) → b ≡ true → IsTrue b
holds b e = grind arith

abbrev with_chains : PartialList → List ChainDef → List Token → ListModel
with_chains s cs ts = record { nodes = s.nodes; clips = s.clips; chains = cs; items = ts }

optional_below : (n : ℕ) (o : Option ℕ) → n ≤ 4096 → IsDefined n o → IsOptionalReference n o
optional_below n None le h = tt
optional_below n (Some k) le h = (record { defined = h; fits = omega arith }, omega arith)

chain_follows : (s : PartialList) (c : ChainDef) (more : List ChainDef) → takes_chains s.section ≡ true → s.totals ≡ totals_of s.chains → length s.clips ≤ 4096
    → AreChains (length s.clips) (s.chains ++ c ∷ more) → ChainFollows s c
chain_follows s c more sec e few h =
    let count = h.count in
    let room : length s.chains < 4096 = omega (arith, length-append s.chains (c ∷ more)) in
    let long : length s.totals ≡ length s.chains = ap (λ (ts : List ℕ). length ts) e ∙ totals-length s.chains in
    record {
      section = holds (takes_chains s.section) sec;
      room = room;
      parent = subst (λ (n : ℕ). IsOptionalReference n c.parent) (sym long) (optional_below (length s.chains) c.parent (omega arith) (each_at (λ k d. IsDefined k d.parent) s.chains c more h.parents));
      total = subst (λ (ts : List ℕ). inherited ts c.parent + length c.clips ≤ 255) (sym e) (total_at (λ k. k ≤ 255) s.chains c more h.totals);
      clips = All-weaker (λ k. k < length s.clips) (IsReference (length s.clips)) (λ k lt. record { defined = lt; fits = omega arith }) c.clips (all_at (λ d. All (λ k. k < length s.clips) d.clips) s.chains c more h.each);
    }

chains_done : (s : PartialList) (cs whole : List ChainDef) (ts : List Token) → s.chains ++ cs ≡ whole → takes_chains s.section ≡ true → s.totals ≡ totals_of s.chains → s.items ≡ []
    → s.depth ≡ 0 → length s.clips ≤ 4096 → AreChains (length s.clips) whole → All (IsToken (length s.levels) (length whole)) ts → Nests 0 ts 0 → Done s (chain_parts cs ts) (with_chains s whole ts)
chains_done s [] whole ts e sec tot none deep few h i k =
    let same : s.chains ≡ whole = sym (append-nil s.chains) ∙ e in
    let all : s.items ++ ts ≡ ts = ap (λ (o : List Token). o ++ ts) none in
    subst (λ (o : List ChainDef). Done s (item_parts ts) (with_chains s o ts)) same
    (items_done s ts ts all (subst (λ (o : List ChainDef). All (IsToken (length s.levels) (length o)) ts) (sym same) i) (subst (λ (d : ℕ). Nests d ts 0) (sym deep) k))
chains_done s (c ∷ cs) whole ts e sec tot none deep few h i k =
    done_more s (part.Chain c) (chain_parts cs ts) (with_chains s whole ts)
    (chain_follows s c cs sec tot few (subst (AreChains (length s.clips)) (sym e) h))
    (chains_done (after s (part.Chain c)) cs whole ts (append_assoc s.chains (c ∷ []) cs ∙ e) refl (ap (λ (o : List ℕ). with_total o c) tot ∙ sym (totals_push s.chains c)) none deep few h i k)

abbrev with_clips : PartialList → List ClipDef → List ChainDef → List Token → ListModel
with_clips s ds cs ts = record { nodes = s.nodes; clips = ds; chains = cs; items = ts }

then_takes_chains : (s : Section) → takes_clips s ≡ true → takes_chains s ≡ true
then_takes_chains Nodes e = refl
then_takes_chains Clips e = refl
then_takes_chains Chains e = absurd cc
then_takes_chains Items e = absurd cc

clip_follows : (s : PartialList) (d : ClipDef) (more : List ClipDef) → takes_clips s.section ≡ true → AreClips (length s.levels) (s.clips ++ d ∷ more) → ClipFollows s d
clip_follows s d more sec h =
    let count = h.count in
    record {
      section = holds (takes_clips s.section) sec;
      room = omega (arith, length-append s.clips (d ∷ more));
      clip = all_at (IsClip (length s.levels)) s.clips d more h.each;
    }

clips_done : (s : PartialList) (ds whole : List ClipDef) (cs : List ChainDef) (ts : List Token) → s.clips ++ ds ≡ whole → takes_clips s.section ≡ true → s.chains ≡ [] → s.totals ≡ []
    → s.items ≡ [] → s.depth ≡ 0 → AreClips (length s.levels) whole → AreChains (length whole) cs → All (IsToken (length s.levels) (length cs)) ts → Nests 0 ts 0 → Done s (clip_parts ds cs ts) (with_clips s whole cs ts)
unfolding totals_of
clips_done s [] whole cs ts e sec none tot empty deep h g i k =
    let same : s.clips ≡ whole = sym (append-nil s.clips) ∙ e in
    let all : s.chains ++ cs ≡ cs = ap (λ (o : List ChainDef). o ++ cs) none in
    let start_totals : s.totals ≡ totals_of s.chains = tot ∙ ap totals_of (sym none) in
    subst (λ (o : List ClipDef). Done s (chain_parts cs ts) (with_clips s o cs ts)) same
    (chains_done s cs cs ts all (then_takes_chains s.section sec) start_totals empty deep (subst (λ (o : List ClipDef). length o ≤ 4096) (sym same) h.count) (subst (λ (o : List ClipDef). AreChains (length o) cs) (sym same) g) i k)
clips_done s (d ∷ ds) whole cs ts e sec none tot empty deep h g i k =
    done_more s (part.Clip d) (clip_parts ds cs ts) (with_clips s whole cs ts)
    (clip_follows s d ds sec (subst (AreClips (length s.levels)) (sym e) h))
    (clips_done (after s (part.Clip d)) ds whole cs ts (append_assoc s.clips (d ∷ []) ds ∙ e) refl none tot empty deep h g i k)

-- with nodes alone read
record HasNodesAlone (s : PartialList) : Type 0 where
  section : s.section ≡ Nodes
  levels : s.levels ≡ levels_of s.nodes
  clips : s.clips ≡ []
  chains : s.chains ≡ []
  totals : s.totals ≡ []
  items : s.items ≡ []
  depth : s.depth ≡ 0

new_scroll : (nodes : List Node) (n : Node) (more : List Node) → AllPairs (λ a b. share_scroll a b ≡ false) (nodes ++ n ∷ more) → IsNewScroll nodes n
new_scroll nodes (node.Reference p x y o) more h = tt
new_scroll nodes (node.Scroll p sid vw vh cw ch) more h =
    let n : Node = node.Scroll p sid vw vh cw ch in
    list_any_none (has_scroll sid) nodes (λ k d lt.
    let pair = h k (length nodes) d lt (omega (arith, length-append nodes (n ∷ more))) in
    subst (λ (o : Node). has_scroll sid o ≡ false) (get_or-append nodes (n ∷ more) d k lt)
    (subst (λ (o : Node). share_scroll (get_or (nodes ++ n ∷ more) k d) o ≡ false) (get_or-append_seam nodes n more d) pair))

node_follows : (s : PartialList) (n : Node) (more : List Node) → HasNodesAlone s → AreNodes (s.nodes ++ n ∷ more) → NodeFollows s n
node_follows s n more a h =
    let count = h.count in
    let long : length s.levels ≡ length s.nodes + 1 = ap (λ (o : List ℕ). length o) a.levels ∙ levels-length s.nodes in
    let parent : parent_of n ≤ length s.nodes = each_at (λ k o. parent_of o ≤ k) s.nodes n more h.parents in
    let room : length s.nodes < 4096 = omega (arith, length-append s.nodes (n ∷ more)) in
    let level : slice_index (levels_of s.nodes) (parent_of n) + 1 ≤ 64 = level_at (λ k. k ≤ 64) s.nodes n more h.levels in
    record {
      section = subst (λ (o : Section). IsTrue (takes_nodes o)) (sym a.section) (holds true refl);
      room = room;
      parent = record { defined = omega arith; fits = omega arith };
      level = subst (λ (o : List ℕ). slice_index o (parent_of n) < 64) (sym a.levels) (omega arith);
      new = new_scroll s.nodes n more h.scrolls;
      fields = all_at IsNode s.nodes n more h.each;
    }

nodes_done : (s : PartialList) (ns whole : List Node) (ds : List ClipDef) (cs : List ChainDef) (ts : List Token) → s.nodes ++ ns ≡ whole → HasNodesAlone s → AreNodes whole
    → AreClips (length whole + 1) ds → AreChains (length ds) cs → All (IsToken (length whole + 1) (length cs)) ts → Nests 0 ts 0
    → Done s (node_parts ns ds cs ts) (record { nodes = whole; clips = ds; chains = cs; items = ts })
nodes_done s [] whole ds cs ts e a h j g i k =
    let same : s.nodes ≡ whole = sym (append-nil s.nodes) ∙ e in
    let long : length s.levels ≡ length whole + 1 = ap (λ (o : List ℕ). length o) a.levels ∙ levels-length s.nodes ∙ ap (λ (o : List Node). length o + 1) same in
    let all : s.clips ++ ds ≡ ds = ap (λ (o : List ClipDef). o ++ ds) a.clips in
    subst (λ (o : List Node). Done s (clip_parts ds cs ts) (record { nodes = o; clips = ds; chains = cs; items = ts })) same
    (clips_done s ds ds cs ts all (ap takes_clips a.section) a.chains a.totals a.items a.depth (subst (λ (n : ℕ). AreClips n ds) (sym long) j) g (subst (λ (n : ℕ). All (IsToken n (length cs)) ts) (sym long) i) k)
nodes_done s (n ∷ ns) whole ds cs ts e a h j g i k =
    done_more s (part.Node n) (node_parts ns ds cs ts) (record { nodes = whole; clips = ds; chains = cs; items = ts })
    (node_follows s n ns a (subst AreNodes (sym e) h))
    (nodes_done (after s (part.Node n)) ns whole ds cs ts (append_assoc s.nodes (n ∷ []) ns ∙ e)
    (record {
      section = a.section;
      levels = ap (λ (o : List ℕ). with_level o n) a.levels ∙ sym (levels_push s.nodes n);
      clips = a.clips;
      chains = a.chains;
      totals = a.totals;
      items = a.items;
      depth = a.depth;
    })
    h j g i k)

start_alone : HasNodesAlone start
unfolding levels_of
start_alone = record { section = refl; levels = refl; clips = refl; chains = refl; totals = refl; items = refl; depth = refl }

pub list_is_spelled : (l : ListModel) → IsList l → IsSpelled l
list_is_spelled l h =
    let ps = node_parts l.nodes l.clips l.chains l.items in
    let d : Done start ps l = nodes_done start l.nodes l.nodes l.clips l.chains l.items refl start_alone h.nodes h.clips h.chains h.items.each h.items.nested in
    (all_bytes ps, spells_parts 0 l ps (record { follow = d.follow; closed = d.closed; list_is = d.list_is }))

-- ---- counts

few_of : (n c : ℕ) (t : Token) → IsToken n c t → HasFewGlyphs t
few_of n c (token.Text o f q gs) h = h.3
few_of n c (token.Solid o q) h = tt
few_of n c (token.Image o k u v) h = tt
few_of n c (token.Border o w t r b l q) h = tt
few_of n c (token.Push p) h = tt
few_of n c token.Pop h = tt
few_of n c (token.Iframe o k) h = tt
few_of n c (token.HitArea o k) h = tt

pub few_glyphs : (l : ListModel) → IsList l → All HasFewGlyphs l.items
few_glyphs l h = All-weaker (IsToken (length l.nodes + 1) (length l.chains)) HasFewGlyphs (few_of _ _) l.items h.items.each
