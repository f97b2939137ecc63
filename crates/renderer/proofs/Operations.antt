-- A transaction that gives no tile up keeps the sides of tiles.
use Rattle.std.proofs.Common.{◌≡◌, ℕ, true, false, eqb, List, [], ◌∷◌, Option, Some, None, Result, Ok, Err, refl, sym, ap, ap₂, ◌∙◌}
use Rattle.std.proofs.lemmas.Bool.{and_parts, eqb-true, not-false, or_parts}
use Rattle.wr_io.specs.declared.fault.Code.{Code}
use Rattle.wr_io.specs.declared.fault.Fault.{Fault}
use Rattle.display_list.specs.ListModel.{ListModel}
use Rattle.display_list.specs.Decoding.{list_at}
use Rattle.image_store.specs.StoreModel.{StoreModel}
use Rattle.image_store.specs.Changes.{image_added, image_updated, image_deleted, glyph_added}
use Rattle.image_store.specs.declared.error.StoreError.{StoreError}
use Rattle.txn_format.specs.Txn.{OpModel, PlacedModel, TxnModel, set_list, remove_pipeline, scroll, set_offset, set_opacity, add_image, update_image, delete_image, add_glyph, delete_font, set_view, tile_policy, drop_tiles}
use Rattle.scene_state.specs.SceneModel.{SceneModel}
use Rattle.scene_state.specs.Operations.{Next, after_op, after_ops, then_next, where_changed, where_read, where_removed}
use Rattle.scene_state.specs.Limits.{limit_of, next_scene, where_none}
use Rattle.scene_state.specs.declared.policy.Policy.{Policy}
use Rattle.renderer.specs.Drops.{any_gives_up, gives_up, has_sides, policy_after, sides_of}

abbrev Made : Type 0
Made = SceneModel × ℕ

-- what an answer is, if it is there
policy_is : (x made : Made) (r : Next) → r ≡ Ok x → r ≡ Ok made → made.0.policy ≡ x.0.policy
policy_is x made r a b = let same : x ≡ made = cc in sym (ap (λ (m : Made). m.0.policy) same)

read_policy : (p position epoch : ℕ) (read : Result ListModel Fault) (s : SceneModel) (last : ℕ) (made : Made) → where_read p position epoch read s last ≡ Ok made → made.0.policy ≡ s.policy
read_policy p position epoch (Ok list) s last made h = let same = policy_is _ made (where_read p position epoch (Ok list) s last) refl h in same
read_policy p position epoch (Err f) s last made h = absurd cc

changed_policy : (fault : StoreError → Fault) (r : Result (StoreModel × ℕ) StoreError) (s : SceneModel) (made : Made) → where_changed fault r s ≡ Ok made → made.0.policy ≡ s.policy
changed_policy fault (Ok x) s made h = policy_is _ made (where_changed fault (Ok x) s) refl h
changed_policy fault (Err e) s made h = absurd cc

removed_policy : (fault : StoreError → Fault) (r : Result StoreModel StoreError) (s : SceneModel) (last : ℕ) (made : Made) → where_removed fault r s last ≡ Ok made → made.0.policy ≡ s.policy
removed_policy fault (Ok x) s last made h = policy_is _ made (where_removed fault (Ok x) s last) refl h
removed_policy fault (Err e) s last made h = absurd cc

-- an operation that stands leaves the policy that is meant
after_policy : (p at : ℕ) (o : OpModel) (s : SceneModel) (last : ℕ) (made : Made) → after_op p at o s last ≡ Ok made → made.0.policy ≡ policy_after o s.policy
after_policy p at (set_list epoch bytes) s last made h = read_policy p _ epoch (list_at p bytes) s last made h
after_policy p at remove_pipeline s last made h = policy_is _ made (after_op p at remove_pipeline s last) refl h
after_policy p at (scroll sid x y) s last made h = policy_is _ made (after_op p at (scroll sid x y) s last) refl h
after_policy p at (set_offset id x y) s last made h = policy_is _ made (after_op p at (set_offset id x y) s last) refl h
after_policy p at (set_opacity id opacity) s last made h = policy_is _ made (after_op p at (set_opacity id opacity) s last) refl h
after_policy p at (add_image key w h pixels) s last made e = changed_policy _ (image_added p key w h pixels s.store last) s made e
after_policy p at (update_image key x y w h pixels) s last made e = changed_policy _ (image_updated p key (record { x = x; y = y; w = w; h = h }) pixels s.store last) s made e
after_policy p at (delete_image key) s last made h = removed_policy _ (image_deleted p key s.store) s last made h
after_policy p at (add_glyph font glyph w h mask) s last made e = changed_policy _ (glyph_added p font glyph w h mask s.store last) s made e
after_policy p at (delete_font font) s last made h = policy_is _ made (after_op p at (delete_font font) s last) refl h
after_policy p at (set_view w h clear) s last made e = policy_is _ made (after_op p at (set_view w h clear) s last) refl e
after_policy p at (tile_policy tw th budget) s last made h = policy_is _ made (after_op p at (tile_policy tw th budget) s last) refl h
after_policy p at drop_tiles s last made h = policy_is _ made (after_op p at drop_tiles s last) refl h

-- sides that a policy's tiles have are those
pub sides_same : (p : Policy) (tw th : ℕ) → has_sides p tw th ≡ true → sides_of p ≡ record { width = tw; height = th }
sides_same p tw th h =
    let both = and_parts (eqb p.tw tw) (eqb p.th th) h in
    let w = eqb-true p.tw tw both.0 in
    let t = eqb-true p.th th both.1 in
    ap₂ (λ (a b : ℕ). record { width = a; height = b }) w t

-- an operation that gives no tile up keeps the sides
one_keeps : (o : OpModel) (p : Policy) → gives_up o p ≡ false → sides_of (policy_after o p) ≡ sides_of p
one_keeps (set_list epoch bytes) p h = refl
one_keeps remove_pipeline p h = refl
one_keeps (scroll sid x y) p h = refl
one_keeps (set_offset id x y) p h = refl
one_keeps (set_opacity id opacity) p h = refl
one_keeps (add_image key w h pixels) p e = refl
one_keeps (update_image key x y w h pixels) p e = refl
one_keeps (delete_image key) p h = refl
one_keeps (add_glyph font glyph w h mask) p e = refl
one_keeps (delete_font font) p h = refl
one_keeps (set_view w h clear) p e = refl
one_keeps (tile_policy tw th budget) p h = sym (sides_same p tw th (not-false (has_sides p tw th) h))
one_keeps drop_tiles p h = refl

abbrev Keeps : List PlacedModel → ℕ → Type 0
Keeps os p = (s : SceneModel) (last : ℕ) (made : Made) → after_ops p os s last ≡ Ok made → any_gives_up os s.policy ≡ false → sides_of made.0.policy ≡ sides_of s.policy

then_keeps : (p : ℕ) (o : PlacedModel) (os : List PlacedModel) → Keeps os p → (s : SceneModel) (last : ℕ) (made : Made) (first : Next) → after_op p o.at o.op s last ≡ first
    → then_next first (after_ops p os) ≡ Ok made → any_gives_up (o ∷ os) s.policy ≡ false → sides_of made.0.policy ≡ sides_of s.policy
then_keeps p o os rest s last made (Ok x) e h none =
    let both = or_parts (gives_up o.op s.policy) (any_gives_up os (policy_after o.op s.policy)) none in
    let policy = after_policy p o.at o.op s last x e in
    rest x.0 x.1 made h (ap (any_gives_up os) policy ∙ both.1) ∙ ap sides_of policy ∙ one_keeps o.op s.policy both.0
then_keeps p o os rest s last made (Err f) e h none = absurd cc

ops_keep : (p : ℕ) (os : List PlacedModel) → Keeps os p
ops_keep p [] s last made h none = ap sides_of (policy_is (s, last) made (after_ops p [] s last) refl h)
ops_keep p (o ∷ os) s last made h none = then_keeps p o os (ops_keep p os) s last made (after_op p o.at o.op s last) refl h none

limits_keep : (limit : Option Code) (position : ℕ) (s : SceneModel) (last : ℕ) (made : Made) → where_none limit position s last ≡ Ok made → made.0.policy ≡ s.policy
limits_keep None position s last made h = policy_is (s, last) made (where_none None position s last) refl h
limits_keep (Some code) position s last made h = absurd cc

ends_keep : (t : TxnModel) (s : SceneModel) (last : ℕ) (made : Made) (ops : Next) → after_ops t.pipeline t.ops s last ≡ ops
    → then_next ops (λ x counter. where_none (limit_of x) t.len x counter) ≡ Ok made → any_gives_up t.ops s.policy ≡ false → sides_of made.0.policy ≡ sides_of s.policy
ends_keep t s last made (Ok x) e h none = ap sides_of (limits_keep (limit_of x.0) t.len x.0 x.1 made h) ∙ ops_keep t.pipeline t.ops s last x e none
ends_keep t s last made (Err f) e h none = absurd cc

pub next_sides : (t : TxnModel) (old next : SceneModel) (last counter : ℕ) → next_scene t old last ≡ Ok (next, counter) → any_gives_up t.ops old.policy ≡ false → sides_of next.policy ≡ sides_of old.policy
next_sides t old next last counter h none = ends_keep t old last (next, counter) (after_ops t.pipeline t.ops old last) refl h none
