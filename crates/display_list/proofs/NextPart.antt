-- What passes next is a part that may follow, or the End, in its one spelling; and each of these passes.
use Rattle.std.proofs.Common.{◌≡◌, ℕ, ◌+◌, ◌<◌, ◌≤◌, Bool, true, false, eqb, leb, List, [], ◌∷◌, length, Option, Some, None, refl, sym, ap, subst, ◌∙◌, arith, inl, inr}
use Rattle.std.proofs.lemmas.Bool.{eqb-true}
use Rattle.std.proofs.lemmas.Bool.Decides.{nat_tests}
use Rattle.field_forms.specs.Form.{done, bind, choose, Passes}
use Rattle.field_forms.proofs.Passing.{HasSpelling, either, when_true, by_true, skipped, joined, alone, at_end}
use Rattle.field_forms.proofs.Spelled.{byte_spelling}
use Rattle.display_list.specs.declared.node.Node.{Node}
use Rattle.display_list.specs.declared.node.Node.TheVariants as node
use Rattle.display_list.specs.declared.node.ClipDef.{ClipDef}
use Rattle.display_list.specs.declared.token.Token.{Token}
use Rattle.display_list.specs.declared.token.Token.TheVariants as token
use Rattle.display_list.specs.declared.token.Part.{Part}
use Rattle.display_list.specs.declared.token.Part.TheVariants as part
use Rattle.display_list.specs.PartialList.{PartialList}
use Rattle.display_list.specs.Following.{ClipFollows, NextFollows}
use Rattle.display_list.specs.Parts.{definition, item, end, next_part}
use Rattle.display_list.specs.Spelling.{node_fields, rect_clip_fields, round_clip_fields, clip_bytes, chain_fields, token_tag, token_fields, part_bytes, next_bytes}
use Rattle.display_list.proofs.DefinitionForms.{PartIs, definition_spelled, node_passes, rect_clip_definition, round_clip_definition, chain_definition}
use Rattle.display_list.proofs.ItemForms.{item_spelled, item_passes}

-- what passes next: a part, or the End
record NextIs (m : ℕ) (s : PartialList) (bytes : List ℕ) (x : Option Part) : Type 0 where
  spelled : bytes ≡ next_bytes x
  follows : NextFollows m s x

some_part : (m : ℕ) (s : PartialList) (bytes : List ℕ) (p : Part) (x : Option Part) → x ≡ Some p → PartIs m s bytes p → NextIs m s bytes x
some_part m s bytes p x w h = subst (NextIs m s bytes) (sym w) (record { spelled = h.spelled; follows = h.follows })

end_is : (m : ℕ) (s : PartialList) (position at : ℕ) (bytes : List ℕ) (x : Option Part) → Passes (end s.depth position) at bytes x → NextIs m s (0 ∷ bytes) x
unfolding end
end_is m s position at bytes x h =
    let c = when_true (eqb s.depth 0) h in
    subst (NextIs m s (0 ∷ bytes)) (sym c.1.1) (record { spelled = ap (λ (o : List ℕ). 0 ∷ o) c.1.0; follows = eqb-true s.depth 0 c.0 })

some_tag : (k : ℕ) → eqb k 0 ≡ false → 0 < k
some_tag k e = grind (arith, nat_tests)

within : (k : ℕ) → leb k 5 ≡ true → k ≤ 5
within k e = grind (arith, nat_tests)

beyond : (k : ℕ) → leb k 5 ≡ false → 5 < k
beyond k e = grind (arith, nat_tests)

definition_is : (m : ℕ) (s : PartialList) (position tag : ℕ) → 0 < tag → tag ≤ 5 → (at : ℕ) (bytes : List ℕ) (x : Option Part)
    → Passes (bind (definition s position tag) (λ p. done (Some p))) at bytes x → NextIs m s (tag ∷ bytes) x
definition_is m s position tag lo hi at bytes x (p, one, two, e, q, (z, w)) =
    let h = definition_spelled m s position tag lo hi at one p q in
    some_part m s (tag ∷ bytes) p x w (record { spelled = ap (λ (o : List ℕ). tag ∷ o) (alone e refl z) ∙ h.spelled; follows = h.follows })

item_is : (m : ℕ) (s : PartialList) (position tag : ℕ) → 5 < tag → (at : ℕ) (bytes : List ℕ) (x : Option Part)
    → Passes (bind (item m s position tag) (λ t. done (Some (part.Item t)))) at bytes x → NextIs m s (tag ∷ bytes) x
item_is m s position tag lo at bytes x (t, one, two, e, q, (z, w)) =
    let h = item_spelled m s position tag lo at one t q in
    some_part m s (tag ∷ bytes) (part.Item t) x w (record { spelled = ap (λ (o : List ℕ). tag ∷ o) (alone e refl z) ∙ h.spelled; follows = h.follows })

-- at the tag, by which one it is
by_tag : (m : ℕ) (s : PartialList) (position tag at : ℕ) (bytes : List ℕ) (x : Option Part)
    → Passes (choose (eqb tag 0) (end s.depth position) (choose (leb tag 5) (bind (definition s position tag) (λ p. done (Some p))) (bind (item m s position tag) (λ t. done (Some (part.Item t)))))) at bytes x
    → NextIs m s (tag ∷ bytes) x
by_tag m s position tag at bytes x h =
    elim (either (eqb tag 0) h) [
      | inl c ↦ subst (λ (t : ℕ). NextIs m s (t ∷ bytes) x) (sym (eqb-true tag 0 c.0)) (end_is m s position at bytes x c.1)
      | inr c ↦ elim (either (leb tag 5) c.1) [
        | inl d ↦ definition_is m s position tag (some_tag tag c.0) (within tag d.0) at bytes x d.1
        | inr d ↦ item_is m s position tag (beyond tag d.0) at bytes x d.1
      ]
    ]

next_is : (m : ℕ) (s : PartialList) (at : ℕ) (bytes : List ℕ) (x : Option Part) → Passes (next_part m s) at bytes x → NextIs m s bytes x
unfolding next_part
next_is m s at bytes x (a, none, rest, e0, (z0, w0), (tag, one, two, e1, q, r)) =
    let t = byte_spelling.spelled _ one tag q in
    let b = by_tag m s a tag _ two x r in
    subst (λ (o : List ℕ). NextIs m s o x) (sym (skipped e0 z0 ∙ joined e1 t.0 refl)) b

-- ---- the other direction

-- the tag passes, and what comes after it
tagged : (m : ℕ) (s : PartialList) (at tag : ℕ) (fields : List ℕ) (x : Option Part) → tag < 256
    → Passes (choose (eqb tag 0) (end s.depth at) (choose (leb tag 5) (bind (definition s at tag) (λ p. done (Some p))) (bind (item m s at tag) (λ t. done (Some (part.Item t)))))) (at + 0 + 1) fields x
    → Passes (next_part m s) at (tag ∷ fields) x
unfolding next_part
tagged m s at tag fields x low h =
    let one : List ℕ = tag ∷ [] in
    let place : at + 0 + 1 ≡ at + 0 + length one = omega arith in (
      at,
      [],
      tag ∷ fields,
      refl,
      (refl, refl),
      (
        tag,
        one,
        fields,
        refl,
        byte_spelling.passes (at + 0) tag low,
        subst
            (λ (q : ℕ). Passes (choose (eqb tag 0) (end s.depth at) (choose (leb tag 5) (bind (definition s at tag) (λ p. done (Some p))) (bind (item m s at tag) (λ t. done (Some (part.Item t)))))) q fields x)
            place
            h,
      ),
    )

end_passes : (m : ℕ) (s : PartialList) (position at : ℕ) → s.depth ≡ 0 → Passes (end s.depth position) at [] None
unfolding end
end_passes m s position at e = let test : eqb s.depth 0 ≡ true = grind (arith, nat_tests) in by_true _ (eqb s.depth 0) test (refl, refl)

clip_passes : (m : ℕ) (s : PartialList) (at : ℕ) (c : ClipDef) (b : Bool) → c.round ≡ b → ClipFollows s c → Passes (next_part m s) at (clip_bytes c) (Some (part.Clip c))
clip_passes m s at c true e h =
    let same : clip_bytes c ≡ 4 ∷ round_clip_fields c = rw e refl in
    subst (λ (o : List ℕ). Passes (next_part m s) at o (Some (part.Clip c))) (sym same)
    (tagged m s at 4 (round_clip_fields c) (Some (part.Clip c)) (omega arith) (part.Clip c, round_clip_fields c, [], at_end (round_clip_fields c), round_clip_definition s at (at + 0 + 1) c e h, (refl, refl)))
clip_passes m s at c false e h =
    let same : clip_bytes c ≡ 3 ∷ rect_clip_fields c = rw e refl in
    subst (λ (o : List ℕ). Passes (next_part m s) at o (Some (part.Clip c))) (sym same)
    (tagged m s at 3 (rect_clip_fields c) (Some (part.Clip c)) (omega arith) (part.Clip c, rect_clip_fields c, [], at_end (rect_clip_fields c), rect_clip_definition s at (at + 0 + 1) c e h, (refl, refl)))

-- an item's tag and fields
item_next : (m : ℕ) (s : PartialList) (at : ℕ) (t : Token) → Passes (item m s at (token_tag t)) (at + 0 + 1) (token_fields t) t
    → Passes (bind (item m s at (token_tag t)) (λ u. done (Some (part.Item u)))) (at + 0 + 1) (token_fields t) (Some (part.Item t))
item_next m s at t h = (t, token_fields t, [], at_end (token_fields t), h, (refl, refl))

token_passes : (m : ℕ) (s : PartialList) (at : ℕ) (t : Token) → Passes (item m s at (token_tag t)) (at + 0 + 1) (token_fields t) t → Passes (next_part m s) at (token_tag t ∷ token_fields t) (Some (part.Item t))
token_passes m s at (token.Solid o q) h = tagged m s at 6 (token_fields (token.Solid o q)) _ (omega arith) (item_next m s at (token.Solid o q) h)
token_passes m s at (token.Image o k u v) h = tagged m s at 7 (token_fields (token.Image o k u v)) _ (omega arith) (item_next m s at (token.Image o k u v) h)
token_passes m s at (token.Border o w t r b l c) h = tagged m s at 8 (token_fields (token.Border o w t r b l c)) _ (omega arith) (item_next m s at (token.Border o w t r b l c) h)
token_passes m s at (token.Text o f q gs) h = tagged m s at 9 (token_fields (token.Text o f q gs)) _ (omega arith) (item_next m s at (token.Text o f q gs) h)
token_passes m s at (token.Push p) h = tagged m s at 10 (token_fields (token.Push p)) _ (omega arith) (item_next m s at (token.Push p) h)
token_passes m s at token.Pop h = tagged m s at 11 (token_fields token.Pop) _ (omega arith) (item_next m s at token.Pop h)
token_passes m s at (token.Iframe o n) h = tagged m s at 12 (token_fields (token.Iframe o n)) _ (omega arith) (item_next m s at (token.Iframe o n) h)
token_passes m s at (token.HitArea o k) h = tagged m s at 13 (token_fields (token.HitArea o k)) _ (omega arith) (item_next m s at (token.HitArea o k) h)

next_passes : (m : ℕ) (s : PartialList) (at : ℕ) (x : Option Part) → NextFollows m s x → Passes (next_part m s) at (next_bytes x) x
next_passes m s at None e = tagged m s at 0 [] None (omega arith) (end_passes m s at (at + 0 + 1) e)
next_passes m s at (Some (part.Node (node.Reference p x y o))) h =
    let n : Node = node.Reference p x y o in
    tagged m s at 1 (node_fields n) (Some (part.Node n)) (omega arith) (part.Node n, node_fields n, [], at_end (node_fields n), node_passes s at (at + 0 + 1) n h, (refl, refl))
next_passes m s at (Some (part.Node (node.Scroll p k vw vh cw ch))) h =
    let n : Node = node.Scroll p k vw vh cw ch in
    tagged m s at 2 (node_fields n) (Some (part.Node n)) (omega arith) (part.Node n, node_fields n, [], at_end (node_fields n), node_passes s at (at + 0 + 1) n h, (refl, refl))
next_passes m s at (Some (part.Clip c)) h = clip_passes m s at c c.round refl h
next_passes m s at (Some (part.Chain c)) h =
    tagged m s at 5 (chain_fields c) (Some (part.Chain c)) (omega arith) (part.Chain c, chain_fields c, [], at_end (chain_fields c), chain_definition s at (at + 0 + 1) c h, (refl, refl))
next_passes m s at (Some (part.Item t)) h = token_passes m s at t (item_passes m s at (at + 0 + 1) t h)

-- A part that may follow, or the End, has one spelling, and what is spelled so passes.
pub next_spelling : (m : ℕ) (s : PartialList) → HasSpelling (next_part m s) next_bytes (NextFollows m s)
next_spelling m s = record {
  spelled = λ at bytes x p. let h = next_is m s at bytes x p in (h.spelled, h.follows);
  passes = λ at x h. next_passes m s at x h;
}

-- each part takes a byte
pub longer : (p : Part) → 0 < length (part_bytes p)
longer (part.Node n) = omega arith
longer (part.Clip c) = by_kind c.round refl
  where
    by_kind : (b : Bool) → c.round ≡ b → 0 < length (clip_bytes c)
    by_kind true e = rw e (omega arith)
    by_kind false e = rw e (omega arith)
longer (part.Chain c) = omega arith
longer (part.Item t) = omega arith
