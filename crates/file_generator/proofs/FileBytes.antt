-- The bytes of a file, put payload by payload.
use Rattle.std.proofs.Common.{◌≡◌, ℕ, suc, List, ◌++◌, sym, ap, subst, ◌∙◌, append_assoc, append-nil}
use Rattle.std.specs.List.{flat_map}
use Rattle.file_generator.specs.Files.{Generating, next_payload, after_payload, framed, payloads_from}

-- the payloads from here on, framed
abbrev pub left_framed : Generating → ℕ → List ℕ
left_framed g left = flat_map framed (payloads_from g.next left g.state)

-- one more is put
pub one_framed : (all out new : List ℕ) (g after : Generating) (payload : List ℕ) (n left : ℕ)
    → n ≡ suc left → payload ≡ next_payload g → after ≡ after_payload g → new ≡ out ++ framed payload → out ++ left_framed g n ≡ all → new ++ left_framed after left ≡ all
one_framed all out new g after payload n left e p a w h =
    let had : out ++ left_framed g (suc left) ≡ all = subst (λ (k : ℕ). out ++ left_framed g k ≡ all) e h in
    let wrote : new ≡ out ++ framed (next_payload g) = w ∙ ap (λ (q : List ℕ). out ++ framed q) p in
    ap (λ (x : List ℕ). x ++ left_framed after left) wrote ∙ ap (λ (s : Generating). (out ++ framed (next_payload g)) ++ left_framed s left) a
    ∙ append_assoc out (framed (next_payload g)) (left_framed (after_payload g) left) ∙ had

-- none is left
pub none_framed : (all out : List ℕ) (g : Generating) (left : ℕ) → left ≡ 0 → out ++ left_framed g left ≡ all → out ≡ all
none_framed all out g left e h =
    let had : out ++ left_framed g 0 ≡ all = subst (λ (k : ℕ). out ++ left_framed g k ≡ all) e h in
    sym (append-nil out) ∙ had
