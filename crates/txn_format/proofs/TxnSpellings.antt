-- The one spelling of a transaction, in both directions.
use Rattle.std.proofs.Common.{◌≡◌, ◌↔◌, ℕ, zero, suc, ◌+◌, ◌<◌, ◌≤◌, ◌^◌, ltb, List, [], ◌∷◌, ◌++◌, length, refl, sym, ap, subst, ◌∙◌, arith}
use Rattle.std.specs.Prelude.{All}
use Rattle.std.specs.List.{flat_map}
use Rattle.std.proofs.lemmas.Bool.{ltb-false, le-ltb}
use Rattle.std.proofs.lemmas.List.{length-append}
use Rattle.std.proofs.lemmas.List.Elements.{All-cons, All-head, All-tail}
use Rattle.wr_io.specs.declared.fault.Code.TheVariants as code
use Rattle.field_forms.specs.Form.{Passes}
use Rattle.field_forms.specs.Fields.{times}
use Rattle.field_forms.specs.Spelling.{u16_bytes, flag_bytes}
use Rattle.field_forms.proofs.Passing.{HasSpelling, with_fact, refuse_if_spelling, skipped, joined, alone, at_end}
use Rattle.field_forms.proofs.Spelled.{byte_spelling, byte_bytes, u16_spelling, flag_spelling}
use Rattle.txn_format.specs.Txn.{OpModel, PlacedModel, TxnModel, set_list, remove_pipeline, scroll, set_offset, set_opacity, add_image, update_image, delete_image, add_glyph, delete_font, set_view, tile_policy, drop_tiles}
use Rattle.txn_format.specs.Forms.{placed_form, pipeline_form, txn_form}
use Rattle.txn_format.specs.Grammar.{TxnSpells, IsTxnSpelled}
use Rattle.txn_format.specs.Spelling.{op_tag, op_fields, op_bytes, placed_bytes, txn_bytes}
use Rattle.txn_format.specs.Checks.{IsOp, AreInRow, IsTxn, EndsWithin, HasFittingLength, FitsLength}
use Rattle.txn_format.proofs.OpSpellings.{op_spelled, op_passes}

-- ---- an operation with its tag

tag_is_byte : (op : OpModel) → op_tag op < 256
tag_is_byte (set_list epoch bytes) = omega arith
tag_is_byte remove_pipeline = omega arith
tag_is_byte (scroll sid x y) = omega arith
tag_is_byte (set_offset id x y) = omega arith
tag_is_byte (set_opacity id opacity) = omega arith
tag_is_byte (add_image key w h pixels) = omega arith
tag_is_byte (update_image key x y w h pixels) = omega arith
tag_is_byte (delete_image key) = omega arith
tag_is_byte (add_glyph font glyph w h mask) = omega arith
tag_is_byte (delete_font font) = omega arith
tag_is_byte (set_view w h clear) = omega arith
tag_is_byte (tile_policy tw th budget) = omega arith
tag_is_byte drop_tiles = omega arith

record IsSpelledAt (pipeline at : ℕ) (bytes : List ℕ) (p : PlacedModel) : Type 0 where
  position : p.at ≡ at
  bytes_are : bytes ≡ placed_bytes p
  checks : IsOp pipeline p.op

placed_spelled : (pl at : ℕ) (bytes : List ℕ) (p : PlacedModel) → Passes (placed_form pl) at bytes p → IsSpelledAt pl at bytes p
unfolding placed_form
placed_spelled pl at bytes p (a, none, rest, e0, (z0, w0), (tag, one, two, e1, q, (op, three, four, e2, r, (z, w)))) =
    let t = byte_spelling.spelled _ one tag q in
    let s = op_spelled pl a tag _ three op r in
    let tag_bytes : one ≡ op_tag op ∷ [] = t.0 ∙ ap (λ k. k ∷ []) (sym s.tag_is) in
    subst (IsSpelledAt pl at bytes) (sym w) (record { position = w0; bytes_are = skipped e0 z0 ∙ joined e1 tag_bytes (alone e2 s.bytes_are z); checks = s.checks })

placed_passes : (pl at : ℕ) (op : OpModel) → IsOp pl op → Passes (placed_form pl) at (op_bytes op) (record { at = at; op = op })
unfolding placed_form
placed_passes pl at op h = (
  at,
  [],
  op_bytes op,
  refl,
  (refl, refl),
  (
    op_tag op,
    op_tag op ∷ [],
    op_fields op,
    refl,
    byte_spelling.passes _ (op_tag op) (tag_is_byte op),
    (op, op_fields op, [], at_end (op_fields op), op_passes pl at _ op h, (refl, refl)),
  ),
)

-- ---- operations

record AreSpelledAt (pipeline at n : ℕ) (bytes : List ℕ) (ps : List PlacedModel) : Type 0 where
  bytes_are : bytes ≡ flat_map placed_bytes ps
  number : length ps ≡ n
  checks : All (λ p. IsOp pipeline p.op) ps
  positions : AreInRow at ps

ops_spelled : (pl n at : ℕ) (bytes : List ℕ) (ps : List PlacedModel) → Passes (times n (placed_form pl)) at bytes ps → AreSpelledAt pl at n bytes ps
ops_spelled pl zero at bytes ps (z, w) =
    subst (AreSpelledAt pl at zero bytes) (sym w) (record { bytes_are = z; number = refl; checks = λ k d lt. absurd (omega arith); positions = tt })
ops_spelled pl (suc n) at bytes ps (p, one, rest, e0, h, (qs, two, three, e1, k, (z, w))) =
    let a = placed_spelled pl at one p h in
    let b = ops_spelled pl n (at + length one) two qs k in
    let long : length (p ∷ qs) ≡ suc n = let m = b.number in omega (arith, m) in
    subst (AreSpelledAt pl at (suc n) bytes) (sym w) (record {
      bytes_are = joined e0 a.bytes_are (alone e1 b.bytes_are z);
      number = long;
      checks = All-cons (λ q. IsOp pl q.op) p qs a.checks b.checks;
      positions = (a.position, subst (λ (o : List ℕ). AreInRow (at + length o) qs) a.bytes_are b.positions);
    })

ops_pass : (pl n at : ℕ) (ps : List PlacedModel) → length ps ≡ n → All (λ p. IsOp pl p.op) ps → AreInRow at ps → Passes (times n (placed_form pl)) at (flat_map placed_bytes ps) ps
ops_pass pl zero at [] e all row = (refl, refl)
ops_pass pl zero at (p ∷ ps) e all row = absurd (omega arith)
ops_pass pl (suc n) at [] e all row = absurd (omega arith)
ops_pass pl (suc n) at (p ∷ ps) e all row =
    let here_it : PlacedModel = record { at = at; op = p.op } in
    let same : here_it ≡ p = ap (λ (k : ℕ). let q : PlacedModel = record { at = k; op = p.op } in q) (sym row.0) in
    let one : Passes (placed_form pl) at (placed_bytes p) p =
    subst (Passes (placed_form pl) at (placed_bytes p)) same (placed_passes pl at p.op (All-head (λ q. IsOp pl q.op) p ps all)) in (
      p,
      placed_bytes p,
      flat_map placed_bytes ps,
      refl,
      one,
      (ps, flat_map placed_bytes ps, [], at_end (flat_map placed_bytes ps), ops_pass pl n (at + length (placed_bytes p)) ps (omega arith) (All-tail (λ q. IsOp pl q.op) p ps all) row.1, (refl, refl)),
    )

-- ---- a transaction

pipeline_spelling : HasSpelling pipeline_form byte_bytes (λ n. n ≤ 63)
unfolding pipeline_form
pipeline_spelling =
    with_fact (λ n. n ≤ 63) (refuse_if_spelling (λ n. ltb 63 n) code.BadNumber byte_spelling)
    (λ n h. ltb-false 63 n h.1) (λ n h. (omega arith, le-ltb 63 n h))

two_bytes : (n : ℕ) → length (u16_bytes n) ≡ 2
unfolding u16_bytes
two_bytes n = refl

pub txn_spelled : (t : TxnModel) (bytes : List ℕ) → TxnSpells t bytes → (bytes ≡ txn_bytes t) × IsTxn t
unfolding txn_form
txn_spelled t bytes (pl, one, r0, e0, p0, (frame, two, r1, e1, p1, (count, three, r2, e2, p2, (ops, four, five, e3, p3, (len, none, six, e4, (z4, w4), (z, w)))))) =
    let a = pipeline_spelling.spelled _ one pl p0 in
    let b = flag_spelling.spelled _ two frame p1 in
    let c = u16_spelling.spelled _ three count p2 in
    let d = ops_spelled pl count _ four ops p3 in
    let first : length one ≡ 1 = ap (λ (o : List ℕ). length o) a.0 in
    let second : length two ≡ 1 = ap (λ (o : List ℕ). length o) b.0 in
    let third : length three ≡ 2 = ap (λ (o : List ℕ). length o) c.0 ∙ two_bytes count in
    let from : 0 + length one + length two + length three ≡ 4 = omega (arith, first, second, third) in
    let number : count ≡ length ops = sym d.number in
    let counted : three ≡ u16_bytes (length ops) = c.0 ∙ ap u16_bytes number in
    let nil : five ≡ [] = skipped e4 z4 ∙ z in
    let u : TxnModel = record { pipeline = pl; frame = frame; len = len; ops = ops } in
    let bytes_are : bytes ≡ txn_bytes u = joined e0 a.0 (joined e1 b.0 (joined e2 counted (joined e3 d.bytes_are nil))) in
    let l0 : length bytes ≡ length one + length r0 = ap (λ (o : List ℕ). length o) e0 ∙ length-append one r0 in
    let l1 : length r0 ≡ length two + length r1 = ap (λ (o : List ℕ). length o) e1 ∙ length-append two r1 in
    let l2 : length r1 ≡ length three + length r2 = ap (λ (o : List ℕ). length o) e2 ∙ length-append three r2 in
    let l3 : length r2 ≡ length four + length five = ap (λ (o : List ℕ). length o) e3 ∙ length-append four five in
    let l4 : length five ≡ 0 = ap (λ (o : List ℕ). length o) nil in
    let total : len ≡ length bytes = omega (arith, w4, l0, l1, l2, l3, l4) in
    subst (λ (v : TxnModel). (bytes ≡ txn_bytes v) × IsTxn v) (sym w) (
      bytes_are,
      record {
        pipeline = a.1;
        few = subst (λ (n : ℕ). n < 2 ^ 16) number c.1;
        ops = d.checks;
        positions = subst (λ (n : ℕ). AreInRow n ops) from d.positions;
        len = total ∙ ap (λ (o : List ℕ). length o) bytes_are;
      },
    )

pub txn_passes : (t : TxnModel) → IsTxn t → TxnSpells t (txn_bytes t)
unfolding txn_form
txn_passes t h =
    let counted = u16_bytes (length t.ops) in
    let all = flat_map placed_bytes t.ops in
    let two = two_bytes (length t.ops) in
    let from : 4 ≡ 0 + 1 + 1 + length counted = omega (arith, two) in
    let total : t.len ≡ 0 + 1 + 1 + length counted + length all = omega (arith, h.len, two, length-append counted (all ++ []), length-append all []) in (
      t.pipeline,
      t.pipeline ∷ [],
      _,
      refl,
      pipeline_spelling.passes _ t.pipeline h.pipeline,
      (
        t.frame,
        flag_bytes t.frame,
        _,
        refl,
        flag_spelling.passes _ t.frame tt,
        (
          length t.ops,
          counted,
          _,
          refl,
          u16_spelling.passes _ (length t.ops) h.few,
          (
            t.ops,
            all,
            [],
            refl,
            ops_pass t.pipeline (length t.ops) _ t.ops refl h.ops (subst (λ (n : ℕ). AreInRow n t.ops) from h.positions),
            (t.len, [], [], refl, (refl, total), (refl, refl)),
          ),
        ),
      ),
    )

pub spelling_is_txn : (t : TxnModel) (bytes : List ℕ) → TxnSpells t bytes ↔ ((bytes ≡ txn_bytes t) × IsTxn t)
spelling_is_txn t bytes = (txn_spelled t bytes, λ (e, k). subst (TxnSpells t) (sym e) (txn_passes t k))

-- ---- what a transaction that is spelled has

pub is_txn : (t : TxnModel) → IsTxnSpelled t → IsTxn t
is_txn t (bytes, le, h) = (txn_spelled t bytes h).1

pub spelled_so : (t : TxnModel) → IsTxnSpelled t → TxnSpells t (txn_bytes t)
spelled_so t h = txn_passes t (is_txn t h)

fits : (pl : ℕ) (op : OpModel) → IsOp pl op → HasFittingLength op
fits pl (set_list epoch bytes) h = h.1
fits pl remove_pipeline h = tt
fits pl (scroll sid x y) h = tt
fits pl (set_offset id x y) h = tt
fits pl (set_opacity id opacity) h = tt
fits pl (add_image key w i pixels) h = tt
fits pl (update_image key x y w i pixels) h = tt
fits pl (delete_image key) h = tt
fits pl (add_glyph font glyph w i mask) h = tt
fits pl (delete_font font) h = tt
fits pl (set_view w i clear) h = tt
fits pl (tile_policy tw th budget) h = tt
fits pl drop_tiles h = tt

pub all_fit : (t : TxnModel) → IsTxnSpelled t → All FitsLength t.ops
all_fit t h = λ k d lt. record { fits = fits t.pipeline _ ((is_txn t h).ops k d lt) }

-- the operations of a row end within their bytes
row_within : (at len : ℕ) (ps : List PlacedModel) → at + length (flat_map placed_bytes ps) ≤ len → AreInRow at ps → All (EndsWithin len) ps
row_within at len [] le row = λ k d lt. absurd (omega arith)
row_within at len (p ∷ ps) le row =
    let one = placed_bytes p in
    let parts : length (flat_map placed_bytes (p ∷ ps)) ≡ length one + length (flat_map placed_bytes ps) = length-append one (flat_map placed_bytes ps) in
    let position = row.0 in
    All-cons (EndsWithin len) p ps (record { ends = omega (arith, parts, position) }) (row_within (at + length one) len ps (omega (arith, parts)) row.1)

pub all_within : (t : TxnModel) → IsTxn t → All (EndsWithin t.len) t.ops
all_within t h =
    let counted = u16_bytes (length t.ops) in
    let all = flat_map placed_bytes t.ops in
    row_within 4 t.len t.ops (omega (arith, h.len, two_bytes (length t.ops), length-append counted (all ++ []), length-append all [])) h.positions

pub fits_payload : (t : TxnModel) → IsTxnSpelled t → t.len ≤ 2 ^ 26
fits_payload t (bytes, le, h) =
    let s = txn_spelled t bytes h in
    let long : length bytes ≡ length (txn_bytes t) = ap (λ (o : List ℕ). length o) s.0 in
    let whole = s.1.len in
    omega (arith, long, whole)
