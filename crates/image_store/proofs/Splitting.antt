-- A plane with bytes written from a place on.
use Rattle.std.proofs.Common.{◌≡◌, ℕ, ◌+◌, ◌-◌, ◌*◌, ◌/◌, ◌<◌, ◌≤◌, List, ◌++◌, length, take, drop, get_or, ap, ◌∙◌, arith}
use Rattle.std.proofs.lemmas.List.{length-append, length-drop, length-take-le, get_or-append_right, get_or_append_left}
use borrow.Rule.Slice.PartMut.{put_mid}
use Rattle.std.proofs.lemmas.Slice.{take-put_mid_below, drop-put_mid}
use Rattle.blend_rules.specs.Colour.{colour_from}
use Rattle.image_store.specs.Bands.{cut, IsSplit}
use Rattle.blend_rules.specs.declared.plane.Plane.{Plane}

pub split_part : (plane : Plane) (bytes : List ℕ) (at : ℕ) (old part : List ℕ) → at + length bytes / 4 ≤ length old → length part ≡ length bytes / 4
    → ((i : ℕ) → i < length bytes / 4 → get_or part i 0 ≡ cut plane (colour_from bytes (4 * i)))
    → IsSplit plane bytes at old (put_mid at (at + length bytes / 4 - at) old part)
split_part plane bytes at old part room long same =
    let n = length bytes / 4 in
    let k : at + n - at ≡ n = omega arith in
    let front : length (take at old) ≡ at = length-take-le at old (omega arith) in
    let back : length (drop (at + n - at) (drop at old)) ≡ length old - at - n = length-drop (at + n - at) (drop at old) ∙ (let d = length-drop at old in omega arith) in
    let both : length (take at old ++ (part ++ drop (at + n - at) (drop at old))) ≡ at + (n + (length old - at - n)) = length-append (take at old) (part ++ drop (at + n - at) (drop at old)) ∙ (let e = length-append part (drop (at + n - at) (drop at old)) in omega arith) in
    record {
      long = both ∙ (omega arith);
      below = take-put_mid_below at (at + n - at) old part at (omega arith) (omega arith);
      inside = λ i h.
          get_or-append_right (take at old) (part ++ drop (at + n - at) (drop at old)) at (at + i) 0 front (omega arith)
          ∙ ap (λ j. get_or (part ++ drop (at + n - at) (drop at old)) j 0) (omega arith)
          ∙ get_or_append_left part (drop (at + n - at) (drop at old)) 0 i (omega arith)
          ∙ same i h;
      above = drop-put_mid at (at + n - at) old part (at + n) (omega arith) (omega arith) (omega arith);
    }
