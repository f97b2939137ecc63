-- Rows that are changed part by part.
use Rattle.std.proofs.Common.{ℕ, ◌≡◌, ◌≤◌, ◌+◌, ◌-◌, List, length, arith, get_or, ◌∙◌}
use Rattle.std.proofs.lemmas.Simd.{get_or-put_chunk_at, get_or-put_chunk_below, get_or-put_chunk_above}
use lib.Lanes.{put_chunk}
use Rattle.span_kernels.specs.Lanes.{AreLanes}
use Rattle.span_kernels.specs.Stepped.{IsStepped}

module _ (f : ℕ → ℕ → ℕ) where
  -- sixteen that are stored
  pub stepped_block : (at : ℕ) (old block : List ℕ) → at + 16 ≤ length old → AreLanes block (λ k. f (at + k) (get_or old (at + k) 0)) → IsStepped f at (at + 16) old (put_chunk at old block)
  stepped_block at old block room is = record {
    inside = λ k le lt.
        let j : ℕ = k - at in
        let here : k ≡ at + j = omega arith in
        let long = is.count in
        rw here (get_or-put_chunk_at at old block j 0 (omega arith) (omega arith) ∙ is.each j (omega arith));
    below = λ k lt. get_or-put_chunk_below at old block k 0 lt;
    above = λ k le. let long = is.count in get_or-put_chunk_above at old block k 0 (omega arith);
  }
