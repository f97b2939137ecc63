use Rattle.std.proofs.Common.{◌≡◌, ◌<◌, ◌≤◌, ◌+◌, ◌*◌, ◌^◌, ℕ, min, get_or}
use Rattle.blend_rules.specs.Colour.{IsPixel, colour_from}
use Rattle.image_store.proofs.OpaqueCounts.{alphas_counted}
use Rattle.image_store.proofs.planes.split_texels.Given as goal

abbrev pub invariant-loop-i : goal.invariant-loop-i
invariant-loop-i l = record {
  blue : (k : ℕ) → k < l.i → get_or l.b k 0 ≡ min (get_or l.bytes (4 * k) 0) (get_or l.bytes (4 * k + 3) 0);
  green : (k : ℕ) → k < l.i → get_or l.g k 0 ≡ min (get_or l.bytes (4 * k + 1) 0) (get_or l.bytes (4 * k + 3) 0);
  red : (k : ℕ) → k < l.i → get_or l.r k 0 ≡ min (get_or l.bytes (4 * k + 2) 0) (get_or l.bytes (4 * k + 3) 0);
  bound : l.opaque ≤ l.i;
  sound : l.over ≡ 0 → (k : ℕ) → k < l.i → IsPixel (colour_from l.bytes (4 * k));
  byte : (k : ℕ) → k < l.i → get_or l.bytes (4 * k + 3) 0 < 2 ^ 8;
  exact : ((k : ℕ) → k < l.i → IsPixel (colour_from l.bytes (4 * k))) → l.over ≡ 0;
  counted : l.opaque ≡ alphas_counted l.bytes l.i;
  alpha : (k : ℕ) → k < l.i → get_or l.a k 0 ≡ get_or l.bytes (4 * k + 3) 0;
}
