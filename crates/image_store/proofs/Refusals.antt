-- Refusals that are passed on.
use Rattle.std.proofs.Common.{ℕ, ◌≤◌, arith}
use Rattle.image_store.specs.Outcome.{NamesTexelBelow}
use Rattle.image_store.specs.declared.error.StoreError.{StoreError}
use Rattle.image_store.specs.declared.error.StoreError.TheVariants as errors

pub below_more : (n m : ℕ) (e : StoreError) → n ≤ m → NamesTexelBelow n e → NamesTexelBelow m e
below_more n m errors.NoMemory h b = tt
below_more n m errors.Limit h b = tt
below_more n m errors.UnknownImage h b = tt
below_more n m errors.OutOfWidth h b = tt
below_more n m errors.OutOfHeight h b = tt
below_more n m (errors.BadPixels i) h b = omega arith
