-- What a call on the store returned, against what it means.
use Rattle.std.specs.Prelude.{◌≡◌, ℕ, ◌<◌, Result, Ok, Err}
use Rattle.image_store.specs.declared.error.StoreError.{StoreError}
use Rattle.image_store.specs.declared.error.StoreError.TheVariants as errors

-- a refusal is the one that is meant, unless memory ran out
abbrev pub Refuses : {Y : Type 0} → StoreError → Result Y StoreError → Type 0
Refuses errors.NoMemory meant = Unit {0}
Refuses errors.Limit meant = meant ≡ Err errors.Limit
Refuses errors.UnknownImage meant = meant ≡ Err errors.UnknownImage
Refuses errors.OutOfWidth meant = meant ≡ Err errors.OutOfWidth
Refuses errors.OutOfHeight meant = meant ≡ Err errors.OutOfHeight
Refuses (errors.BadPixels i) meant = meant ≡ Err (errors.BadPixels i)

-- what stands after the call is what is meant, or the refusal is, unless memory ran out
abbrev pub Changes : {X Y : Type 0} → Result X StoreError → Y → Result Y StoreError → Type 0
Changes (Ok x) new meant = meant ≡ Ok new
Changes (Err e) new meant = Refuses e meant

-- the same of a call that takes no memory
abbrev pub ChangesSurely : {X Y : Type 0} → Result X StoreError → Y → Result Y StoreError → Type 0
ChangesSurely (Ok x) new meant = meant ≡ Ok new
ChangesSurely (Err e) new meant = meant ≡ Err e

-- the same where the new value is what was returned
abbrev pub Makes : {X : Type 0} → Result X StoreError → Result X StoreError → Type 0
Makes (Ok x) meant = meant ≡ Ok x
Makes (Err e) meant = Refuses e meant

-- a texel that is named is one of the first n
abbrev pub NamesTexelBelow : ℕ → StoreError → Type 0
NamesTexelBelow n (errors.BadPixels i) = i < n
NamesTexelBelow n errors.Limit = Unit {0}
NamesTexelBelow n errors.UnknownImage = Unit {0}
NamesTexelBelow n errors.OutOfWidth = Unit {0}
NamesTexelBelow n errors.OutOfHeight = Unit {0}
NamesTexelBelow n errors.NoMemory = Unit {0}
