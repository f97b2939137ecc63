-- Which fault an operation has where the store refuses it, and at which position of the payload.
use Rattle.std.specs.Prelude.{ℕ, ◌+◌, ◌*◌}
use Rattle.wr_io.specs.declared.fault.Fault.{Fault}
use Rattle.wr_io.specs.declared.fault.Code.TheVariants as code
use Rattle.wr_io.specs.declared.fault.DecodeError.{DecodeError}
use Rattle.wr_io.specs.declared.fault.DecodeError.TheVariants as decoding
use Rattle.field_forms.specs.Outcome.{moved_fault}
use Rattle.scene_state.specs.declared.error.ApplyError.{ApplyError}
use Rattle.scene_state.specs.declared.error.ApplyError.TheVariants as reasons
use Rattle.image_store.specs.declared.error.StoreError.{StoreError}
use Rattle.image_store.specs.declared.error.StoreError.TheVariants as errors

-- Of an operation whose tag stands at a position, and its texels at another: the key is its first field, and the
-- width of a rectangle stands at its ninth byte. The store itself never lacks memory in what is meant.
abbrev pub fault_at : ℕ → ℕ → StoreError → Fault
fault_at at texels errors.Limit = record { code = code.Limit; at = at }
fault_at at texels errors.UnknownImage = record { code = code.UnknownImage; at = at + 1 }
fault_at at texels errors.OutOfWidth = record { code = code.BadNumber; at = at + 9 }
fault_at at texels errors.OutOfHeight = record { code = code.BadNumber; at = at + 11 }
fault_at at texels (errors.BadPixels i) = record { code = code.BadPixels; at = texels + 4 * i }
fault_at at texels errors.NoMemory = record { code = code.Limit; at = at }

-- the same of what a call on the store answers
abbrev pub error_at : ℕ → ℕ → StoreError → ApplyError
error_at at texels errors.NoMemory = reasons.NoMemory
error_at at texels errors.Limit = reasons.Fault (fault_at at texels errors.Limit)
error_at at texels errors.UnknownImage = reasons.Fault (fault_at at texels errors.UnknownImage)
error_at at texels errors.OutOfWidth = reasons.Fault (fault_at at texels errors.OutOfWidth)
error_at at texels errors.OutOfHeight = reasons.Fault (fault_at at texels errors.OutOfHeight)
error_at at texels (errors.BadPixels i) = reasons.Fault (fault_at at texels (errors.BadPixels i))

-- the error of a list whose bytes begin at a position
abbrev pub list_error : ℕ → DecodeError → ApplyError
list_error by decoding.NoMemory = reasons.NoMemory
list_error by (decoding.Fault f) = reasons.Fault (moved_fault by f)
