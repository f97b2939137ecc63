-- What contracts see of a frame.
use Rattle.std.specs.Prelude.{ℕ, Option}
use Rattle.span_kernels.specs.PlanesModel.{PlanesModel}

-- its planes, and the count of the store from which they were composed, once they were
pub record FrameModel : Type 0 where
  pub planes : PlanesModel
  pub opened : Option ℕ
