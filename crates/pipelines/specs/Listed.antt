-- A list with its epoch.
use Rattle.std.specs.Prelude.{ℕ}
use Rattle.display_list.specs.ListModel.{ListModel}

pub record ListedModel : Type 0 where
  pub list : ListModel
  pub epoch : ℕ
