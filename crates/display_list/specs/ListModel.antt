-- A display list as contracts see it: its definitions and items in order, where a context is a push, its items and a pop.
use Rattle.std.specs.Prelude.{List}
use Rattle.display_list.specs.declared.node.Node.{Node}
use Rattle.display_list.specs.declared.node.ClipDef.{ClipDef}
use Rattle.display_list.specs.declared.node.ChainDef.{ChainDef}
use Rattle.display_list.specs.declared.token.Token.{Token}

pub record ListModel : Type 0 where
  pub nodes : List Node
  pub clips : List ClipDef
  pub chains : List ChainDef
  pub items : List Token
