use Rattle.renderer.proofs.Beginning.{fresh_start}
use Rattle.renderer.proofs.parts.new_parts.Goals as goal

pub returns-clause-fresh : goal.returns-clause-fresh
returns-clause-fresh c = fresh_start c.start.result c.new.result c.in_ok-new.field-0 c.start.ensures c.new.ensures c.in_ok-new.ensures
