use mathlib.Core.Path.{◌∙◌}
use Rattle.base.specs.Limits.{pattern_limit}
use Rattle.placing.proofs.Laws.{placed, lengths_done}
use Rattle.placing.proofs.place_all.Goals as goal

pub returns : goal.returns
returns c = placed (c.loop-m.invariant.1 ∙ lengths_done _ _ pattern_limit _ _ c.loop-m-test.false)
