use Rattle.tteolmigu.proofs.Laws.{by_cases}
use Rattle.tteolmigu.specs.Bits.{check_bits}
use mathlib.Core.Path.{◌∙◌, ap}
use Rattle.base.proofs.Grounds.{judged_by}
use Rattle.rightness.proofs.Order.{check_ordered}
use Rattle.tteolmigu.proofs.tteolmigu_check.Goals as goal

pub returns : goal.returns
returns c = by_cases check_bits _ c.from.ensures ∙ ap check_bits (judged_by (check_ordered _ _) c.check.ensures)
