use Rattle.tteolmigu.proofs.Laws.{by_cases}
use Rattle.tteolmigu.specs.Bits.{answer_bits}
use mathlib.Core.Path.{◌∙◌, ap}
use Rattle.hyphenation.proofs.Order.{levels_ordered, computed}
use Rattle.tteolmigu.proofs.tteolmigu_levels.Goals as goal

pub returns : goal.returns
returns c = record { bits = by_cases answer_bits _ c.from.ensures ∙ ap answer_bits (computed (levels_ordered _ _ _) c.levels.ensures).answered; memory = (computed (levels_ordered _ _ _) c.levels.ensures).memory }
