use Rattle.machine1980.specs.Calls.{said1980, Answer1980}
use Rattle.tteolmigu.proofs.Laws.{by_cases}
use mathlib.Core.Path.{◌∙◌, ap}
use Rattle.tteolmigu.specs.Bits.{bits1980}
use Rattle.tteolmigu.proofs.tteolmigu_1980.Goals as goal

pub returns : goal.returns
unfolding said1980
returns c = record { bits = by_cases (λ (a : Answer1980). bits1980 (said1980 a)) _ c.from.ensures ∙ ap bits1980 c.hyphenate_1980.ensures.answered; memory = c.hyphenate_1980.ensures.memory }
