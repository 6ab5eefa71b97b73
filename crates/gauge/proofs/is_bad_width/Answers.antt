-- a float in code is read off its bits
use lib.Ieee.{of_bits}
use mathlib.Core.Path.{◌∙◌}
use Rattle.gauge.proofs.Laws.{width_below, width_above, width_number}
use Rattle.gauge.proofs.is_bad_width.Goals as goal

pub returns-then-width : goal.returns-then-width
unfolding of_bits
returns-then-width c = width_below _ c.if-width.true

pub returns-then-width-2 : goal.returns-then-width-2
unfolding of_bits
returns-then-width-2 c = width_above _ c.if-width.false c.if-width-2.true

pub returns : goal.returns
unfolding of_bits
returns c = c.is_nan.ensures.value ∙ width_number _ c.if-width.false c.if-width-2.false
