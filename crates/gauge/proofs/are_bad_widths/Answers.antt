use Rattle.gauge.proofs.Laws.{given_hyphen, given_line, given_letters}
use Rattle.gauge.proofs.are_bad_widths.Goals as goal

pub returns-then-is_bad_width : goal.returns-then-is_bad_width
returns-then-is_bad_width c = given_hyphen _ _ c.is_bad_width.ensures c.if-is_bad_width.true

pub returns-then-is_bad_width-2 : goal.returns-then-is_bad_width-2
returns-then-is_bad_width-2 c = given_line _ _ c.is_bad_width.ensures c.if-is_bad_width.false c.is_bad_width-2.ensures c.if-is_bad_width-2.true

pub returns : goal.returns
returns c = given_letters _ _ c.is_bad_width.ensures c.if-is_bad_width.false c.is_bad_width-2.ensures c.if-is_bad_width-2.false c.any_bad.ensures
