use native.Mathlib.Omega.{arith}
use borrow.Author.Tests.{ne_eqb}
use Rattle.middle1980.proofs.Aspirates.{joins_rows}
use Rattle.middle1980.proofs.join_h.Goals as goal

pub overflow_add-result : goal.overflow_add-result
overflow_add-result c = omega (arith, joins_rows c.pair_word.ensures (ne_eqb _ 0 c.if-h-eq0.false))

pub overflow_sub-result : goal.overflow_sub-result
overflow_sub-result c = omega (arith, joins_rows c.pair_word.ensures (ne_eqb _ 0 c.if-h-eq0.false))
