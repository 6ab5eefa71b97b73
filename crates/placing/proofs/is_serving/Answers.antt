use borrow.Author.Tests.{ne_eqb}
use lib.ListN.{get_or}
use Rattle.fit.specs.Cells.{serves}
use Rattle.placing.proofs.is_serving.Goals as goal

pub returns-then-s-base-ne0 : goal.returns-then-s-base-ne0
unfolding serves
returns-then-s-base-ne0 c = rw (ne_eqb (get_or c.args.s.now.taken.now c.args.base 0) 0 c.if-s-base-ne0.true)
