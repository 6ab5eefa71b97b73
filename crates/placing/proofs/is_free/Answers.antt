use borrow.Author.Rules.{rules}
use Rattle.fit.specs.Cells.{is_free}
use Rattle.placing.proofs.is_free.Goals as goal

pub returns : goal.returns
unfolding is_free
returns c = search rules
