use Rattle.lines.proofs.Laws.{dot_out, dot_in}
use Rattle.lines.proofs.dot_fits.Goals as goal

pub returns-then-text-i : goal.returns-then-text-i
returns-then-text-i c = rw c.if-opening.false (dot_out _ _ c.if-text-i.true)

pub returns : goal.returns
returns c = rw c.if-opening.false (dot_in _ _ c.if-text-i.false)
