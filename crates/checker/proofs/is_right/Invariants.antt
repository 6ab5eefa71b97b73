-- The lines before the one in hand passed, and known and low tell where the last of them parts from it; the lines that are left get fewer.
use lib.ListN.{length}
use Rattle.checker.proofs.Laws.{ahead, Lined}
use Rattle.checker.proofs.is_right.Given as goal

abbrev pub invariant-loop-next : goal.invariant-loop-next
invariant-loop-next l = Lined l.cells l.entries l.root l.list.text.now l.known l.low (ahead l.next l.lines.rest.now)

abbrev pub decreases-loop-next : goal.decreases-loop-next
decreases-loop-next l = length (ahead l.next l.lines.rest.now)
