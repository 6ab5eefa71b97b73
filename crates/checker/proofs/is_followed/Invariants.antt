-- The line's first m symbols, which stand before the byte in hand, lead to the node and passed, so that what is left decides.
use Rattle.checker.proofs.Laws as law
use Rattle.checker.proofs.is_followed.Given as goal

abbrev pub invariant-loop-b : goal.invariant-loop-b
invariant-loop-b l = law.Following l.cells l.entries l.root l.own l.beside l.node l.output l.m l.b-index
