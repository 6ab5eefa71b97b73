-- The line is good where the rest is, with the letters and hyphens counted so far; what is left of the text falls.
use Rattle.lines.proofs.Laws as law
use Rattle.lines.proofs.exception_end.Given as goal

abbrev pub invariant-loop-i : goal.invariant-loop-i
invariant-loop-i l = law.Lettered l.text l.at l.run l.hyphens l.apostrophes l.i
