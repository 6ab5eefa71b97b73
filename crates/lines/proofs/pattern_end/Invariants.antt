-- The line is good where the rest is, after the symbols and digits seen, and its end is the rest's; what is left of the text falls.
use Rattle.lines.proofs.Laws as law
use Rattle.lines.proofs.pattern_end.Given as goal

abbrev pub invariant-loop-i : goal.invariant-loop-i
invariant-loop-i l = law.Patterned l.text l.at l.opening l.after_digit l.letters l.digits l.apostrophes l.count l.i
