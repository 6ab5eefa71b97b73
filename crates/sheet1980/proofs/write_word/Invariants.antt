use Rattle.sheet1980.proofs.Laws as law
use Rattle.sheet1980.proofs.write_word.Given as goal

abbrev pub invariant-loop-i : goal.invariant-loop-i
invariant-loop-i l = law.Written l.word l.sheet l.i
