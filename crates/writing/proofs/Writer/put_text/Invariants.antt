use Rattle.writing.proofs.Laws.{Begun}
use Rattle.writing.proofs.Writer.put_text.Given as goal

abbrev pub invariant-loop-i : goal.invariant-loop-i
invariant-loop-i l = Begun l.text l.initial.self l.self l.i
