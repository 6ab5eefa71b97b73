-- Word and line agree so far, so they are the same where their rests are; what is left of the line falls.
use Prim.Native.Nat.{◌-◌, ◌≤◌}
use mathlib.Core.Path.{◌≡◌}
use lib.ListN.{length, drop}
use Rattle.words.specs.Symbols.{symbols_of}
use Rattle.words.specs.Words.{word_symbols}
use Rattle.base.specs.Tests.{same_list}
use Rattle.lookup.proofs.Compare as law
use Rattle.lookup.proofs.same_letters.Given as goal

abbrev pub invariant-loop-i : goal.invariant-loop-i
invariant-loop-i l = (l.i ≤ length l.word) × (l.j ≤ length l.line) × (same_list (word_symbols (drop l.start l.word)) (symbols_of (drop l.start l.line)) ≡ law.same_from l.word l.i l.line l.j)

abbrev pub decreases-loop-i : goal.decreases-loop-i
decreases-loop-i l = length l.line - l.j
