-- The bytes before i are equal, so the order is that of the rests; what is left of the line above falls.
use Prim.Native.Nat.{◌≤◌}
use mathlib.Core.Path.{◌≡◌}
use lib.ListN.{length}
use Rattle.words.specs.Symbols.{symbols_of}
use Rattle.lines.specs.Order.{before}
use Rattle.lines.proofs.Laws.{lines_before}
use Rattle.lines.proofs.same_bytes.Given as goal

abbrev pub invariant-loop-i : goal.invariant-loop-i
invariant-loop-i l = (l.i ≤ length l.above) × (l.i ≤ length l.line) × (before (symbols_of l.above) (symbols_of l.line) ≡ lines_before l.above l.i l.line l.i)
