-- The order of the two lines is that of what is left of them; what is left of both falls.
use Prim.Native.Nat.{◌≤◌, ◌+◌, ◌-◌}
use mathlib.Core.Path.{◌≡◌}
use lib.ListN.{length}
use Rattle.words.specs.Symbols.{symbols_of}
use Rattle.lines.specs.Order.{before}
use Rattle.lines.proofs.Laws as law
use Rattle.lines.proofs.ascends.Given as goal

abbrev pub invariant-loop-j : goal.invariant-loop-j
invariant-loop-j l = (l.i ≤ length l.above) × (l.j ≤ length l.line) × (before (symbols_of l.above) (symbols_of l.line) ≡ law.lines_before l.above l.i l.line l.j)

abbrev pub decreases-loop-j : goal.decreases-loop-j
decreases-loop-j l = length l.above - l.i + (length l.line - l.j)
