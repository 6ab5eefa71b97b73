-- So many symbols are shared, and the lines part where their rests do; what is left of both falls.
use Prim.Native.Nat.{◌≤◌, ◌+◌, ◌-◌}
use lib.ListN.{length}
use Rattle.patterns.proofs.Laws as law
use Rattle.patterns.proofs.part_lines.Given as goal

abbrev pub invariant-loop-i : goal.invariant-loop-i
invariant-loop-i l = (l.i ≤ length l.a) × (l.j ≤ length l.b) × (l.count ≤ l.i) × law.Parted l.a l.i l.b l.j l.count

abbrev pub decreases-loop-i : goal.decreases-loop-i
decreases-loop-i l = length l.a - l.i + (length l.b - l.j)
