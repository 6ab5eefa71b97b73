-- The breaks below gap i are in the cleared room.
use Prim.Native.Nat.{◌≤◌}
use Rattle.hyphenation.proofs.Rooms.{Broken}
use Rattle.hyphenation.proofs.put_breaks.Given as goal

abbrev pub invariant-loop-i : goal.invariant-loop-i
invariant-loop-i l = (l.fn.margins.left ≤ l.i) × Broken l.fn.margins.left l.fn.margins.right l.fn.margins.letters l.levels l.i l.room
