-- What the machine leaves from the row on is what it leaves as a whole, and each turn on the way may be taken. The budget falls.
use Rattle.std.proofs.Common.{◌≡◌, Continue}
use Rattle.turns1980.specs.Turns.{turns, Runs}
use Rattle.turns1980.proofs.run.Given as goal

abbrev pub invariant-loop-left : goal.invariant-loop-left
invariant-loop-left g l =
    (turns (g.M.Machine.step_gives l.machine) l.fn.budget (Continue l.fn.first) l.fn.sheet ≡ turns (g.M.Machine.step_gives l.machine) l.left (Continue l.row) l.sheet)
    × Runs (g.M.Machine.can_step l.machine) (g.M.Machine.step_gives l.machine) l.left (Continue l.row) l.sheet

abbrev pub decreases-loop-left : goal.decreases-loop-left
decreases-loop-left g l = l.left
