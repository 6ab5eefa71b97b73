use Rattle.middle1980.specs.Joined.{joined}
use Rattle.middle1980.proofs.Going.{Going, steps_left}
use Rattle.middle1980.proofs.mark_middle.Given as goal

abbrev pub invariant-loop-step : goal.invariant-loop-step
invariant-loop-step l = Going l.finale l.n (joined l.initial.step l.initial.sheet) l.step l.sheet

abbrev pub decreases-loop-step : goal.decreases-loop-step
decreases-loop-step l = steps_left l.n l.step
