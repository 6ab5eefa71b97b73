-- Outer: the settings of the places before this one are raised and their looks counted. Inner: m symbols have
-- matched from this place, and what they set is raised; what is left of the row falls.
use Prim.Native.Nat.{◌-◌}
use lib.ListN.{length}
use Rattle.walk.proofs.Laws as law
use Rattle.walk.proofs.walk_row.Given as goal

abbrev pub invariant-walk : goal.invariant-walk
invariant-walk l = law.Walking l.cells l.entries l.root l.n l.place l.row l.initial.room l.base l.m l.end l.room

abbrev pub decreases-walk : goal.decreases-walk
decreases-walk l = length l.row - l.end

abbrev pub invariant-loop-place : goal.invariant-loop-place
invariant-loop-place l = law.Going l.cells l.entries l.root l.n l.row l.initial.room l.place l.looks l.room
