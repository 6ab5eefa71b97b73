use mathlib.Core.Path.{◌≡◌}
use Rattle.base.specs.Limits.{room_size1980}
use Rattle.rooms.specs.Rooms.{written}
use Rattle.rooms.specs.Rooms as marks
use Rattle.rooms.proofs.Marks.{below}
use Rattle.machine1980.specs.Breaks.{is_break}
use Rattle.machine1980.proofs.put_breaks.Given as goal

abbrev pub invariant-loop-gap : goal.invariant-loop-gap
invariant-loop-gap l = l.room ≡ written room_size1980 (marks.sheet room_size1980 (below room_size1980 (is_break l.n l.finale l.sheet) l.gap)) l.initial.room
