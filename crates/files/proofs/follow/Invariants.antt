-- The path lies in its room.
use Rattle.io.specs.Counts.{IsPrefixLen}
use Rattle.files.proofs.follow.Given as goal

abbrev pub invariant-loop : goal.invariant-loop
invariant-loop l = IsPrefixLen l.size l.room
