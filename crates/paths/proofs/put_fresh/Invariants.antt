-- The first bytes of chance are letters.
use mathlib.Core.List.{◌++◌, map}
use mathlib.Core.Path.{◌≡◌}
use lib.ListN.{take, drop}
use Rattle.paths.specs.Paths.{letter_by}
use Rattle.paths.proofs.put_fresh.Given as goal

abbrev pub invariant-loop-b : goal.invariant-loop-b
invariant-loop-b l = l.name ≡ map letter_by (take l.b-index l.initial.name) ++ drop l.b-index l.initial.name
