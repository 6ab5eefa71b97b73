-- The records before n have the kind, so that those from n on decide.
use Prim.Native.Nat.{◌-◌, ◌*◌}
use mathlib.Core.Path.{◌≡◌}
use Rattle.rightness.specs.Test.{kinds_from}
use Rattle.checker.proofs.are_kinds.Given as goal

abbrev pub invariant-loop-n : goal.invariant-loop-n
invariant-loop-n l = kinds_from l.size l.kind l.bytes 0 l.count ≡ kinds_from l.size l.kind l.bytes (l.size * l.n) (l.count - l.n)
