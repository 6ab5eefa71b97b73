-- The table goes on with no symbol from low up to `symbol`.
use Prim.Native.Nat.{◌-◌}
use mathlib.Core.Path.{◌≡◌}
use Rattle.base.specs.Tests.{all_from}
use Rattle.rightness.specs.Test.{none_between}
use Rattle.checker.proofs.Laws.{free}
use Rattle.checker.proofs.is_none_between.Given as goal

abbrev pub invariant-loop-symbol : goal.invariant-loop-symbol
invariant-loop-symbol l = none_between l.cells l.node l.low l.high ≡ all_from (free l.cells l.node) l.symbol (l.high - l.symbol)
