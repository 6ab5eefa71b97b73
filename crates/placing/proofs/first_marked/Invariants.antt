-- `symbol` is one of the symbols.
use Rattle.base.specs.Limits.{symbol_limit}
use Prim.Native.Nat.{◌≤◌}
use Rattle.placing.proofs.first_marked.Given as goal

abbrev pub invariant-loop-symbol : goal.invariant-loop-symbol
invariant-loop-symbol l = (1 ≤ l.symbol) × (l.symbol ≤ symbol_limit)
