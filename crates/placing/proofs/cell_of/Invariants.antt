-- The first `i` symbols lead from the root to `base`.
use Prim.Native.Nat.{◌<◌}
use mathlib.Core.Path.{◌≡◌}
use lib.ListN.{take, drop}
use Rattle.words.specs.Symbols.{symbols_of}
use Rattle.fit.specs.Cells.{cell_of}
use Rattle.placing.specs.Post.{base_numbers}
use Rattle.placing.proofs.cell_of.Given as goal

abbrev pub invariant-loop-i : goal.invariant-loop-i
invariant-loop-i l = (l.i < l.m) × (l.base < base_numbers) × (cell_of l.cells l.root (take l.m (symbols_of l.own)) ≡ cell_of l.cells l.base (drop l.i (take l.m (symbols_of l.own))))
