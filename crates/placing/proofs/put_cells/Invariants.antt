-- The marked symbols below `symbol` have their cells.
use Prim.Native.Nat.{suc, ◌≤◌, ◌-◌}
use mathlib.Core.Path.{◌≡◌}
use Rattle.base.specs.Limits.{symbol_limit}
use Rattle.fit.specs.Cells.{put_cells}
use Rattle.placing.specs.Post.{marked}
use Rattle.placing.proofs.put_cells.Given as goal

abbrev pub invariant-loop-symbol : goal.invariant-loop-symbol
invariant-loop-symbol l = (l.symbol ≤ suc symbol_limit) × (put_cells (marked l.mask) l.base 1 symbol_limit l.initial.cells ≡ put_cells (marked l.mask) l.base l.symbol (suc symbol_limit - l.symbol) l.cells)
