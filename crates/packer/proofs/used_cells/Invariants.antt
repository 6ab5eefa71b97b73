-- `used` is the highest used cell + 1 among the cells below `n`, or 1.
use Prim.Native.Nat.{◌≤◌, ◌*◌, ◌-◌}
use mathlib.Core.Path.{◌≡◌}
use lib.ListN.{drop}
use Rattle.base.specs.Limits.{cell_limit}
use Rattle.table.specs.Table.{cell_size}
use Rattle.fit.specs.Cells.{used_from}
use Rattle.packer.proofs.used_cells.Given as goal

abbrev pub invariant-loop-n : goal.invariant-loop-n
invariant-loop-n l = (1 ≤ l.used) × (l.used ≤ cell_limit) × (used_from l.cells 0 cell_limit 1 ≡ used_from (drop (cell_size * l.n) l.cells) l.n (cell_limit - l.n) l.used)
