-- The cells from `n` on have their kind; `n` falls.
use Prim.Native.Nat.{◌≤◌}
use mathlib.Core.Path.{◌≡◌}
use Rattle.base.specs.Limits.{cell_limit}
use Rattle.fit.specs.Table.{put_kinds}
use Rattle.packer.proofs.put_kinds.Given as goal

abbrev pub invariant-loop-n : goal.invariant-loop-n
invariant-loop-n l = (l.n ≤ l.count) × (l.count ≤ cell_limit) × (put_kinds l.count l.initial.cells ≡ put_kinds l.n l.cells)

abbrev pub decreases-loop-n : goal.decreases-loop-n
decreases-loop-n l = l.n
