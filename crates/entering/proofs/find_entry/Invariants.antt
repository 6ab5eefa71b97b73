-- No entry with a number below `k` holds the three numbers.
use Prim.Native.Nat.{suc, ◌≤◌, ◌-◌}
use mathlib.Core.Path.{◌≡◌}
use Rattle.base.specs.Limits.{entry_limit}
use Rattle.fit.specs.Entries.{find_entry}
use Rattle.entering.proofs.find_entry.Given as goal

abbrev pub invariant-loop-k : goal.invariant-loop-k
invariant-loop-k l = (1 ≤ l.k) × (l.k ≤ suc l.count) × (l.count ≤ entry_limit) × (find_entry l.bytes l.entry.distance l.entry.level l.entry.next 1 l.count ≡ find_entry l.bytes l.entry.distance l.entry.level l.entry.next l.k (suc l.count - l.k))
