-- The levels at the distances below `distance` are entered.
use Prim.Native.Nat.{suc, ◌≤◌, ◌-◌}
use mathlib.Core.Path.{◌≡◌}
use Rattle.base.specs.Limits.{pattern_limit, entry_limit}
use Rattle.liang.specs.Patterns.{levels_from}
use Rattle.fit.specs.Entries as fit
use Rattle.entering.proofs.enter_levels.Given as goal

abbrev pub invariant-loop-distance : goal.invariant-loop-distance
invariant-loop-distance l = (l.distance ≤ suc l.m) × (l.m ≤ pattern_limit) × (l.made.count ≤ entry_limit) × (fit.enter_levels (levels_from 0 l.line) l.m 0 (suc l.m) (fit.Made l.initial.bytes l.count 0) ≡ fit.enter_levels (levels_from 0 l.line) l.m l.distance (suc l.m - l.distance) (fit.Made l.bytes l.made.count l.made.last))
