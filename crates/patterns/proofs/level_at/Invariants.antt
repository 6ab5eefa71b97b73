-- The level asked for is that of the rest, at the gaps still left.
use Rattle.std.proofs.Common.{◌≡◌, drop, get_or}
use Rattle.liang.specs.Patterns.{levels_from}
use Rattle.patterns.proofs.level_at.Given as goal

abbrev pub invariant-loop-b : goal.invariant-loop-b
invariant-loop-b l = get_or (levels_from 0 l.line) l.gap 0 ≡ get_or (levels_from l.level (drop l.b-index l.line)) l.left 0
