-- The levels of the gaps before `gap` agree, and `level` stands at it before i.
use Prim.Native.Nat.{◌+◌, ◌≤◌}
use mathlib.Core.Path.{◌≡◌}
use lib.ListN.{length, drop}
use Rattle.base.specs.Limits.{pattern_limit}
use Rattle.words.specs.Symbols.{symbols_of}
use Rattle.liang.specs.Patterns.{levels_from}
use Rattle.checker.specs.Post.{same_levels}
use Rattle.checker.proofs.are_levels.Given as goal

abbrev pub invariant-loop-b : goal.invariant-loop-b
invariant-loop-b l = (l.gap + length (symbols_of (drop l.b-index l.line)) ≤ pattern_limit) × (same_levels l.room 0 (levels_from 0 l.line) ≡ same_levels l.room l.gap (levels_from l.level (drop l.b-index l.line)))
