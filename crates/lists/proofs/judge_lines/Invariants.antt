-- The lines before this place are good, so the judgement is that of the lines from here on; what is left of the text falls.
use Prim.Native.Nat.{◌≤◌, ◌-◌}
use mathlib.Core.Path.{◌≡◌}
use lib.ListN.{length, take, drop}
use Rattle.lines.specs.Lines.{cut}
use Rattle.lists.specs.Lists.{first_bad, judge_lines}
use Rattle.lists.proofs.judge_lines.Given as goal

abbrev pub invariant-loop-at : goal.invariant-loop-at
invariant-loop-at l = (l.above ≤ l.at) × (l.at ≤ length l.text) × (judge_lines l.form l.text ≡ first_bad l.form l.at (take (l.at - l.above) (drop l.above l.text)) (cut (drop l.at l.text)))

abbrev pub decreases-loop-at : goal.decreases-loop-at
decreases-loop-at l = length l.text - l.at
