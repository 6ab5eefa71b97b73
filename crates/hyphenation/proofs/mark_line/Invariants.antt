-- What the rest of the line marks in the room now is what the whole line marks in the room before.
use Prim.Native.Nat.{◌≤◌}
use mathlib.Core.Path.{◌≡◌}
use lib.ListN.{drop}
use Rattle.liang.specs.Breaks.{in_margins}
use Rattle.hyphenation.specs.Breaks.{mark_hyphens}
use Rattle.hyphenation.proofs.mark_line.Given as goal

abbrev pub invariant-loop-b : goal.invariant-loop-b
invariant-loop-b l = (l.gap ≤ l.b-index) × (mark_hyphens (in_margins l.margins.left l.margins.right l.margins.letters) 0 l.line l.initial.room ≡ mark_hyphens (in_margins l.margins.left l.margins.right l.margins.letters) l.gap (drop l.b-index l.line) l.room)
