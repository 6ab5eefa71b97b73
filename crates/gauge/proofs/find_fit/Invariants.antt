-- Behind the first i letters stand their width and the last break up to there.
use Prim.Native.Nat.{◌≤◌}
use Rattle.gauge.specs.Fit.{gauge_of}
use Rattle.gauge.proofs.Laws.{Measured}
use Rattle.gauge.proofs.find_fit.Given as goal

abbrev pub invariant-loop-i : goal.invariant-loop-i
invariant-loop-i l = (l.i ≤ l.last) × Measured (gauge_of l.hyphen l.line) l.widths l.word.bytes.now l.room l.i l.width l.found
