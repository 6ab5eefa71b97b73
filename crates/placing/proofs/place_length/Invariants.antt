-- The lines before `rest` have their paths placed, and `above` is the last of them; the length of `rest` falls.
use mathlib.Core.List.{[]}
use mathlib.Core.Path.{◌≡◌}
use lib.ListN.{length}
use Rattle.words.specs.Symbols.{symbols_of}
use Rattle.liang.specs.Patterns.{patterns_of}
use Rattle.fit.specs.Cells.{Fits, place_length}
use Rattle.placing.proofs.place_length.Given as goal

abbrev pub invariant-loop-above : goal.invariant-loop-above
invariant-loop-above l = place_length l.root l.m [] (patterns_of l.text) (Fits l.initial.cells l.initial.taken) ≡ place_length l.root l.m (symbols_of l.above) (patterns_of l.rest) (Fits l.cells l.taken)

abbrev pub decreases-loop-above : goal.decreases-loop-above
decreases-loop-above l = length l.rest
