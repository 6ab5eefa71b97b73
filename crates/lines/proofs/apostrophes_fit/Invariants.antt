-- The apostrophes fit where those of the rest do, after what stands before them; what is left of the line falls.
use mathlib.Core.Path.{◌≡◌}
use lib.ListN.{drop}
use Rattle.words.specs.Symbols.{symbols_of}
use Rattle.lines.specs.Apostrophes.{apostrophes_fit}
use Rattle.lines.proofs.Laws as law
use Rattle.lines.proofs.apostrophes_fit.Given as goal

abbrev pub invariant-loop-b : goal.invariant-loop-b
invariant-loop-b l = apostrophes_fit l.ends l.ends (symbols_of l.line) ≡ law.fit_rest l.ends l.before l.waits (symbols_of (drop l.b-index l.line))
