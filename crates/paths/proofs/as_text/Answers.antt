use mathlib.Core.Path.{◌∙◌}
use native.Mathlib.Omega.{arith}
use Rattle.paths.proofs.Laws.{path_long}
use Rattle.paths.proofs.as_text.Goals as goal

pub returns-then-path-gt-LAST-clause-taken : goal.returns-then-path-gt-LAST-clause-taken
returns-then-path-gt-LAST-clause-taken c = λ e u. path_long _ (omega (arith, c.if-path-gt-LAST.true)) ∙ e
