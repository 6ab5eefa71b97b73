use borrow.Author.Rules.{rules}
use mathlib.Core.Path.{◌∙◌, ap}
use Rattle.lists.specs.Lists.{bad_exception}
use Rattle.lists.proofs.Laws.{exception_lines}
use Rattle.lists.proofs.judge_exception_lines.Goals as goal

pub returns : goal.returns
returns c = exception_lines _ _ c.map_err.ensures.cases (λ offset g made. search rules) ∙ ap (bad_exception _) c.judge_lines.ensures
