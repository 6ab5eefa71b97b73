use borrow.Author.Rules.{rules}
use mathlib.Core.Path.{◌∙◌, ap}
use Rattle.lists.specs.Lists.{bad_pattern}
use Rattle.base.proofs.Grounds.{said_by, judged_by, handed_on}
use Rattle.lists.proofs.Order.{patterns_ordered, size_ordered}
use Rattle.lists.proofs.Laws.{patterns_size, patterns_lines, pattern_lines}
use Rattle.lists.proofs.judge_patterns.Goals as goal

pub returns-in_err-judge_size : goal.returns-in_err-judge_size
returns-in_err-judge_size c = said_by (patterns_ordered _) (handed_on _ c.from_residual.ensures.1 ∙ patterns_size _ (judged_by (size_ordered _ _) c.judge_size.ensures) c.in_err-judge_size.was)

pub returns : goal.returns
returns c = said_by (patterns_ordered _) (pattern_lines _ c.map_err.ensures.cases (λ offset g made. search rules) ∙ ap bad_pattern c.judge_lines.ensures ∙ patterns_lines _ (judged_by (size_ordered _ _) c.judge_size.ensures) c.in_ok-judge_size.was)
