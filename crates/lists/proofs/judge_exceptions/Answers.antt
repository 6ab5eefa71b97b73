use mathlib.Core.Path.{◌∙◌}
use Rattle.base.proofs.Grounds.{said_by, judged_by, handed_on}
use Rattle.lists.proofs.Order.{exceptions_ordered, size_ordered}
use Rattle.lists.proofs.Laws.{exceptions_size, exceptions_lines}
use Rattle.lists.proofs.judge_exceptions.Goals as goal

pub returns-in_err-judge_size : goal.returns-in_err-judge_size
returns-in_err-judge_size c = said_by (exceptions_ordered _ _ _) (handed_on _ c.from_residual.ensures.1 ∙ exceptions_size _ _ _ (judged_by (size_ordered _ _) c.judge_size.ensures) c.in_err-judge_size.was)

pub returns : goal.returns
returns c = said_by (exceptions_ordered _ _ _) (c.judge_exception_lines.ensures ∙ exceptions_lines _ _ _ (judged_by (size_ordered _ _) c.judge_size.ensures) c.in_ok-judge_size.was)
