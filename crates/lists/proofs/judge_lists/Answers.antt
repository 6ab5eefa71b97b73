use mathlib.Core.Path.{◌∙◌, sym}
use Rattle.base.proofs.Grounds.{said_by, judged_by, handed_on}
use Rattle.lists.proofs.Order.{lists_ordered, size_ordered}
use Rattle.lists.proofs.Laws.{lists_size, lists_size_house, lists_customer, lists_house}
use Rattle.lists.proofs.judge_lists.Goals as goal

pub returns-in_err-judge_size : goal.returns-in_err-judge_size
returns-in_err-judge_size c = said_by (lists_ordered _ _) (handed_on _ c.from_residual.ensures.1 ∙ lists_size _ _ (judged_by (size_ordered _ _) c.judge_size.ensures) c.in_err-judge_size.was)

pub returns-in_err-judge_size-2 : goal.returns-in_err-judge_size-2
returns-in_err-judge_size-2 c = said_by (lists_ordered _ _) (handed_on _ c.from_residual-in_err-judge_size-2.ensures.1 ∙ lists_size_house _ _ (judged_by (size_ordered _ _) c.judge_size.ensures) c.in_ok-judge_size.was (judged_by (size_ordered _ _) c.judge_size-2.ensures) c.in_err-judge_size-2.was)

pub returns-in_err-judge_exception_lines : goal.returns-in_err-judge_exception_lines
returns-in_err-judge_exception_lines c = said_by (lists_ordered _ _) (handed_on _ c.from_residual-in_err-judge_exception_lines.ensures.1 ∙ lists_customer _ _ (judged_by (size_ordered _ _) c.judge_size.ensures) c.in_ok-judge_size.was (judged_by (size_ordered _ _) c.judge_size-2.ensures) c.in_ok-judge_size-2.was (sym c.judge_exception_lines.ensures ∙ c.in_err-judge_exception_lines.was))

pub returns : goal.returns
returns c = said_by (lists_ordered _ _) (c.judge_exception_lines-2.ensures ∙ lists_house _ _ (judged_by (size_ordered _ _) c.judge_size.ensures) c.in_ok-judge_size.was (judged_by (size_ordered _ _) c.judge_size-2.ensures) c.in_ok-judge_size-2.was (sym c.judge_exception_lines.ensures ∙ c.in_ok-judge_exception_lines.was))
