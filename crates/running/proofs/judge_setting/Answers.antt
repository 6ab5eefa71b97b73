use mathlib.Core.Path.{sym, ◌∙◌}
use Rattle.base.proofs.Grounds.{pass, stop, said_by, judged_by, handed_on}
use Rattle.lists.proofs.Order.{lists_ordered}
use Rattle.table.proofs.Order.{table_ordered}
use Rattle.hyphenation.proofs.Order.{margins_ordered}
use Rattle.running.specs.Calls.{judge_setting}
use Rattle.running.proofs.Order.{setting_ordered}
use Rattle.running.proofs.judge_setting.Goals as goal

pub returns-in_err-judge_margins : goal.returns-in_err-judge_margins
unfolding judge_setting
returns-in_err-judge_margins c = said_by (setting_ordered _ _ _ _ _) (handed_on _ c.from_residual.ensures.1 ∙ sym (stop _ (judged_by (margins_ordered _ _) c.judge_margins.ensures) c.in_err-judge_margins.was))

pub returns-in_err-judge_lists : goal.returns-in_err-judge_lists
unfolding judge_setting
returns-in_err-judge_lists c = said_by (setting_ordered _ _ _ _ _) (handed_on _ c.from_residual-in_err-judge_lists.ensures.1 ∙ sym (pass _ (judged_by (margins_ordered _ _) c.judge_margins.ensures) c.in_ok-judge_margins.was ∙ stop _ (judged_by (lists_ordered _ _) c.judge_lists.ensures) c.in_err-judge_lists.was))

pub returns : goal.returns
unfolding judge_setting
returns c = said_by (setting_ordered _ _ _ _ _) (judged_by (table_ordered _) c.judge_table.ensures ∙ sym (pass _ (judged_by (margins_ordered _ _) c.judge_margins.ensures) c.in_ok-judge_margins.was ∙ pass _ (judged_by (lists_ordered _ _) c.judge_lists.ensures) c.in_ok-judge_lists.was))
