use mathlib.Core.Path.{sym, ◌∙◌}
use Rattle.base.proofs.Grounds.{pass, stop, said_by, judged_by, handed_on}
use Rattle.lists.proofs.Order.{patterns_ordered}
use Rattle.table.proofs.Order.{table_ordered}
use Rattle.rightness.proofs.Order.{check_ordered}
use Rattle.rightness.specs.Test.{judge_check}
use Rattle.checker.proofs.Laws.{refused_kinds, refused_paths, accepted_right}
use Rattle.checker.proofs.check.Goals as goal

pub returns-in_err-judge_patterns : goal.returns-in_err-judge_patterns
unfolding judge_check
returns-in_err-judge_patterns c = said_by (check_ordered _ _) (handed_on _ c.from_residual.ensures.1 ∙ sym (stop _ (judged_by (patterns_ordered _) c.judge_patterns.ensures) c.in_err-judge_patterns.was))

pub returns-in_err-judge_table : goal.returns-in_err-judge_table
unfolding judge_check
returns-in_err-judge_table c = said_by (check_ordered _ _) (handed_on _ c.from_residual-in_err-judge_table.ensures.1 ∙ sym (pass _ (judged_by (patterns_ordered _) c.judge_patterns.ensures) c.in_ok-judge_patterns.was ∙ stop _ (judged_by (table_ordered _) c.judge_table.ensures) c.in_err-judge_table.was))

pub returns-then-not-has_kinds : goal.returns-then-not-has_kinds
unfolding judge_check
returns-then-not-has_kinds c = said_by (check_ordered _ _) (sym (pass _ (judged_by (patterns_ordered _) c.judge_patterns.ensures) c.in_ok-judge_patterns.was ∙ pass _ (judged_by (table_ordered _) c.judge_table.ensures) c.in_ok-judge_table.was ∙ refused_kinds _ _ c.cells_of-cells.ensures.bytes c.entries_of-entries.ensures.bytes c.cell_count.ensures c.entry_count.ensures c.has_kinds.ensures c.if-not-has_kinds.true))

pub invariant_of-is_right : goal.invariant_of-is_right
invariant_of-is_right c = record { judged = sym (judged_by (patterns_ordered _) c.judge_patterns.ensures) ∙ c.in_ok-judge_patterns.was }

pub returns-then-not-is_right : goal.returns-then-not-is_right
unfolding judge_check
returns-then-not-is_right c = said_by (check_ordered _ _) (sym (pass _ (judged_by (patterns_ordered _) c.judge_patterns.ensures) c.in_ok-judge_patterns.was ∙ pass _ (judged_by (table_ordered _) c.judge_table.ensures) c.in_ok-judge_table.was ∙ refused_paths _ _ c.cells_of-cells.ensures.bytes c.entries_of-entries.ensures.bytes c.cell_count.ensures c.entry_count.ensures c.has_kinds.ensures c.if-not-has_kinds.false c.is_right.ensures c.if-not-is_right.true))

pub returns : goal.returns
unfolding judge_check
returns c = said_by (check_ordered _ _) (sym (pass _ (judged_by (patterns_ordered _) c.judge_patterns.ensures) c.in_ok-judge_patterns.was ∙ pass _ (judged_by (table_ordered _) c.judge_table.ensures) c.in_ok-judge_table.was ∙ accepted_right _ _ c.cells_of-cells.ensures.bytes c.entries_of-entries.ensures.bytes c.cell_count.ensures c.entry_count.ensures c.has_kinds.ensures c.if-not-has_kinds.false c.is_right.ensures c.if-not-is_right.false))
