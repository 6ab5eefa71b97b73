use mathlib.Core.Path.{sym, ◌∙◌}
use Rattle.base.proofs.Grounds.{pass, stop, said_by, judged_by, handed_on}
use Rattle.table.proofs.Order.{table_ordered}
use Rattle.hyphenation.proofs.Order.{word_alone_ordered, levels_ordered, levels_after_word}
use Rattle.hyphenation.proofs.judge_levels.Goals as goal

pub returns-in_err-judge_word_alone : goal.returns-in_err-judge_word_alone
returns-in_err-judge_word_alone c = said_by (levels_ordered _ _ _) (handed_on _ c.from_residual.ensures.1 ∙ sym (levels_after_word _ _ _ ∙ stop _ (judged_by (word_alone_ordered _ _) c.judge_word_alone.ensures) c.in_err-judge_word_alone.was))

pub returns : goal.returns
returns c = said_by (levels_ordered _ _ _) (judged_by (table_ordered _) c.judge_table.ensures ∙ sym (levels_after_word _ _ _ ∙ pass _ (judged_by (word_alone_ordered _ _) c.judge_word_alone.ensures) c.in_ok-judge_word_alone.was))
