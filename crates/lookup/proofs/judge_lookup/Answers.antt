use mathlib.Core.Path.{◌∙◌}
use Rattle.base.proofs.Grounds.{said_by, judged_by, handed_on}
use Rattle.words.proofs.Order.{word_ordered}
use Rattle.lists.proofs.Order.{lists_ordered}
use Rattle.lookup.proofs.Order.{lookup_ordered}
use Rattle.lookup.proofs.Laws.{lookup_word, lookup_lists}
use Rattle.lookup.proofs.judge_lookup.Goals as goal

pub returns-in_err-judge_word : goal.returns-in_err-judge_word
returns-in_err-judge_word c = said_by (lookup_ordered _ _ _) (handed_on _ c.from_residual.ensures.1 ∙ lookup_word _ _ _ (judged_by (word_ordered _ _) c.judge_word.ensures) c.in_err-judge_word.was)

pub returns : goal.returns
returns c = said_by (lookup_ordered _ _ _) (judged_by (lists_ordered _ _) c.judge_lists.ensures ∙ lookup_lists _ _ _ (judged_by (word_ordered _ _) c.judge_word.ensures) c.in_ok-judge_word.was)
