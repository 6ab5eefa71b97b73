use mathlib.Core.Path.{sym, ◌∙◌}
use Rattle.base.proofs.Grounds.{pass, stop, said_by, judged_by, handed_on}
use Rattle.hyphenation.specs.Calls.{judge_hyphenate}
use Rattle.words.proofs.Order.{word_ordered}
use Rattle.lists.proofs.Order.{lists_ordered}
use Rattle.table.proofs.Order.{table_ordered}
use Rattle.hyphenation.proofs.Order.{margins_ordered, room_ordered, hyphenate_ordered}
use Rattle.hyphenation.proofs.judge_hyphenate.Goals as goal

pub returns-in_err-judge_margins : goal.returns-in_err-judge_margins
unfolding judge_hyphenate
returns-in_err-judge_margins c = said_by (hyphenate_ordered _ _ _ _ _ _ _) (handed_on _ c.from_residual.ensures.1 ∙ sym (stop _ (judged_by (margins_ordered _ _) c.judge_margins.ensures) c.in_err-judge_margins.was))

pub returns-in_err-judge_room : goal.returns-in_err-judge_room
unfolding judge_hyphenate
returns-in_err-judge_room c = said_by (hyphenate_ordered _ _ _ _ _ _ _) (handed_on _ c.from_residual-in_err-judge_room.ensures.1 ∙ sym (pass _ (judged_by (margins_ordered _ _) c.judge_margins.ensures) c.in_ok-judge_margins.was ∙ stop _ (judged_by (room_ordered _) c.judge_room.ensures) c.in_err-judge_room.was))

pub returns-in_err-judge_word : goal.returns-in_err-judge_word
unfolding judge_hyphenate
returns-in_err-judge_word c = said_by (hyphenate_ordered _ _ _ _ _ _ _) (handed_on _ c.from_residual-in_err-judge_word.ensures.1 ∙ sym (pass _ (judged_by (margins_ordered _ _) c.judge_margins.ensures) c.in_ok-judge_margins.was ∙ pass _ (judged_by (room_ordered _) c.judge_room.ensures) c.in_ok-judge_room.was ∙ stop _ (judged_by (word_ordered _ _) c.judge_word.ensures) c.in_err-judge_word.was))

pub returns-in_err-judge_lists : goal.returns-in_err-judge_lists
unfolding judge_hyphenate
returns-in_err-judge_lists c = said_by (hyphenate_ordered _ _ _ _ _ _ _) (handed_on _ c.from_residual-in_err-judge_lists.ensures.1 ∙ sym (pass _ (judged_by (margins_ordered _ _) c.judge_margins.ensures) c.in_ok-judge_margins.was ∙ pass _ (judged_by (room_ordered _) c.judge_room.ensures) c.in_ok-judge_room.was ∙ pass _ (judged_by (word_ordered _ _) c.judge_word.ensures) c.in_ok-judge_word.was ∙ stop _ (judged_by (lists_ordered _ _) c.judge_lists.ensures) c.in_err-judge_lists.was))

pub returns : goal.returns
unfolding judge_hyphenate
returns c = said_by (hyphenate_ordered _ _ _ _ _ _ _) (judged_by (table_ordered _) c.judge_table.ensures ∙ sym (pass _ (judged_by (margins_ordered _ _) c.judge_margins.ensures) c.in_ok-judge_margins.was ∙ pass _ (judged_by (room_ordered _) c.judge_room.ensures) c.in_ok-judge_room.was ∙ pass _ (judged_by (word_ordered _ _) c.judge_word.ensures) c.in_ok-judge_word.was ∙ pass _ (judged_by (lists_ordered _ _) c.judge_lists.ensures) c.in_ok-judge_lists.was))
