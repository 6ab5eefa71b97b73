use mathlib.Core.Path.{sym, ◌∙◌}
use Rattle.base.proofs.Grounds.{pass, stop, said_by, judged_by, handed_on}
use Rattle.words.proofs.Order.{word_ordered}
use Rattle.hyphenation.specs.Calls.{judge_word_alone}
use Rattle.hyphenation.proofs.Order.{room_ordered, word_alone_ordered}
use Rattle.hyphenation.proofs.judge_word_alone.Goals as goal

pub returns-in_err-judge_room : goal.returns-in_err-judge_room
unfolding judge_word_alone
returns-in_err-judge_room c = said_by (word_alone_ordered _ _) (handed_on _ c.from_residual.ensures.1 ∙ sym (stop _ (judged_by (room_ordered _) c.judge_room.ensures) c.in_err-judge_room.was))

pub returns : goal.returns
unfolding judge_word_alone
returns c = said_by (word_alone_ordered _ _) (judged_by (word_ordered _ _) c.judge_word.ensures ∙ sym (pass _ (judged_by (room_ordered _) c.judge_room.ensures) c.in_ok-judge_room.was))
