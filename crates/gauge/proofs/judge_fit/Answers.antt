use mathlib.Core.Path.{◌∙◌}
use Rattle.base.proofs.Grounds.{said_by, judged_by, handed_on}
use Rattle.words.proofs.Order.{word_ordered}
use Rattle.gauge.proofs.Order.{fit_ordered}
use Rattle.gauge.proofs.Laws.{fit_short, fit_word_refused, fit_width, fit_fine}
use Rattle.gauge.proofs.judge_fit.Goals as goal

pub returns-then-size-lt-ROOM_SIZE : goal.returns-then-size-lt-ROOM_SIZE
returns-then-size-lt-ROOM_SIZE c = said_by (fit_ordered _ _ _ _) (fit_short _ _ _ _ c.if-size-lt-ROOM_SIZE.true)

pub returns-in_err-judge_word : goal.returns-in_err-judge_word
returns-in_err-judge_word c = said_by (fit_ordered _ _ _ _) (handed_on _ c.from_residual.ensures.1 ∙ fit_word_refused _ _ _ _ c.if-size-lt-ROOM_SIZE.false (judged_by (word_ordered _ _) c.judge_word.ensures) c.in_err-judge_word.was)

pub returns-then-are_bad_widths : goal.returns-then-are_bad_widths
returns-then-are_bad_widths c = said_by (fit_ordered _ _ _ _) (fit_width _ _ _ _ c.if-size-lt-ROOM_SIZE.false (judged_by (word_ordered _ _) c.judge_word.ensures) c.in_ok-judge_word.was c.are_bad_widths.ensures c.if-are_bad_widths.true)

pub returns : goal.returns
returns c = said_by (fit_ordered _ _ _ _) (fit_fine _ _ _ _ c.if-size-lt-ROOM_SIZE.false (judged_by (word_ordered _ _) c.judge_word.ensures) c.in_ok-judge_word.was c.are_bad_widths.ensures c.if-are_bad_widths.false)
