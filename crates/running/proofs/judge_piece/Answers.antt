use mathlib.Core.Path.{◌∙◌}
use Rattle.base.proofs.Grounds.{said_by, judged_by, handed_on}
use Rattle.running.proofs.Laws.{piece_setting, piece_past, piece_room_lem, piece_fine}
use Rattle.running.proofs.Order.{setting_ordered, piece_ordered}
use Rattle.running.proofs.judge_piece.Goals as goal

pub returns-in_err-judge_setting : goal.returns-in_err-judge_setting
returns-in_err-judge_setting c = said_by (piece_ordered _ _ _ _ _ _ _ _ _) (handed_on _ c.from_residual.ensures.1 ∙ piece_setting _ _ _ _ _ _ _ _ _ (judged_by (setting_ordered _ _ _ _ _) c.judge_setting.ensures) c.in_err-judge_setting.was)

pub returns-then-is_past : goal.returns-then-is_past
returns-then-is_past c = said_by (piece_ordered _ _ _ _ _ _ _ _ _) (piece_past _ _ _ _ _ _ _ _ _ (judged_by (setting_ordered _ _ _ _ _) c.judge_setting.ensures) c.in_ok-judge_setting.was c.is_past.ensures c.if-is_past.true)

pub returns-then-is_short : goal.returns-then-is_short
returns-then-is_short c = said_by (piece_ordered _ _ _ _ _ _ _ _ _) (piece_room_lem _ _ _ _ _ _ _ _ _ (judged_by (setting_ordered _ _ _ _ _) c.judge_setting.ensures) c.in_ok-judge_setting.was c.is_past.ensures c.if-is_past.false c.is_short.ensures c.if-is_short.true)

pub returns : goal.returns
returns c = said_by (piece_ordered _ _ _ _ _ _ _ _ _) (piece_fine _ _ _ _ _ _ _ _ _ (judged_by (setting_ordered _ _ _ _ _) c.judge_setting.ensures) c.in_ok-judge_setting.was c.is_past.ensures c.if-is_past.false c.is_short.ensures c.if-is_short.false)
