use Rattle.base.proofs.Grounds.{judged_by}
use Rattle.running.proofs.Calls.{refused, piece_judged, piece_asks, piece_found}
use Rattle.running.proofs.Order.{piece_ordered, promised}
use Rattle.running.proofs.take_piece.Goals as goal

pub returns-in-Err : goal.returns-in-Err
returns-in-Err c = promised (piece_ordered _ _ _ _ _ _ _ _ _) (refused _ _ _ _ _ (piece_judged c.args.state _ c.read_state-s.ensures c.args.setting.now.left c.args.setting.now.right c.args.setting.now.customer.now c.args.setting.now.house.now c.args.setting.now.table.now c.args.piece.now c.args.room.now (judged_by (piece_ordered _ _ _ _ _ _ _ _ _) c.judge_piece.ensures)) c.in-Err.is)

pub flow_piece-requires : goal.flow_piece-requires
flow_piece-requires c = piece_asks c.args.state _ c.read_state-s.ensures c.args.setting.now.left c.args.setting.now.right c.args.setting.now.customer.now c.args.setting.now.house.now c.args.setting.now.table.now c.args.piece.now c.args.room.now (judged_by (piece_ordered _ _ _ _ _ _ _ _ _) c.judge_piece.ensures) c.in_default.is

pub returns : goal.returns
returns c = promised (piece_ordered _ _ _ _ _ _ _ _ _) (piece_found c.args.state _ c.read_state-s.ensures c.args.setting.now.left c.args.setting.now.right c.args.setting.now.customer.now c.args.setting.now.house.now c.args.setting.now.table.now c.args.piece.now c.args.room.now (judged_by (piece_ordered _ _ _ _ _ _ _ _ _) c.judge_piece.ensures) c.in_default.is c.flow_piece.ensures)
