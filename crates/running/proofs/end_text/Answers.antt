use Rattle.base.proofs.Grounds.{judged_by}
use mathlib.Core.Path.{sym}
use native.Mathlib.Omega.{arith}
use lib.Seq.{length-take-le}
use Rattle.running.proofs.Laws.{size_within}
use Rattle.running.proofs.Calls.{refused, end_judged, end_asks, end_found}
use Rattle.running.proofs.Order.{end_ordered, promised}
use Rattle.running.proofs.end_text.Goals as goal

pub returns-in-Err : goal.returns-in-Err
returns-in-Err c = promised (end_ordered _ _ _ _ _ _ _) (refused _ _ _ _ _ (end_judged c.args.state _ c.read_state-s.ensures c.args.setting.now.left c.args.setting.now.right c.args.setting.now.customer.now c.args.setting.now.house.now c.args.setting.now.table.now c.args.room.now (judged_by (end_ordered _ _ _ _ _ _ _) c.judge_end.ensures)) c.in-Err.is)

pub slice_bounds-held-end : goal.slice_bounds-held-end
slice_bounds-held-end c = omega (arith, size_within _ c.read_state-s.ensures.wide c.read_state-s.ensures.left, c.read_state-s.ensures.wide)

pub slice_bounds-flow_end-end : goal.slice_bounds-flow_end-end
slice_bounds-flow_end-end c = sym (length-take-le _ _ (omega (arith, size_within _ c.read_state-s.ensures.wide c.read_state-s.ensures.left, c.read_state-s.ensures.wide)))

pub flow_end-requires : goal.flow_end-requires
flow_end-requires c = end_asks c.args.state _ c.read_state-s.ensures c.args.setting.now.left c.args.setting.now.right c.args.setting.now.customer.now c.args.setting.now.house.now c.args.setting.now.table.now c.args.room.now (judged_by (end_ordered _ _ _ _ _ _ _) c.judge_end.ensures) c.in_default.is

pub returns : goal.returns
returns c = promised (end_ordered _ _ _ _ _ _ _) (end_found c.args.state _ c.read_state-s.ensures c.args.setting.now.left c.args.setting.now.right c.args.setting.now.customer.now c.args.setting.now.house.now c.args.setting.now.table.now c.args.room.now (judged_by (end_ordered _ _ _ _ _ _ _) c.judge_end.ensures) c.in_default.is c.new_text.ensures c.flow_end.ensures)
