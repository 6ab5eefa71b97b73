use borrow.Author.Rules.{rules}
use Rattle.running.proofs.Laws.{end_done}
use Rattle.running.proofs.flow_end.Goals as goal

pub returns : goal.returns
returns c = end_done c.args.held.now c.args.setting.now.left c.args.setting.now.right c.args.setting.now.customer.now c.args.setting.now.house.now c.args.setting.now.table.now c.args.room.now c.new-out.ensures.at c.new-out.ensures.now c.put_held-looks.ensures (search rules)
