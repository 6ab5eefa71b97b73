use borrow.Author.Rules.{rules}
use Rattle.running.proofs.Laws.{starts_ready, piece_done}
use Rattle.running.proofs.flow_piece.Goals as goal

pub take_bytes-requires : goal.take_bytes-requires
take_bytes-requires c = starts_ready c.args.s (search rules) c.requires.0 c.args.piece.now c.args.room.now c.new-out.ensures.at c.new-out.ensures.now c.requires.1 c.requires.2

pub returns : goal.returns
returns c = piece_done c.args.s c.args.setting.now.left c.args.setting.now.right c.args.setting.now.customer.now c.args.setting.now.house.now c.args.setting.now.table.now c.args.piece.now c.args.room.now c.new-out.ensures.at c.new-out.ensures.now c.take_bytes.ensures c.clear_from.ensures (search rules)
