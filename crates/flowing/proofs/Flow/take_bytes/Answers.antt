use Rattle.flowing.proofs.Pieces.{start, ready_one, turn, done}
use Rattle.flowing.proofs.Flow.take_bytes.Goals as goal

pub loop-b-init : goal.loop-b-init
loop-b-init c = start c.args.setting.now.left c.args.setting.now.right c.args.setting.now.customer.now c.args.setting.now.house.now c.args.setting.now.table.now c.args.piece.now c.args.self.now c.args.out.now c.requires

pub take_byte-requires : goal.take_byte-requires
take_byte-requires c = ready_one c.args.setting.now.left c.args.setting.now.right c.args.setting.now.customer.now c.args.setting.now.house.now c.args.setting.now.table.now c.args.piece.now c.args.self.now c.args.out.now c.loop-b.b-index c.loop-b-test.true c.loop-b.self c.loop-b.out c.loop-b.invariant

pub loop-b-preserved : goal.loop-b-preserved
loop-b-preserved c = turn c.args.setting.now.left c.args.setting.now.right c.args.setting.now.customer.now c.args.setting.now.house.now c.args.setting.now.table.now c.args.piece.now c.args.self.now c.args.out.now c.loop-b.b-index c.loop-b-test.true c.loop-b.self c.loop-b.out c.loop-b.invariant c.take_byte.ensures

pub returns : goal.returns
returns c = done c.args.setting.now.left c.args.setting.now.right c.args.setting.now.customer.now c.args.setting.now.house.now c.args.setting.now.table.now c.args.piece.now c.args.self.now c.args.out.now c.loop-b.b-index c.loop-b-test.false c.loop-b.self c.loop-b.out c.loop-b.invariant
