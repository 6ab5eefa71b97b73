use native.Mathlib.Omega.{arith}
use Rattle.flowing.proofs.Laws.{ending_fits, looks_fit, finish_goes}
use Rattle.flowing.proofs.Flow.finish_word.Goals as goal

pub overflow_add-self : goal.overflow_add-self
overflow_add-self c = omega (arith, looks_fit c.args.setting.now.left c.args.setting.now.right c.args.setting.now.customer.now c.args.setting.now.house.now c.args.setting.now.table.now c.args.b c.args.self.now c.args.out.now c.requires c.put_held.ensures)

pub put_byte-requires : goal.put_byte-requires
put_byte-requires c = ending_fits c.args.setting.now.left c.args.setting.now.right c.args.setting.now.customer.now c.args.setting.now.house.now c.args.setting.now.table.now c.args.b c.args.self.now c.args.out.now c.requires c.put_held.ensures

pub returns : goal.returns
returns c = finish_goes c.args.setting.now.left c.args.setting.now.right c.args.setting.now.customer.now c.args.setting.now.house.now c.args.setting.now.table.now c.args.b c.args.self.now c.args.out.now c.requires c.put_held.ensures c.put_byte.ensures
