use mathlib.Core.Path.{◌∙◌, refl}
use Rattle.tteolmigu.proofs.Laws.{end_left}
use Rattle.tteolmigu.proofs.tteolmigu_end.Goals as goal

pub returns : goal.returns
returns c =
    let s = c.setting_of-setting.ensures in
    let t = c.setting_of-setting.result in
    let x = end_left c.args.state.now t.left t.right t.customer.now t.house.now t.table.now c.read_bytes-given.ensures c.args.room.now c.end_text-taken.ensures c.put_taken.ensures.bits c.put_taken.ensures.state in
    record { bits = x.0 ∙ rw s refl; state = x.1 ∙ rw s refl; memory = x.2 ∙ rw s refl }
