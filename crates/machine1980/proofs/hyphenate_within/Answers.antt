use Rattle.std.specs.Prelude.{Ok}
use Rattle.base.proofs.Grounds.{handed_on}
use Rattle.machine1980.proofs.Order.{refused, found}
use Rattle.machine1980.proofs.hyphenate_within.Goals as goal

pub returns-in_err-judge_1980 : goal.returns-in_err-judge_1980
returns-in_err-judge_1980 c =
    let k = c.args in
    refused k.budget k.word.now k.room.now c.judge_1980.ensures c.in_err-judge_1980.was (handed_on _ c.from_residual.ensures.1)

pub returns : goal.returns
returns c =
    let k = c.args in
    found k.budget k.word.now k.room.now c.judge_1980.ensures (Ok c.find_breaks.result) _ c.in_ok-judge_1980.was c.find_breaks.ensures
