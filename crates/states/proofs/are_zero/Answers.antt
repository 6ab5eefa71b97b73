use Rattle.std.proofs.Common.{rules}
use Rattle.states.proofs.Laws.{zeros_by}
use Rattle.states.proofs.are_zero.Goals as goal

pub returns : goal.returns
returns c = zeros_by c.args.bytes.now (search rules)
