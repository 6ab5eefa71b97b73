use Rattle.std.proofs.Common.{rules}
use Rattle.gauge.proofs.Laws.{any_by}
use Rattle.gauge.proofs.any_bad.Goals as goal

pub returns : goal.returns
returns c = any_by c.args.widths.now _ (search rules) (search rules)
