use Rattle.writing.proofs.Parts.{joined}
use Rattle.report.proofs.put_sums.Goals as goal

pub returns : goal.returns
returns c = joined c.put_counted.ensures (joined c.put_counted-2.ensures (joined c.put_counted-3.ensures c.put_byte.ensures))
