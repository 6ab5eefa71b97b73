use Rattle.std.proofs.Common.{ap, length, arith}
use Rattle.writing.proofs.Parts.{written_within}
use Rattle.report.proofs.Word.{sums_fit}
use Rattle.spool.proofs.Spool.print_sums.Goals as goal

pub put_sums-requires : goal.put_sums-requires
put_sums-requires g c = sums_fit c.args.self.now.words c.args.self.now.refused c.label.result.now c.args.self.now.sum c.new-w.result (omega (arith, c.label.ensures, c.new-w.ensures.at, ap length c.new-w.ensures.now))

pub written-requires : goal.written-requires
written-requires g c = written_within c.put_sums.ensures
