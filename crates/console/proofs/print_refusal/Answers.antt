use mathlib.Core.Path.{ap}
use lib.ListN.{length}
use native.Mathlib.Omega.{arith}
use Rattle.writing.specs.Writing.{exclamation}
use Rattle.writing.proofs.Parts.{written_within}
use Rattle.report.proofs.Word.{refusal_fits}
use Rattle.console.proofs.print_refusal.Goals as goal

pub put_refusal-requires : goal.put_refusal-requires
put_refusal-requires c = refusal_fits exclamation c.args.ground c.new-w.result (omega (arith, c.new-w.ensures.at, ap length c.new-w.ensures.now))

pub written-requires : goal.written-requires
written-requires c = written_within c.put_refusal.ensures
