use mathlib.Core.Path.{ap}
use native.Mathlib.Omega.{arith}
use lib.ListN.{length}
use Rattle.writing.proofs.Parts.{written_as}
use Rattle.report.proofs.Laws.{told_same}
use Rattle.report.proofs.put_refusal.Goals as goal

pub put_told-requires : goal.put_told-requires
put_told-requires c = omega (arith, c.requires, ap length (told_same c.args.sign c.number-number.ensures c.list-list.ensures c.place-place.ensures))

pub returns : goal.returns
returns c = written_as (told_same _ c.number-number.ensures c.list-list.ensures c.place-place.ensures) c.put_told.ensures
