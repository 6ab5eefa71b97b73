-- What the bytes from here on give is still to come.
use Rattle.flowing.proofs.Pieces.{Taking}
use Rattle.flowing.proofs.Flow.take_bytes.Given as goal

abbrev pub invariant-loop-b : goal.invariant-loop-b
invariant-loop-b l = Taking l.setting.left l.setting.right l.setting.customer.now l.setting.house.now l.setting.table.now l.piece l.initial.self l.initial.out l.b-index l.self l.out
