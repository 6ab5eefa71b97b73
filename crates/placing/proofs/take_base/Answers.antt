use mathlib.Core.Path.{sym}
use native.Mathlib.Omega.{arith}
use lib.Seq.{set_out}
use Rattle.placing.proofs.take_base.Goals as goal

pub returns-else-at-lt8192 : goal.returns-else-at-lt8192
returns-else-at-lt8192 c = sym (set_out c.args.taken.now _ _ (omega arith))
