use mathlib.Core.Path.{sym}
use lib.Seq.{set_out}
use Rattle.patterns.proofs.mark_symbol.Goals as goal

pub returns-else-at-mask : goal.returns-else-at-mask
returns-else-at-mask c = sym (set_out _ _ _ c.if-at-mask.false)
