use mathlib.Core.Path.{sym, ◌∙◌}
use Rattle.base.proofs.All.{all_fail, all_end}
use Rattle.checker.proofs.Laws.{free_hit}
use Rattle.checker.proofs.is_none_between.Goals as goal

pub returns-then-is_some : goal.returns-then-is_some
returns-then-is_some c = sym (c.loop-symbol.invariant ∙ all_fail _ _ _ c.loop-symbol-test.true (free_hit _ _ c.if-node.false _ c.look_at.ensures (sym c.is_some.ensures ∙ c.if-is_some.true)))

pub returns : goal.returns
returns c = sym (c.loop-symbol.invariant ∙ all_end _ _ _ c.loop-symbol-test.false)
