use borrow.Author.Rules.{rules}
use mathlib.Core.Path.{sym, ◌∙◌}
use Rattle.checker.proofs.Laws.{kinds_other}
use Rattle.checker.proofs.are_kinds.Goals as goal

pub returns-then-unwrap_or-kind : goal.returns-then-unwrap_or-kind
returns-then-unwrap_or-kind c = sym (c.loop-n.invariant ∙ kinds_other _ _ _ _ _ c.loop-n-test.true c.if-unwrap_or-kind.true (search rules))
