use borrow.Author.Rules.{rules}
use mathlib.Core.Path.{refl, sym, ◌∙◌}
use Rattle.checker.proofs.Laws.{same_last}
use Rattle.checker.proofs.are_levels.Goals as goal

pub loop-b-init : goal.loop-b-init
loop-b-init c = (search rules, refl)

pub returns : goal.returns
returns c = sym (c.loop-b.invariant.1 ∙ same_last _ _ _ _ _ c.loop-b-test.false)
