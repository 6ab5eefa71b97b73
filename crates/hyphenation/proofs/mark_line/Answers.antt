use borrow.Author.Rules.{rules}
use mathlib.Core.Path.{sym, ◌∙◌}
use Rattle.hyphenation.proofs.Laws.{mark_letter, mark_hyphen}
use Rattle.hyphenation.proofs.mark_line.Goals as goal

pub loop-b-preserved-then-b-ne-HYPHEN : goal.loop-b-preserved-then-b-ne-HYPHEN
loop-b-preserved-then-b-ne-HYPHEN c = (search rules, c.loop-b.invariant.1 ∙ mark_letter _ _ _ c.loop-b-test.true _ _ c.if-b-ne-HYPHEN.true)

pub loop-b-preserved : goal.loop-b-preserved
loop-b-preserved c = (search rules, c.loop-b.invariant.1 ∙ mark_hyphen _ _ _ c.loop-b-test.true _ _ c.if-b-ne-HYPHEN.false c.if-gap-ge-ROOM_SIZE.false (sym c.fit.ensures ∙ c.if-not-fit.false))
