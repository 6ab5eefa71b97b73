use borrow.Author.Rules.{rules}
use mathlib.Core.Path.{sym, ◌∙◌}
use native.Mathlib.Omega.{arith}
use Rattle.lines.proofs.Laws.{line_starts, line_ends}
use Rattle.lists.proofs.Laws.{lines_start, lines_end, found_end, line_bad, line_low, line_good}
use Rattle.lists.proofs.judge_lines.Goals as goal

pub loop-at-init : goal.loop-at-init
loop-at-init c = (search rules, search rules, lines_start _ _)

pub returns-in_default : goal.returns-in_default
returns-in_default c = sym (c.loop-at.invariant.2 ∙ line_bad _ _ _ c.good_end-found.ensures _ c.loop-at-test.true c.in_default.is)

pub slice_bounds-ascends-count-in-loop-at : goal.slice_bounds-ascends-count-in-loop-at
slice_bounds-ascends-count-in-loop-at c = omega (arith, line_starts _ _ _ c.loop-at-test.true (found_end _ _ _ c.good_end-found.ensures c.in-Some.is))

pub slice_bounds-ascends-start-in-loop-at : goal.slice_bounds-ascends-start-in-loop-at
slice_bounds-ascends-start-in-loop-at c = omega (arith, line_starts _ _ _ c.loop-at-test.true (found_end _ _ _ c.good_end-found.ensures c.in-Some.is))

pub slice_bounds-ascends-end-in-loop-at : goal.slice_bounds-ascends-end-in-loop-at
slice_bounds-ascends-end-in-loop-at c = line_ends _ _ _ c.loop-at-test.true (found_end _ _ _ c.good_end-found.ensures c.in-Some.is)

pub returns-then-not-ascends : goal.returns-then-not-ascends
returns-then-not-ascends c = sym (c.loop-at.invariant.2 ∙ line_low _ _ _ c.good_end-found.ensures _ c.loop-at-test.true c.in-Some.is (sym c.ascends.ensures ∙ c.if-not-ascends.true))

pub loop-at-smaller : goal.loop-at-smaller
loop-at-smaller c = omega (arith, line_starts _ _ _ c.loop-at-test.true (found_end _ _ _ c.good_end-found.ensures c.in-Some.is))

pub loop-at-preserved : goal.loop-at-preserved
loop-at-preserved c = (omega (arith, line_starts _ _ _ c.loop-at-test.true (found_end _ _ _ c.good_end-found.ensures c.in-Some.is)), line_ends _ _ _ c.loop-at-test.true (found_end _ _ _ c.good_end-found.ensures c.in-Some.is), c.loop-at.invariant.2 ∙ line_good _ _ _ c.good_end-found.ensures _ c.loop-at-test.true c.in-Some.is (sym c.ascends.ensures ∙ c.if-not-ascends.false))

pub returns : goal.returns
returns c = sym (c.loop-at.invariant.2 ∙ lines_end _ _ _ _ c.loop-at-test.false)
