use borrow.Author.Rules.{rules}
use native.Mathlib.Omega.{arith}
use Rattle.hyphenation.proofs.Rooms.{breaks_start, breaks_turn, breaks_end}
use Rattle.hyphenation.proofs.Laws.{break_odd}
use Rattle.hyphenation.proofs.put_breaks.Goals as goal

pub returns-then-margins : goal.returns-then-margins
returns-then-margins c = breaks_end _ _ _ c.args.levels.now _ (breaks_start _ _ _ c.args.levels.now) (omega (arith, c.if-margins.true))

pub loop-i-init : goal.loop-i-init
loop-i-init c = (search rules, breaks_start _ _ _ c.args.levels.now)

pub loop-i-preserved : goal.loop-i-preserved
loop-i-preserved c = (search rules, breaks_turn _ _ _ c.args.levels.now c.loop-i.i c.loop-i.invariant.1 (omega (arith, c.loop-i-test.true, c.requires.0)) (break_odd _ _ _ _ _ c.loop-i.invariant.0 (omega (arith, c.loop-i-test.true, c.if-margins.false)) (c.requires.1 _ (omega (arith, c.loop-i-test.true, c.requires.0)))))

pub returns : goal.returns
returns c = breaks_end _ _ _ c.args.levels.now _ c.loop-i.invariant.1 (omega (arith, c.loop-i-test.false, c.if-margins.false))
