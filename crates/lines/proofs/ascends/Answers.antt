use borrow.Author.Rules.{rules}
use mathlib.Core.Path.{sym, ◌∙◌}
use Rattle.lines.proofs.Laws as law
use Rattle.lines.proofs.ascends.Goals as goal

pub loop-j-init : goal.loop-j-init
loop-j-init c = (c.same_bytes-same.ensures.0, c.same_bytes-same.ensures.1, law.order_at _ _ _ c.same_bytes-same.ensures.2)

pub loop-j-preserved-then-y-eq0 : goal.loop-j-preserved-then-y-eq0
loop-j-preserved-then-y-eq0 c = (search rules, search rules, c.loop-j.invariant.2 ∙ law.order_skip_right _ _ _ _ c.loop-j-test.true c.symbol_of-y.ensures c.if-y-eq0.true)

pub returns-then-above-i : goal.returns-then-above-i
returns-then-above-i c = sym (c.loop-j.invariant.2 ∙ law.order_shorter _ _ _ _ c.loop-j-test.true c.symbol_of-y.ensures c.if-y-eq0.false c.if-above-i.true)

pub loop-j-preserved-then-x-eq0 : goal.loop-j-preserved-then-x-eq0
loop-j-preserved-then-x-eq0 c = (search rules, search rules, c.loop-j.invariant.2 ∙ law.order_skip_left _ _ _ _ c.loop-j-test.true c.symbol_of-y.ensures c.if-y-eq0.false c.if-above-i.false c.symbol_of-x.ensures c.if-x-eq0.true)

pub returns-then-x-y : goal.returns-then-x-y
returns-then-x-y c = sym (c.loop-j.invariant.2 ∙ law.order_less _ _ _ _ c.loop-j-test.true c.symbol_of-y.ensures c.if-y-eq0.false c.if-above-i.false c.symbol_of-x.ensures c.if-x-eq0.false c.if-x-y.true)

pub returns-then-y-x : goal.returns-then-y-x
returns-then-y-x c = sym (c.loop-j.invariant.2 ∙ law.order_more _ _ _ _ c.loop-j-test.true c.symbol_of-y.ensures c.if-y-eq0.false c.if-above-i.false c.symbol_of-x.ensures c.if-x-eq0.false c.if-y-x.true)

pub loop-j-preserved : goal.loop-j-preserved
loop-j-preserved c = (search rules, search rules, c.loop-j.invariant.2 ∙ law.order_equal _ _ _ _ c.loop-j-test.true c.symbol_of-y.ensures c.if-y-eq0.false c.if-above-i.false c.symbol_of-x.ensures c.if-x-eq0.false c.if-x-y.false c.if-y-x.false)

pub returns : goal.returns
returns c = sym (c.loop-j.invariant.2 ∙ law.order_end _ _ _ _ c.loop-j-test.false)
