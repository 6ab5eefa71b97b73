use borrow.Author.Rules.{rules}
use Rattle.patterns.proofs.Laws as law
use Rattle.patterns.proofs.part_lines.Goals as goal

pub loop-i-init : goal.loop-i-init
loop-i-init c = (search rules, search rules, search rules, law.part_start _ _)

pub loop-i-preserved-then-x-eq0 : goal.loop-i-preserved-then-x-eq0
loop-i-preserved-then-x-eq0 c = (search rules, search rules, search rules, law.part_skip _ _ _ _ _ c.loop-i.invariant.3 c.loop-i-test.true c.symbol_of-x.ensures c.if-x-eq0.true)

pub returns-then-b-j : goal.returns-then-b-j
returns-then-b-j c = law.part_short _ _ _ _ _ c.loop-i.invariant.3 c.loop-i-test.true c.symbol_of-x.ensures c.if-x-eq0.false c.if-b-j.true

pub loop-i-preserved-then-y-eq0 : goal.loop-i-preserved-then-y-eq0
loop-i-preserved-then-y-eq0 c = (search rules, search rules, search rules, law.part_skip_right _ _ _ _ _ c.loop-i.invariant.3 c.loop-i-test.true c.symbol_of-x.ensures c.if-x-eq0.false c.if-b-j.false c.symbol_of-y.ensures c.if-y-eq0.true)

pub returns-then-x-y : goal.returns-then-x-y
returns-then-x-y c = law.part_differs _ _ _ _ _ c.loop-i.invariant.3 c.loop-i-test.true c.symbol_of-x.ensures c.if-x-eq0.false c.if-b-j.false c.symbol_of-y.ensures c.if-y-eq0.false c.if-x-y.true

pub loop-i-preserved : goal.loop-i-preserved
loop-i-preserved c = (search rules, search rules, search rules, law.part_agrees _ _ _ _ _ c.loop-i.invariant.3 c.loop-i-test.true c.symbol_of-x.ensures c.if-x-eq0.false c.if-b-j.false c.symbol_of-y.ensures c.if-y-eq0.false c.if-x-y.false)

pub returns : goal.returns
returns c = law.part_end _ _ _ _ _ c.loop-i.invariant.3 c.loop-i-test.false
