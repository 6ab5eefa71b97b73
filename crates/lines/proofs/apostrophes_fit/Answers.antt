use mathlib.Core.Path.{sym, ◌∙◌}
use Rattle.lines.proofs.Laws as law
use Rattle.lines.proofs.apostrophes_fit.Goals as goal
use Rattle.lines.proofs.apostrophes_fit.Goals.{then-s-eq-APOSTROPHE_SYMBOL+else-not-before, else-s-eq-APOSTROPHE_SYMBOL}

pub loop-b-init : goal.loop-b-init
loop-b-init c = law.fit_start _ _

pub loop-b-preserved-then-s-eq0 : goal.loop-b-preserved-then-s-eq0
loop-b-preserved-then-s-eq0 c = c.loop-b.invariant ∙ law.fit_skip _ _ _ _ _ c.loop-b-test.true c.symbol_of-s.ensures c.if-s-eq0.true

pub loop-b-preserved-then-s-le-LETTER_LIMIT : goal.loop-b-preserved-then-s-le-LETTER_LIMIT
loop-b-preserved-then-s-le-LETTER_LIMIT c = c.loop-b.invariant ∙ law.fit_letter _ _ _ _ _ c.loop-b-test.true c.symbol_of-s.ensures c.if-s-eq0.false c.if-s-le-LETTER_LIMIT.true

pub returns-then-waits : goal.returns-then-waits
returns-then-waits c = sym (c.loop-b.invariant ∙ law.fit_waits _ _ _ _ _ c.loop-b-test.true c.symbol_of-s.ensures c.if-s-eq0.false c.if-s-le-LETTER_LIMIT.false c.if-waits.true)

pub returns-then-not-before : goal.returns-then-not-before
returns-then-not-before c = sym (c.loop-b.invariant ∙ law.fit_stray _ _ _ _ _ c.loop-b-test.true c.symbol_of-s.ensures c.if-s-eq0.false c.if-s-le-LETTER_LIMIT.false c.if-waits.false c.if-s-eq-APOSTROPHE_SYMBOL.true c.if-not-before.true-raw)

pub loop-b-preserved : goal.loop-b-preserved
loop-b-preserved c =
    c.loop-b.invariant ∙ elim c.if-s-eq-APOSTROPHE_SYMBOL.branch [
      | then-s-eq-APOSTROPHE_SYMBOL+else-not-before w ↦ rw (w.waits-is, w.before-is) (law.fit_apostrophe _ _ _ _ _ c.loop-b-test.true c.symbol_of-s.ensures c.if-s-eq0.false c.if-s-le-LETTER_LIMIT.false c.if-waits.false w.if-s-eq-APOSTROPHE_SYMBOL.true w.if-not-before.false-raw)
      | else-s-eq-APOSTROPHE_SYMBOL w ↦ rw (w.waits-is, w.before-is) (law.fit_edge _ _ _ _ _ c.loop-b-test.true c.symbol_of-s.ensures c.if-s-eq0.false c.if-s-le-LETTER_LIMIT.false c.if-waits.false w.if-s-eq-APOSTROPHE_SYMBOL.false)
    ]

pub returns-then-waits-2 : goal.returns-then-waits-2
returns-then-waits-2 c = sym (c.loop-b.invariant ∙ law.fit_last _ _ _ _ c.loop-b-test.false c.if-waits-2.true)

pub returns : goal.returns
returns c = sym (c.loop-b.invariant ∙ law.fit_end _ _ _ _ c.loop-b-test.false c.if-waits-2.false)
