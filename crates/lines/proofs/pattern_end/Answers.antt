use mathlib.Core.Path.{sym, ◌∙◌}
use Rattle.lines.proofs.Laws as law
use Rattle.lines.proofs.pattern_end.Goals as goal

pub loop-i-init : goal.loop-i-init
loop-i-init c = law.patterned_start _ _

pub loop-i-preserved-then-is_small : goal.loop-i-preserved-then-is_small
loop-i-preserved-then-is_small c = law.patterned_letter _ _ _ _ _ _ _ _ _ c.loop-i.invariant c.loop-i-test.true (sym c.is_small.ensures ∙ c.if-is_small.true)

pub returns-then-after_digit : goal.returns-then-after_digit
returns-then-after_digit c = law.end_bad _ (law.patterned_digits _ _ _ _ _ _ _ _ _ c.loop-i.invariant c.loop-i-test.true (sym c.is_small.ensures ∙ c.if-is_small.false) (sym c.is_digit.ensures ∙ c.if-is_digit.true) c.if-after_digit.true)

pub loop-i-preserved-then-is_digit : goal.loop-i-preserved-then-is_digit
loop-i-preserved-then-is_digit c = law.patterned_digit _ _ _ _ _ _ _ _ _ c.loop-i.invariant c.loop-i-test.true (sym c.is_small.ensures ∙ c.if-is_small.false) (sym c.is_digit.ensures ∙ c.if-is_digit.true) c.if-after_digit.false

pub returns-then-not-dot_fits : goal.returns-then-not-dot_fits
returns-then-not-dot_fits c = law.end_bad _ (law.patterned_no_dot _ _ _ _ _ _ _ _ _ c.loop-i.invariant c.loop-i-test.true (sym c.is_small.ensures ∙ c.if-is_small.false) (sym c.is_digit.ensures ∙ c.if-is_digit.false) c.if-b-eq-DOT.true (sym c.dot_fits.ensures ∙ c.if-not-dot_fits.true))

pub loop-i-preserved-then-b-eq-DOT : goal.loop-i-preserved-then-b-eq-DOT
loop-i-preserved-then-b-eq-DOT c = law.patterned_dot _ _ _ _ _ _ _ _ _ c.loop-i.invariant c.loop-i-test.true (sym c.is_small.ensures ∙ c.if-is_small.false) (sym c.is_digit.ensures ∙ c.if-is_digit.false) c.if-b-eq-DOT.true (sym c.dot_fits.ensures ∙ c.if-not-dot_fits.false)

pub loop-i-preserved : goal.loop-i-preserved
loop-i-preserved c = law.patterned_apostrophe _ _ _ _ _ _ _ _ _ c.loop-i.invariant c.loop-i-test.true (sym c.is_small.ensures ∙ c.if-is_small.false) (sym c.is_digit.ensures ∙ c.if-is_digit.false) c.if-b-eq-APOSTROPHE.true

pub returns-then-b-ne-LINE_FEED : goal.returns-then-b-ne-LINE_FEED
returns-then-b-ne-LINE_FEED c = law.end_bad _ (law.patterned_other _ _ _ _ _ _ _ _ _ c.loop-i.invariant c.loop-i-test.true (sym c.is_small.ensures ∙ c.if-is_small.false) (sym c.is_digit.ensures ∙ c.if-is_digit.false) c.if-b-eq-DOT.false c.if-b-eq-APOSTROPHE.false c.if-b-ne-LINE_FEED.true)

pub returns-then-not-letters : goal.returns-then-not-letters
returns-then-not-letters c = law.end_bad _ (law.patterned_letterless _ _ _ _ _ _ _ _ _ c.loop-i.invariant c.loop-i-test.true (sym c.is_small.ensures ∙ c.if-is_small.false) (sym c.is_digit.ensures ∙ c.if-is_digit.false) c.if-b-eq-DOT.false c.if-b-eq-APOSTROPHE.false c.if-b-ne-LINE_FEED.false c.if-not-letters.true-raw)

pub returns-then-not-digits : goal.returns-then-not-digits
returns-then-not-digits c = law.end_bad _ (law.patterned_digitless _ _ _ _ _ _ _ _ _ c.loop-i.invariant c.loop-i-test.true (sym c.is_small.ensures ∙ c.if-is_small.false) (sym c.is_digit.ensures ∙ c.if-is_digit.false) c.if-b-eq-DOT.false c.if-b-eq-APOSTROPHE.false c.if-b-ne-LINE_FEED.false c.if-not-letters.false-raw c.if-not-digits.true-raw)

pub returns-then-count-gt-PATTERN_LIMIT : goal.returns-then-count-gt-PATTERN_LIMIT
returns-then-count-gt-PATTERN_LIMIT c = law.end_bad _ (law.patterned_long _ _ _ _ _ _ _ _ _ c.loop-i.invariant c.loop-i-test.true (sym c.is_small.ensures ∙ c.if-is_small.false) (sym c.is_digit.ensures ∙ c.if-is_digit.false) c.if-b-eq-DOT.false c.if-b-eq-APOSTROPHE.false c.if-b-ne-LINE_FEED.false c.if-not-letters.false-raw c.if-not-digits.false-raw c.if-count-gt-PATTERN_LIMIT.true)

pub returns-in-loop-i : goal.returns-in-loop-i
returns-in-loop-i c = law.patterned_whole _ _ _ _ _ _ _ _ _ c.loop-i.invariant c.loop-i-test.true (sym c.is_small.ensures ∙ c.if-is_small.false) (sym c.is_digit.ensures ∙ c.if-is_digit.false) c.if-b-eq-DOT.false c.if-b-eq-APOSTROPHE.false c.if-b-ne-LINE_FEED.false c.if-not-letters.false-raw c.if-not-digits.false-raw c.if-count-gt-PATTERN_LIMIT.false c.end_if_fit.ensures

pub returns : goal.returns
returns c = law.end_bad _ (law.patterned_out _ _ _ _ _ _ _ _ _ c.loop-i.invariant c.loop-i-test.false)
