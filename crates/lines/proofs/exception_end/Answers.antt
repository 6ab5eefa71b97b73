use mathlib.Core.Path.{sym, ◌∙◌}
use Rattle.lines.proofs.Laws as law
use Rattle.lines.proofs.exception_end.Goals as goal

pub loop-i-init : goal.loop-i-init
loop-i-init c = law.lettered_start _ _

pub loop-i-preserved-then-is_small : goal.loop-i-preserved-then-is_small
loop-i-preserved-then-is_small c = law.lettered_on _ _ _ _ _ _ c.loop-i.invariant c.loop-i-test.true (sym c.is_small.ensures ∙ c.if-is_small.true)

pub loop-i-preserved-then-b-eq-APOSTROPHE : goal.loop-i-preserved-then-b-eq-APOSTROPHE
loop-i-preserved-then-b-eq-APOSTROPHE c = law.lettered_apostrophe _ _ _ _ _ _ c.loop-i.invariant c.loop-i-test.true (sym c.is_small.ensures ∙ c.if-is_small.false) c.if-b-eq-APOSTROPHE.true

pub returns-then-i-run : goal.returns-then-i-run
returns-then-i-run c = law.end_bad _ (law.lettered_lone _ _ _ _ _ _ c.loop-i.invariant c.loop-i-test.true (sym c.is_small.ensures ∙ c.if-is_small.false) c.if-b-eq-APOSTROPHE.false c.if-i-run.true)

pub loop-i-preserved : goal.loop-i-preserved
loop-i-preserved c = law.lettered_hyphen _ _ _ _ _ _ c.loop-i.invariant c.loop-i-test.true (sym c.is_small.ensures ∙ c.if-is_small.false) c.if-b-eq-APOSTROPHE.false c.if-i-run.false c.if-b-eq-HYPHEN.true

pub returns-then-b-ne-LINE_FEED : goal.returns-then-b-ne-LINE_FEED
returns-then-b-ne-LINE_FEED c = law.end_bad _ (law.lettered_other _ _ _ _ _ _ c.loop-i.invariant c.loop-i-test.true (sym c.is_small.ensures ∙ c.if-is_small.false) c.if-b-eq-APOSTROPHE.false c.if-i-run.false c.if-b-eq-HYPHEN.false c.if-b-ne-LINE_FEED.true)

pub returns-then-letters-gt-WORD_LIMIT : goal.returns-then-letters-gt-WORD_LIMIT
returns-then-letters-gt-WORD_LIMIT c = law.end_bad _ (law.lettered_long _ _ _ _ _ _ c.loop-i.invariant c.loop-i-test.true (sym c.is_small.ensures ∙ c.if-is_small.false) c.if-b-eq-APOSTROPHE.false c.if-i-run.false c.if-b-eq-HYPHEN.false c.if-b-ne-LINE_FEED.false c.if-letters-gt-WORD_LIMIT.true)

pub returns-else-b-eq-HYPHEN : goal.returns-else-b-eq-HYPHEN
returns-else-b-eq-HYPHEN c = law.lettered_whole _ _ _ _ _ _ c.loop-i.invariant c.loop-i-test.true (sym c.is_small.ensures ∙ c.if-is_small.false) c.if-b-eq-APOSTROPHE.false c.if-i-run.false c.if-b-eq-HYPHEN.false c.if-b-ne-LINE_FEED.false c.if-letters-gt-WORD_LIMIT.false c.end_if_fit.ensures

pub returns : goal.returns
returns c = law.end_bad _ (law.lettered_out _ _ _ _ _ _ c.loop-i.invariant c.loop-i-test.false)
