use Rattle.std.proofs.Common.{sym, ◌∙◌}
use Rattle.base.proofs.Grounds.{said_by, handed_on}
use Rattle.words.proofs.Order.{judged_ordered}
use Rattle.words.proofs.Laws.{word_refused, word_scan, fit_start, fit_letter, fit_other, fit_refused, fit_end}
use Rattle.words.proofs.judge_bytes.Goals as goal

pub returns-in_err-judge_length : goal.returns-in_err-judge_length
returns-in_err-judge_length g c =
    λ rule x. said_by (judged_ordered rule _ _) (handed_on _ c.from_residual.ensures.1 ∙ word_refused rule _ _ c.judge_length.ensures c.in_err-judge_length.was)

pub loop-i-init : goal.loop-i-init
loop-i-init g c = λ rule x. word_scan rule _ _ c.judge_length.ensures c.in_ok-judge_length.was ∙ fit_start rule _

pub loop-i-preserved-then-is_letter : goal.loop-i-preserved-then-is_letter
loop-i-preserved-then-is_letter g c = λ rule x. c.loop-i.invariant rule x ∙ fit_letter rule _ x _ c.loop-i-test.true (sym c.is_letter.ensures ∙ c.if-is_letter.true)

pub returns-then-not-fits : goal.returns-then-not-fits
returns-then-not-fits g c =
    λ rule x.
    said_by (judged_ordered rule _ _)
    (sym
    (c.loop-i.invariant rule x
    ∙ fit_refused rule _ x _ c.loop-i-test.true (sym c.is_letter.ensures ∙ c.if-is_letter.false) c.fits.ensures c.if-not-fits.true))

pub loop-i-preserved : goal.loop-i-preserved
loop-i-preserved g c =
    λ rule x.
    c.loop-i.invariant rule x
    ∙ fit_other rule _ x _ c.loop-i-test.true (sym c.is_letter.ensures ∙ c.if-is_letter.false) c.fits.ensures c.if-not-fits.false

pub returns : goal.returns
returns g c = λ rule x. said_by (judged_ordered rule _ _) (sym (c.loop-i.invariant rule x ∙ fit_end rule _ _ _ c.loop-i-test.false))
