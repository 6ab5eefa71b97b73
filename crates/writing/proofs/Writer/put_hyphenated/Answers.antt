use Rattle.std.proofs.Common.{arith}
use mathlib.Core.Logic.{inl, inr}
use Rattle.writing.proofs.Laws.{marks_enough, word_fits, word_step, word_end}
use Rattle.writing.proofs.Parts.{go_end}
use Rattle.writing.proofs.Writer.put_hyphenated.Goals as goal

pub put_letter-requires : goal.put_letter-requires
put_letter-requires c = word_fits c.args.sign.now _ _ _ _ c.in-Some.ensures.steps.0 c.in-Some.ensures.steps.1 c.loop-mark.invariant.1

pub loop-mark-preserved : goal.loop-mark-preserved
loop-mark-preserved c = (marks_enough c.args.sign.now _ _ _ _ c.in-Some.ensures.steps.0 c.in-Some.ensures.steps.1 c.loop-mark.invariant.0, word_step c.args.sign.now _ _ _ _ c.in-Some.ensures.steps.0 c.in-Some.ensures.steps.1 c.loop-mark.invariant.1 c.put_letter.ensures)

pub returns : goal.returns
returns c = go_end (word_end _ _ _ (elim c.in-None.ensures.steps [ inl w ↦ omega (arith, w.1.0) | inr w ↦ w.1.0 ])) c.loop-mark.invariant.1
