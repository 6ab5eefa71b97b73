use borrow.Author.Rules.{rules}
use Rattle.base.proofs.Grounds.{judged_by, handed_on}
use Rattle.gauge.proofs.Order.{fit_ordered, answer_refused, answer_found}
use Rattle.gauge.proofs.Laws.{fit_judged}
use Rattle.gauge.proofs.fit_word.Goals as goal

pub returns-in_err-judge_fit : goal.returns-in_err-judge_fit
returns-in_err-judge_fit c = answer_refused _ _ _ _ c.judge_fit.ensures c.in_err-judge_fit.was (handed_on _ c.from_residual.ensures.1)

pub invariant_of-find_fit : goal.invariant_of-find_fit
invariant_of-find_fit c = record { judged = (fit_judged _ _ _ _ (judged_by (fit_ordered _ _ _ _) c.judge_fit.ensures) c.in_ok-judge_fit.was).0 }

pub find_fit-requires : goal.find_fit-requires
find_fit-requires c = (search rules, (fit_judged _ _ _ _ (judged_by (fit_ordered _ _ _ _) c.judge_fit.ensures) c.in_ok-judge_fit.was).1)

pub returns : goal.returns
returns c = answer_found _ _ _ _ c.judge_fit.ensures c.in_ok-judge_fit.was c.find_fit.ensures
