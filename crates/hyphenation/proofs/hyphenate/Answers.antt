use native.Mathlib.Omega.{arith}
use Rattle.base.proofs.Grounds.{judged_by, handed_on}
use Rattle.hyphenation.proofs.Calls.{refused, breaks_sizes, breaks_found}
use Rattle.hyphenation.proofs.Order.{hyphenate_ordered, promised}
use Rattle.hyphenation.proofs.hyphenate.Goals as goal

pub returns-in_err-judge_hyphenate : goal.returns-in_err-judge_hyphenate
returns-in_err-judge_hyphenate c = promised (hyphenate_ordered _ _ _ _ _ _ _) (refused _ _ _ (judged_by (hyphenate_ordered _ _ _ _ _ _ _) c.judge_hyphenate.ensures) c.in_err-judge_hyphenate.was (handed_on _ c.from_residual.ensures.1))

pub invariant_of-find_breaks : goal.invariant_of-find_breaks
invariant_of-find_breaks c = record { judged = (breaks_sizes _ _ _ _ _ _ _ (judged_by (hyphenate_ordered _ _ _ _ _ _ _) c.judge_hyphenate.ensures) c.in_ok-judge_hyphenate.was).0 }

pub returns-in_default : goal.returns-in_default
returns-in_default c = absurd (omega (arith, c.in_default.ensures.cases, (breaks_sizes _ _ _ _ _ _ _ (judged_by (hyphenate_ordered _ _ _ _ _ _ _) c.judge_hyphenate.ensures) c.in_ok-judge_hyphenate.was).1))

pub returns : goal.returns
returns c = promised (hyphenate_ordered _ _ _ _ _ _ _) (breaks_found _ _ _ _ _ _ _ (judged_by (hyphenate_ordered _ _ _ _ _ _ _) c.judge_hyphenate.ensures) c.in_ok-judge_hyphenate.was c.trie_of-trie.ensures c.find_breaks.ensures)
