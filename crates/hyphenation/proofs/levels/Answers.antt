use native.Mathlib.Omega.{arith}
use Rattle.base.proofs.Grounds.{judged_by, handed_on}
use Rattle.hyphenation.proofs.Calls.{refused, levels_sizes, levels_found}
use Rattle.hyphenation.proofs.Order.{levels_ordered, promised}
use Rattle.hyphenation.proofs.levels.Goals as goal

pub returns-in_err-judge_levels : goal.returns-in_err-judge_levels
returns-in_err-judge_levels c = promised (levels_ordered _ _ _) (refused _ _ _ (judged_by (levels_ordered _ _ _) c.judge_levels.ensures) c.in_err-judge_levels.was (handed_on _ c.from_residual.ensures.1))

pub invariant_of-find_levels : goal.invariant_of-find_levels
invariant_of-find_levels c = record { judged = (levels_sizes _ _ _ (judged_by (levels_ordered _ _ _) c.judge_levels.ensures) c.in_ok-judge_levels.was).0 }

pub returns-in_default : goal.returns-in_default
returns-in_default c = absurd (omega (arith, c.in_default.ensures.cases, (levels_sizes _ _ _ (judged_by (levels_ordered _ _ _) c.judge_levels.ensures) c.in_ok-judge_levels.was).1))

pub returns : goal.returns
returns c = promised (levels_ordered _ _ _) (levels_found _ _ _ (judged_by (levels_ordered _ _ _) c.judge_levels.ensures) c.in_ok-judge_levels.was c.trie_of.ensures c.find_levels.ensures)
