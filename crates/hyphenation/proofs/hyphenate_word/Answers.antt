use native.Mathlib.Omega.{arith}
use Rattle.base.proofs.Grounds.{judged_by, handed_on}
use Rattle.hyphenation.proofs.Calls.{refused, word_alone_sizes, breaks_found}
use Rattle.hyphenation.proofs.Order.{word_alone_ordered, promised}
use Rattle.hyphenation.proofs.hyphenate_word.Goals as goal

pub returns-in_err-judge_word_alone : goal.returns-in_err-judge_word_alone
returns-in_err-judge_word_alone c = promised (word_alone_ordered _ _) (refused _ _ _ (judged_by (word_alone_ordered _ _) c.judge_word_alone.ensures) c.in_err-judge_word_alone.was (handed_on _ c.from_residual.ensures.1))

pub invariant_of-find_breaks : goal.invariant_of-find_breaks
invariant_of-find_breaks c = record { judged = (word_alone_sizes _ _ (judged_by (word_alone_ordered _ _) c.judge_word_alone.ensures) c.in_ok-judge_word_alone.was).0 }

pub returns-in_default : goal.returns-in_default
returns-in_default c = absurd (omega (arith, c.in_default.ensures.cases, (word_alone_sizes _ _ (judged_by (word_alone_ordered _ _) c.judge_word_alone.ensures) c.in_ok-judge_word_alone.was).1))

pub returns : goal.returns
returns c = promised (word_alone_ordered _ _) (breaks_found _ _ _ _ _ _ _ (judged_by (word_alone_ordered _ _) c.judge_word_alone.ensures) c.in_ok-judge_word_alone.was c.trie_of-trie.ensures c.find_breaks.ensures)
