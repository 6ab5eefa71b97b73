-- The bytes before i may stand in a word, so the judgement is that of the rest, by each rule that the test makes.
use Rattle.std.proofs.Common.{◌≡◌, drop}
use Rattle.words.specs.Words.{Rule, Extends, all_fit, letter_before, judge_by}
use Rattle.words.proofs.judge_bytes.Given as goal

abbrev pub invariant-loop-i : goal.invariant-loop-i
invariant-loop-i g l =
    (rule : Rule) → Extends rule l.word (λ i r. goal.F-post g l.fits i r) → judge_by rule l.limit l.word ≡ all_fit rule l.i (letter_before l.word l.i) (drop l.i l.word)
