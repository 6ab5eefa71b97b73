use Rattle.std.proofs.Common.{rules}
use Rattle.words.specs.Words.{letters_alone}
use Rattle.words.proofs.Laws.{letters_extend}
use Rattle.words.proofs.judge_letters.Goals as goal

pub returns : goal.returns
returns c = c.judge_bytes.ensures letters_alone (letters_extend _ (λ i r h p. search rules))
