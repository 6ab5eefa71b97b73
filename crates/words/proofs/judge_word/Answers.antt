use Rattle.std.proofs.Common.{rules}
use Rattle.words.specs.Words.{with_apostrophes}
use Rattle.words.proofs.Laws.{between_extends}
use Rattle.words.proofs.judge_word.Goals as goal

pub returns : goal.returns
returns c = c.judge_bytes.ensures with_apostrophes (between_extends _ (λ i r h p. search rules))
