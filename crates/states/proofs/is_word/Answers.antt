use mathlib.Core.Path.{◌∙◌}
use Rattle.base.specs.Limits.{word_limit}
use Rattle.base.proofs.Grounds.{judged_by}
use Rattle.words.proofs.Order.{word_ordered}
use Rattle.states.proofs.Laws.{word_as_judged}
use Rattle.states.proofs.is_word.Goals as goal

pub returns : goal.returns
returns c = c.is_ok.ensures.value ∙ word_as_judged _ (judged_by (word_ordered word_limit _) c.judge_word.ensures)
