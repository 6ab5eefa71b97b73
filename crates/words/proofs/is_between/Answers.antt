use mathlib.Core.Path.{◌∙◌}
use Rattle.words.proofs.Laws.{between_other, between_first, between_behind, between_last, between_inside}
use Rattle.words.proofs.is_between.Goals as goal

pub returns-then-word-i-ne-APOSTROPHE : goal.returns-then-word-i-ne-APOSTROPHE
returns-then-word-i-ne-APOSTROPHE c = between_other c.args.word.now _ c.if-word-i-ne-APOSTROPHE.true

pub returns-then-i-eq0 : goal.returns-then-i-eq0
returns-then-i-eq0 c = between_first c.args.word.now _ c.if-word-i-ne-APOSTROPHE.false c.if-i-eq0.true

pub returns-then-not-is_letter : goal.returns-then-not-is_letter
returns-then-not-is_letter c = between_behind c.args.word.now _ c.if-word-i-ne-APOSTROPHE.false c.if-i-eq0.false c.is_letter.ensures c.if-not-is_letter.true-raw

pub returns-then-word-i : goal.returns-then-word-i
returns-then-word-i c = between_last c.args.word.now _ c.if-word-i-ne-APOSTROPHE.false c.if-i-eq0.false c.is_letter.ensures c.if-not-is_letter.false-raw c.if-word-i.true

pub returns : goal.returns
returns c = c.is_letter-2.ensures ∙ between_inside c.args.word.now _ c.if-word-i-ne-APOSTROPHE.false c.if-i-eq0.false c.is_letter.ensures c.if-not-is_letter.false-raw c.if-word-i.false
