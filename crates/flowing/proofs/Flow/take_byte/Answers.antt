use mathlib.Core.Logic.{inl}
use mathlib.Core.Path.{sym, ◌∙◌}
use Rattle.flowing.proofs.Steps.{letter_passed, letter_held, letter_gone, word_finished, at_within, can_finish}
use Rattle.flowing.proofs.Flow.take_byte.Goals as goal

pub returns-then-self-ne-HOLDING : goal.returns-then-self-ne-HOLDING
returns-then-self-ne-HOLDING c = letter_passed c.args.setting.now.left c.args.setting.now.right c.args.setting.now.customer.now c.args.setting.now.house.now c.args.setting.now.table.now c.args.b c.args.self.now c.args.out.now c.requires.shaped (sym c.is_letter.ensures ∙ c.if-is_letter.true) c.if-self-ne-HOLDING.true c.pass_on.ensures

pub returns-then-self-lt-WORD_LIMIT : goal.returns-then-self-lt-WORD_LIMIT
returns-then-self-lt-WORD_LIMIT c = letter_held c.args.setting.now.left c.args.setting.now.right c.args.setting.now.customer.now c.args.setting.now.house.now c.args.setting.now.table.now c.args.b c.args.self.now c.args.out.now c.requires.shaped (sym c.is_letter.ensures ∙ c.if-is_letter.true) c.if-self-ne-HOLDING.false c.if-self-lt-WORD_LIMIT.true (at_within c.args.self.now c.args.out.now c.requires) c.hold_byte.ensures

pub returns-then-is_letter : goal.returns-then-is_letter
returns-then-is_letter c = letter_gone c.args.setting.now.left c.args.setting.now.right c.args.setting.now.customer.now c.args.setting.now.house.now c.args.setting.now.table.now c.args.b c.args.self.now c.args.out.now c.requires.shaped (sym c.is_letter.ensures ∙ c.if-is_letter.true) c.if-self-ne-HOLDING.false c.if-self-lt-WORD_LIMIT.false c.let_go.ensures

pub finish_word-requires : goal.finish_word-requires
finish_word-requires c = can_finish c.args.self.now c.args.out.now c.requires

pub returns : goal.returns
returns c = word_finished c.args.setting.now.left c.args.setting.now.right c.args.setting.now.customer.now c.args.setting.now.house.now c.args.setting.now.table.now c.args.b c.args.self.now c.args.out.now c.requires.shaped (sym c.is_letter.ensures ∙ c.if-is_letter.false) (inl c.if-b-eq-APOSTROPHE.false) c.finish_word.ensures
