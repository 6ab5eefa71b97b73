use mathlib.Core.Logic.{inr}
use mathlib.Core.Path.{sym, ◌∙◌, ap}
use Rattle.words.specs.Symbols.{letter}
use Rattle.runs.proofs.Laws.{apostrophe_none}
use Rattle.flowing.proofs.Steps.{mark_passed, mark_held, word_finished, kept_can, at_within, can_finish, mark_place}
use Rattle.flowing.proofs.Flow.take_apostrophe.Goals as goal

pub returns-then-self-eq-GONE : goal.returns-then-self-eq-GONE
returns-then-self-eq-GONE c = mark_passed c.args.setting.now.left c.args.setting.now.right c.args.setting.now.customer.now c.args.setting.now.house.now c.args.setting.now.table.now c.args.b c.args.self.now c.args.out.now c.requires.1.shaped (ap letter c.requires.0 ∙ apostrophe_none) c.requires.0 c.if-self-eq-GONE.true c.pass_on.ensures

pub hold_byte-requires : goal.hold_byte-requires
hold_byte-requires c = mark_place c.args.self.now c.args.out.now c.requires.1 (sym c.ends_letter.ensures ∙ c.if-ends_letter.true)

pub returns-then-ends_letter : goal.returns-then-ends_letter
returns-then-ends_letter c = mark_held c.args.setting.now.left c.args.setting.now.right c.args.setting.now.customer.now c.args.setting.now.house.now c.args.setting.now.table.now c.args.b c.args.self.now c.args.out.now c.requires.1.shaped (ap letter c.requires.0 ∙ apostrophe_none) c.requires.0 (sym c.ends_letter.ensures ∙ c.if-ends_letter.true) (kept_can c.args.self.now c.args.out.now c.requires.1) (at_within c.args.self.now c.args.out.now c.requires.1) c.hold_byte.ensures

pub finish_word-requires : goal.finish_word-requires
finish_word-requires c = can_finish c.args.self.now c.args.out.now c.requires.1

pub returns : goal.returns
returns c = word_finished c.args.setting.now.left c.args.setting.now.right c.args.setting.now.customer.now c.args.setting.now.house.now c.args.setting.now.table.now c.args.b c.args.self.now c.args.out.now c.requires.1.shaped (ap letter c.requires.0 ∙ apostrophe_none) (inr (c.if-self-eq-GONE.false, sym c.ends_letter.ensures ∙ c.if-ends_letter.false)) c.finish_word.ensures
