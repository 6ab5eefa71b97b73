use Rattle.states.proofs.Theorems.{read_left, read_new}
use Rattle.states.proofs.read_state.Goals as goal

pub returns-then-is_left : goal.returns-then-is_left
returns-then-is_left c = read_left _ c.is_left.ensures.wide c.is_left.ensures.test c.if-is_left.true

pub returns : goal.returns
returns c = read_new _ c.is_left.ensures.wide c.is_left.ensures.test c.if-is_left.false c.new_text.ensures
