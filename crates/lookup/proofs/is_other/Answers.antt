use mathlib.Core.Path.{sym, ◌∙◌}
use Rattle.lookup.proofs.Letters.{other_not, other_if}
use Rattle.lookup.proofs.is_other.Goals as goal

pub returns-then-is_small : goal.returns-then-is_small
returns-then-is_small c = other_not _ (sym c.is_small.ensures ∙ c.if-is_small.true)

pub returns : goal.returns
returns c = other_if _ (sym c.is_small.ensures ∙ c.if-is_small.false) c.symbol_of.ensures
