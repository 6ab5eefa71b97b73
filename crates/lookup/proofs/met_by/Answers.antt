use borrow.Author.Tests.{eq-eqb, ne_eqb}
use mathlib.Core.Path.{sym, ◌∙◌}
use lib.Bits.{bit_or}
use lib.Dec.{eqb}
use Rattle.lookup.proofs.Letters.{chosen, not_chosen}
use Rattle.lookup.proofs.met_by.Goals as goal

pub returns-then-folded-b : goal.returns-then-folded-b
returns-then-folded-b c = chosen (eqb (bit_or c.args.a 32) c.args.b) 256 0 (eq-eqb _ _ (sym c.folded.ensures ∙ c.if-folded-b.true))

pub returns : goal.returns
returns c = not_chosen (eqb (bit_or c.args.a 32) c.args.b) 256 0 (ne_eqb _ _ (λ e. c.if-folded-b.false (c.folded.ensures ∙ e)))
