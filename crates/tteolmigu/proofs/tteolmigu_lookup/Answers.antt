use Rattle.tteolmigu.specs.Bits.{located_bits}
use mathlib.Core.Path.{◌∙◌, ap}
use Rattle.lookup.proofs.Order.{located_by}
use Rattle.tteolmigu.proofs.tteolmigu_lookup.Goals as goal

pub returns : goal.returns
returns c = c.from.ensures ∙ ap located_bits (located_by _ _ _ c.locate_line.ensures)
