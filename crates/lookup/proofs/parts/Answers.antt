use mathlib.Core.Path.{refl}
use native.Mathlib.Omega.{arith}
use lib.Bits.{bit_or}
use lib.Dec.{eqb}
use Rattle.lookup.proofs.Letters.{chosen_most, parts_below, parts_from}
use Rattle.lookup.proofs.parts.Goals as goal

pub overflow_add-left : goal.overflow_add-left
overflow_add-left c = omega (arith, chosen_most (eqb (bit_or c.args.a 32) c.args.b) 256 c.met_by.ensures, c.ranges)

pub returns-then-left : goal.returns-then-left
returns-then-left c = parts_below c.args.a c.args.b c.met_by.ensures refl c.if-left.true

pub returns : goal.returns
returns c = parts_from c.args.a c.args.b c.met_by.ensures refl c.if-left.false
