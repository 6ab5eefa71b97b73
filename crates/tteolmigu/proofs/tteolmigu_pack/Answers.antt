use Rattle.tteolmigu.proofs.Laws.{by_cases}
use Rattle.tteolmigu.specs.Bits.{packing_bits}
use mathlib.Core.Path.{◌∙◌, ap}
use Rattle.packer.proofs.Order.{computed}
use Rattle.tteolmigu.proofs.tteolmigu_pack.Goals as goal

pub returns : goal.returns
returns c = record { bits = by_cases packing_bits _ c.from.ensures ∙ ap packing_bits (computed _ _ c.pack.ensures).answered; memory = (computed _ _ c.pack.ensures).memory }
