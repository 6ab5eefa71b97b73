use native.Mathlib.Omega.{arith}
use Rattle.lookup.proofs.Letters.{both_met}
use Rattle.lookup.proofs.meet_both.Goals as goal

pub returns : goal.returns
returns c =
    both_met c.args.a c.args.b c.args.c c.args.d (omega (arith, c.ranges)) (omega (arith, c.ranges)) c.folded.ensures
    c.folded-2.ensures c.pair_of.ensures c.pair_of-2.ensures
