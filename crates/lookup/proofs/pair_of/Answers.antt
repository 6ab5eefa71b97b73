use mathlib.Core.Path.{refl}
use Rattle.lookup.proofs.pair_of.Goals as goal

pub returns : goal.returns
returns c = refl
