use mathlib.Core.Path.{refl}
use Rattle.lookup.proofs.folded.Goals as goal

pub returns : goal.returns
returns c = refl
