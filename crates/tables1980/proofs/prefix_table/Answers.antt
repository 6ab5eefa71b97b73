use mathlib.Core.Path.{refl}
use Rattle.tables1980.specs.Prefix.{prefix_words}
use Rattle.tables1980.proofs.prefix_table.Goals as goal

pub returns : goal.returns
unfolding prefix_words
returns c = refl
