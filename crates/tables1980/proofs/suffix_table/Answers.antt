use mathlib.Core.Path.{refl}
use Rattle.tables1980.specs.Suffix.{suffix_words}
use Rattle.tables1980.proofs.suffix_table.Goals as goal

pub returns : goal.returns
unfolding suffix_words
returns c = refl
