-- How far a row follows the patterns of a list.
use Rattle.std.specs.Prelude.{ℕ, max, List, [], ◌∷◌}
use Rattle.liang.specs.Patterns.{Pattern}
use Rattle.patterns.specs.Common.{common}

-- The length of the longest beginning of a pattern that stands at the row's beginning, 0 if none does.
unfoldable pub longest : List Pattern → List ℕ → ℕ
longest [] row = 0
longest (p ∷ ps) row = max (common p.symbols row) (longest ps row)
