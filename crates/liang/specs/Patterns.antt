-- The patterns that a pattern text holds: their symbols and levels.
use Rattle.std.specs.Prelude.{ℕ, ◌-◌, cond, List, [], ◌∷◌, map, eqb}
use Rattle.words.specs.Symbols.{digit, symbol_of, symbols_of}
use Rattle.lines.specs.Lines.{cut}

-- A pattern's symbols, and the level of each gap that it covers, from before its first symbol to behind its last: one level
-- more than symbols.
pub record Pattern : Type 0 where
  pub symbols : List ℕ
  pub levels : List ℕ

-- "A gap without a digit has level 0." `level` is that of the gap in hand.
unfoldable pub levels_from : ℕ → List ℕ → List ℕ
levels_from level [] = level ∷ []
levels_from level (b ∷ t) = cond (digit b) (levels_from (b - 48) t) (cond (eqb (symbol_of b) 0) (levels_from level t) (level ∷ levels_from 0 t))

unfoldable pub pattern_of : List ℕ → Pattern
pattern_of line = record { symbols = symbols_of line; levels = levels_from 0 line }

-- The patterns of a text, a line each.
unfoldable pub patterns_of : List ℕ → List Pattern
patterns_of text = map pattern_of (cut text)
