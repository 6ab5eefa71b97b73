-- Finding a word's line in the exception lists.
use Rattle.std.specs.Prelude.{ℕ, ◌+◌, ◌-◌, cond, List, [], ◌∷◌, length, Option, Some, None}
use Rattle.base.specs.Tests.{same_list}
use Rattle.words.specs.Symbols.{symbols_of}
use Rattle.words.specs.Words.{word_symbols}
use Rattle.lines.specs.Lines.{cut}
use Rattle.lookup.specs.declared.Span.{Span}
use Rattle.lookup.specs.declared.Located.{Located}
use Rattle.lookup.specs.declared.Located.TheVariants.{Customer, House, Nowhere}

-- Where a line stands in a list.
abbrev pub span : ℕ → ℕ → Option Span
span start end = Some (record { start = start; end = end })

-- The first of some lines that has these symbols: where it starts, and where it ends "without its line feed", its last byte.
-- `at` is the offset of the first line given.
unfoldable pub find_line : List ℕ → ℕ → List (List ℕ) → Option Span
find_line key at [] = None
find_line key at (line ∷ rest) = cond (same_list key (symbols_of line)) (span at (at + (length line - 1))) (find_line key (at + length line) rest)

-- A word's line in one list.
unfoldable pub find : List ℕ → List ℕ → Option Span
find word text = find_line (word_symbols word) 0 (cut text)

-- "The customer's line, else the house line."
abbrev pub own_first : Option Span → Option Span → Located
own_first (Some line) other = Customer line.start line.end
own_first None (Some line) = House line.start line.end
own_first None None = Nowhere

unfoldable pub find_either : List ℕ → List ℕ → List ℕ → Located
find_either word customer house = own_first (find word customer) (find word house)
