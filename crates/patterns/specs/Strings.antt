-- Strings of symbols, and the patterns of a list by their number: what a good list holds, and its beginnings.
use Rattle.std.specs.Prelude.{ℕ, suc, ◌≤◌, ◌<◌, Bool, true, ◌&&◌, List, [], ◌∷◌, ◌≡◌, leb, length, get_or}
use Rattle.base.specs.Limits.{symbol_limit, pattern_limit}
use Rattle.lines.specs.Order.{before}
use Rattle.liang.specs.Patterns.{Pattern}
use Rattle.liang.specs.Levels.{begins}

-- Symbols: 1 to 28.
unfoldable pub all_symbols : List ℕ → Bool
all_symbols [] = true
all_symbols (s ∷ u) = (leb 1 s && leb s symbol_limit) && all_symbols u

abbrev pub no_pattern : Pattern
no_pattern = record { symbols = []; levels = [] }

-- A pattern by its number in the list.
abbrev pub nth : List Pattern → ℕ → Pattern
nth patterns i = get_or patterns i no_pattern

-- "every beginning of a pattern, from one symbol up"
pub record Beginning (patterns : List Pattern) (u : List ℕ) : Type 0 where
  pub some : 0 < length u
  pub at : ℕ
  pub within : at < length patterns
  pub stands : begins u (nth patterns at).symbols ≡ true

-- A pattern as a good line holds it.
pub record Shaped (p : Pattern) : Type 0 where
  pub some : 0 < length p.symbols
  pub short : length p.symbols ≤ pattern_limit
  pub alphabet : all_symbols p.symbols ≡ true
  pub measured : length p.levels ≡ suc (length p.symbols)

-- "strictly ascend": every pattern's symbols stand before those of every later one.
abbrev pub Sorted : List Pattern → Type 0
Sorted patterns = (i j : ℕ) → i < j → j < length patterns → before (nth patterns i).symbols (nth patterns j).symbols ≡ true
