-- Phases 2 to 4 of 004 one after the other, under one budget. Phase 1, the exception dictionary, "is left out".
use Rattle.std.specs.Prelude.{ℕ, ◌-◌, cond, List, leb, length}
use Rattle.base.specs.Limits.{short_word1980}
use Rattle.sheet1980.specs.Sheet.{sheet_of}
use Rattle.suffix1980.specs.Suffixes.{infinity, Suffixed, phase2}
use Rattle.suffix1980.specs.Suffixes as suffix
use Rattle.prefix1980.specs.Prefixes.{Prefixed, phase3}
use Rattle.prefix1980.specs.Prefixes as prefix
use Rattle.middle1980.specs.Middles.{phase4}

-- "Ran out", or finale, the sheet with its marks and how many instructions were executed.
pub data Outcome : Type 0 where
  RanOut : Outcome
  Marked : ℕ → List ℕ → ℕ → Outcome

unfoldable pub from_prefixes : ℕ → ℕ → ℕ → Prefixed → Outcome
from_prefixes budget n finale prefix.RanOut = RanOut
from_prefixes budget n finale (prefix.Stopped left m) = Marked finale (phase4 n finale m) (budget - left)

unfoldable pub from_suffixes : ℕ → ℕ → Suffixed → Outcome
from_suffixes budget n suffix.RanOut = RanOut
from_suffixes budget n (suffix.Stopped left finale sheet) = from_prefixes budget n finale (phase3 left sheet)

-- The machines on a sheet of n letters: what the first leaves of the budget is the second's.
unfoldable pub run : ℕ → ℕ → List ℕ → Outcome
run budget n sheet = from_suffixes budget n (phase2 budget n sheet)

-- A word of letters. "Those of 1 to 4 letters have no break and execute nothing."
unfoldable pub machine : ℕ → List ℕ → Outcome
machine budget word = cond (leb (length word) short_word1980) (Marked infinity (sheet_of word) 0) (run budget (length word) (sheet_of word))
